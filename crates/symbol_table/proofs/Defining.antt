-- Definitions, and a function that is entered.
use Prim.Native.Nat.{ℕ, suc, ◌≤◌, ◌<◌}
use mathlib.Core.Path.{◌≡◌, refl, sym, ◌∙◌}
use mathlib.Core.List.{List, [], ◌++◌}
use native.Mathlib.Omega.{arith}
use lib.ListN.{length, get_or, take, drop}
use lib.Seq.{take_at, drop_at}
use borrow.Author.Tests.{le-leb, lt-leb}
use Rattle.definition.specs.Basic.{Bytes}
use Rattle.definition.specs.Limit.{globals_limit, locals_limit}
use Rattle.definition.specs.Decode.{words_in}
use Rattle.field.specs.Layout.{len}
use Rattle.symbol_table.specs.Name.{Stands}
use Rattle.symbol_table.specs.Layout.{globals_size, part_size, base, table_of, tables_of, globals_in, Sized, Good}
use Rattle.symbol_table.specs.Store.{entered_in, local_in}
use Rattle.symbol_table.specs.Contract.{Definition, IsName, Inside, Adds, DefinesGlobal, DefinesLocal, Defines, Params, Opens, Enters}
use Rattle.std.specs.Prelude.{Ok, Err}
use Rattle.symbol_table.specs.declared.Slot.TheVariants.{Global, Local}
use Rattle.symbol_table.specs.declared.DefineError.TheVariants.{GlobalsFull, LocalsFull}
use Rattle.symbol_table.proofs.Pushing.{globals-length}
use Rattle.symbol_table.proofs.Adding.{new_names, new_good}
use Rattle.symbol_table.proofs.Tables.{local_table, local_part, entered_table, entered_unmarked}
use Rattle.symbol_table.proofs.Slices.{take-agree}
use Rattle.symbol_table.proofs.Levels.{tables_agree, good_agree, base_more}

-- in a function's part
module _ (r : List ℕ) (name hash : ℕ) where
  definitions : (tree : Bytes) → (table_of tree r).definitions ≡ get_or r 1 0
  unfolding table_of
  definitions tree = refl

  pub locals_full : locals_limit ≤ get_or r 1 0 → DefinesLocal name hash (Err LocalsFull) r r
  locals_full h = record { defined = λ tree gs ts. rw (definitions tree, le-leb locals_limit (get_or r 1 0) h); good = λ ws gs tree n g. g }

  pub local_defined : Sized r → get_or r 1 0 < locals_limit → name < 32768 → DefinesLocal name hash (Ok (Local (get_or r 1 0))) r (local_in r name hash)
  local_defined s room below =
      record {
        defined = λ tree gs ts. rw (local_table r name hash s room below tree, definitions tree, lt-leb locals_limit (get_or r 1 0) room);
        good = local_part r name hash s room below;
      }

-- among the globals
module _ (tree : Bytes) (g : List ℕ) (name : ℕ) where
  pub globals_full : globals_limit ≤ get_or g 0 0 → DefinesGlobal tree name (Err GlobalsFull) g g
  globals_full h = record { defined = λ names. rw (globals-length g tree names, le-leb globals_limit (get_or g 0 0) h); good = λ names x. x }

  pub global_defined : (g' : List ℕ) → length g ≡ globals_size → get_or g 0 0 < globals_limit → name < 32768 → Stands tree name → Adds tree 1 name g g' → DefinesGlobal tree name (Ok (Global (get_or g 0 0))) g g'
  global_defined g' size room small whole a =
      record {
        defined = λ names. rw (new_names tree names g g' name size room (omega arith) a, globals-length g tree names, lt-leb globals_limit (get_or g 0 0) room);
        good = λ names x. new_good tree names g g' name room (omega arith) x whole a;
      }

-- in the whole area
module _ (a : List ℕ) (level name : ℕ) where
  module _ (tree : Bytes) (hash : ℕ) (n : IsName tree name hash) (answer : Definition) where
    pub defined_global : (g' : List ℕ) → level ≡ 0 → length g' ≡ globals_size → DefinesGlobal tree name answer (take globals_size a) g' → Defines tree level name answer a (g' ++ drop globals_size a)
    unfolding tables_of Good
    defined_global g' e size x =
        let whole : take globals_size (g' ++ drop globals_size a) ≡ g' = take_at g' (drop globals_size a) globals_size size in
        rw e
        (record {
          defined = λ names. rw whole (x.defined names);
          good = λ names h. rw whole (x.good names h);
          above = drop_at g' (drop globals_size a) globals_size size;
        })

    pub defined_local : (l : ℕ) (a' : List ℕ) → level ≡ suc l → Inside (DefinesLocal name hash answer) l a a' → Defines tree level name answer a a'
    unfolding tables_of Good
    defined_local l a' e x =
        rw e
        (record {
          defined = λ names.
              rw (take-agree globals_size (base l) a' a (omega arith) x.below, tables_agree tree names l a' a x.below)
              (x.here.defined tree (globals_in tree names a) (tables_of tree l a));
          good = λ names h.
              let e : take globals_size a' ≡ take globals_size a = take-agree globals_size (base l) a' a (omega arith) x.below in
              (rw e (x.here.good (words_in names) (globals_in tree names a) tree n h.0), good_agree tree names l a a' (sym x.below) h.1);
          above = rw base_more x.above;
        })

  pub entered : (tree : Bytes) (names : List Bytes) (a' : List ℕ) → Inside (λ r r'. Opens tree name names r') level a a' → Enters tree level name names a a'
  unfolding tables_of Good
  entered tree names a' x =
      record {
        tables = rw (x.here.table, tables_agree tree [] level a' a x.below);
        globals = take-agree globals_size (base level) a' a (omega arith) x.below;
        good = λ names h.
            (record { table = x.here.good; marks = record { order = omega (arith, x.here.unmarked); each = λ i l. absurd (omega (arith, x.here.unmarked)) } }, good_agree tree names level a a' (sym x.below) h);
        above = rw base_more x.above;
      }

pub opened : (tree : Bytes) (r r₁ r₂ : List ℕ) (name hash : ℕ) (names : List Bytes) → length r ≡ part_size → name < 32768 → Stands tree name → r₁ ≡ entered_in r name hash (len tree name) → Params tree names r₁ r₂ → Opens tree name names r₂
opened tree r r₁ r₂ name hash names size below s e x = record { table = x.table ∙ rw (e, entered_table tree name hash below s r size); good = x.good; unmarked = x.marked ∙ rw e (entered_unmarked r name hash (len tree name) size) }
