-- A lookup comes back through a function's part.
use Prim.Native.Nat.{ℕ, ◌+◌, ◌-◌, ◌≤◌, ◌<◌}
use mathlib.Core.Path.{◌≡◌, refl, sym, ap, ◌∙◌}
use mathlib.Core.Bool.{Bool, true, false}
use mathlib.Core.List.{List, ◌∷◌}
use native.Mathlib.Omega.{arith}
use lib.ListN.{length, get_or}
use lib.Dec.{ltb}
use borrow.Author.Tests.{lt-ltb, le-ltb, lt-leb, le-leb}
use Rattle.definition.specs.Basic.{Bytes}
use Rattle.definition.specs.Basic.{pick}
use Rattle.definition.specs.Limit.{free_limit}
use Rattle.definition.specs.SymbolTable.{Symbol, Table, Resolved, capture, cross}
use Rattle.field.specs.Layout.{content}
use Rattle.symbol_table.specs.Layout.{originals_at, symbol_of, code_of, Sized, table_of}
use Rattle.symbol_table.specs.Store.{free_in}
use Rattle.symbol_table.specs.Contract.{Crosses}
use Rattle.std.specs.Prelude.{Ok, Err}
use Rattle.symbol_table.specs.declared.Found.{Found}
use Rattle.symbol_table.specs.declared.LookupError.TheVariants.{Full}
use Rattle.symbol_table.proofs.Back.{length_back}
use Rattle.symbol_table.proofs.Codes.{symbol_free, far_code, near_code}
use Rattle.symbol_table.specs.Symbols.{meant_by}
use Rattle.symbol_table.specs.declared.Symbol as met
use Rattle.symbol_table.specs.declared.Symbol.TheVariants.{Function, Local, Free, Builtin, Global}
use Rattle.symbol_table.proofs.Tables.{free-table, free_part}

-- the symbol of a code tells whether it is a builtin or a global
module _ {c : ℕ} where
  pub is_builtin : {s : met.Symbol} {k : ℕ} → s ≡ Builtin k → meant_by s ≡ symbol_of c → 768 ≤ c
  is_builtin {k = k} p e = far_code c (omega (arith, ap code_of (ap meant_by (sym p) ∙ e)))

  pub is_global : {s : met.Symbol} {k : ℕ} → s ≡ Global k → meant_by s ≡ symbol_of c → 768 ≤ c
  is_global {k = k} p e = far_code c (omega (arith, ap code_of (ap meant_by (sym p) ∙ e)))

  pub is_near : (s : met.Symbol) → ((k : ℕ) → s ≡ Builtin k → ⊥) → ((k : ℕ) → s ≡ Global k → ⊥) → meant_by s ≡ symbol_of c → c < 768
  is_near Function b g e = near_code c (sym (ap code_of e))
  is_near (Local k) b g e = near_code c (sym (ap code_of e))
  is_near (Free k) b g e = near_code c (sym (ap code_of e))
  is_near (Builtin k) b g e = absurd (b k refl)
  is_near (Global k) b g e = absurd (g k refl)

module _ (n : Bytes) (t : Table) (ts : List Table) (x y : ℕ) where
  far : (b : Bool) → cross n t (Resolved.found (pick b (Symbol.builtin x) (Symbol.global y)) ts) ≡ Resolved.found (pick b (Symbol.builtin x) (Symbol.global y)) (t ∷ ts)
  far true = refl
  far false = refl

  near : (a b : Bool) → cross n t (Resolved.found (pick a Symbol.function (pick b (Symbol.local x) (Symbol.free y))) ts) ≡ capture n (pick a Symbol.function (pick b (Symbol.local x) (Symbol.free y))) t ts
  near true b = refl
  near false true = refl
  near false false = refl

module _ (n : Bytes) (t : Table) (ts : List Table) (c : ℕ) where
  far_crosses : 768 ≤ c → cross n t (Resolved.found (symbol_of c) ts) ≡ Resolved.found (symbol_of c) (t ∷ ts)
  unfolding symbol_of
  far_crosses h = rw (le-ltb c 256 (omega arith), le-ltb c 512 (omega arith), le-ltb c 768 h) (far n t ts (c - 768) (c - 1024) (ltb c 1024))

  near_crosses : c < 768 → cross n t (Resolved.found (symbol_of c) ts) ≡ capture n (symbol_of c) t ts
  unfolding symbol_of
  near_crosses k = rw (lt-ltb c 768 k) (near n t ts (c - 256) (c - 512) (ltb c 256) (ltb c 512))

originals : (tree : Bytes) (r : List ℕ) → length (table_of tree r).originals ≡ get_or r 2 0
unfolding table_of
originals tree r = length_back symbol_of r originals_at (get_or r 2 0)

module _ (r : List ℕ) (name hash : ℕ) where
  pub crosses_far : (f : Found) → 768 ≤ f.code → Crosses name hash (Ok f) (Ok (record { code = f.code; crossed = f.crossed + 1 })) r r
  crosses_far f h = record { further = refl; resolved = λ tree ts. sym (far_crosses (content tree name) (table_of tree r) ts f.code h); good = λ ws gs tree n g. g }

  pub crosses_none : (f : Found) → f.code < 768 → free_limit ≤ get_or r 2 0 → Crosses name hash (Ok f) (Err Full) r r
  crosses_none f k full =
      record { further = tt; resolved = λ tree ts. sym (near_crosses (content tree name) (table_of tree r) ts f.code k ∙ rw (originals tree r, le-leb free_limit (get_or r 2 0) full)); good = λ ws gs tree n g. g }

  pub crosses_free : (f : Found) → f.code < 768 → get_or r 2 0 < free_limit → Sized r → name < 32768 → Crosses name hash (Ok f) (Ok (record { code = 512 + get_or r 2 0; crossed = f.crossed + 1 })) r (free_in r name hash f.code)
  crosses_free f k room s below =
      record {
        further = refl;
        resolved = λ tree ts.
            rw (
              free-table r name hash f.code s room below tree,
              near_crosses (content tree name) (table_of tree r) ts f.code k,
              originals tree r,
              lt-leb free_limit (get_or r 2 0) room,
              symbol_free (get_or r 2 0) (omega arith),
            );
        good = free_part r name hash f.code s room below;
      }
