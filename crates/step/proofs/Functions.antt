-- A function is entered.
use Prim.Native.Nat.{ℕ, ◌+◌, ◌≤◌, ◌<◌}
use native.Mathlib.Omega.{arith}
use native.Mathlib.Numerals.{add-one}
use mathlib.Core.List.{List, [], ◌∷◌}
use mathlib.Core.Path.{◌≡◌, refl, ap, ◌∙◌}
use lib.ListN.{length}
use borrow.Author.Tests.{le-leb, lt-leb, lt-ltb, le-ltb}
use Rattle.definition.specs.Basic.{Bytes}
use Rattle.definition.specs.Limit.{code_size, nesting_limit, arguments_limit}
use Rattle.definition.specs.Number
use Rattle.definition.specs.SymbolTable.{named, with_params}
use Rattle.definition.specs.Walk.{on, refuse}
use Rattle.field.specs.Layout.{content, after, Whole}
use Rattle.field.specs.Row.{RowTo}
use Rattle.tree.specs.At.{Row, NamedAt, ParamsAt}
use Rattle.symbol_table.specs.Layout.{globals_of, tables_of}
use Rattle.symbol_table.specs.Contract as Symbol
use Rattle.symbol_table.specs.Contract.{HasParams}
use Rattle.scope.specs.declared.State.{State}
use Rattle.definition.specs.Number.{refusal}
use Rattle.scope.specs.declared.lent.Scope.{Scope}
use Rattle.std.specs.Prelude.{Ok, Err}
use Rattle.scope.specs.View.{view, Fits}
use Rattle.scope.specs.Machine.{inside, enter}
use Rattle.step.specs.Memory.{rest, names_of, symbols_of, settled, FineState}
use Rattle.step.specs.Contract.{HeadAt, Enters}
use Rattle.step.specs.Lent.{EntersOn}
use Rattle.step.proofs.Memory.{stop_deeper, on_deeper}
use Rattle.definition.specs.declared.reason.Reason.{Reason}

-- Parameters in a row

module _ (tree : Bytes) where
  pub row_to : (at end : ℕ) (ps : List Bytes) → Row tree (NamedAt tree 1) at end ps → RowTo tree end at ps
  row_to at end [] h = RowTo.end h
  row_to at end (x ∷ xs) h = RowTo.more h.1.is h.0 (row_to (after tree at) end xs h.2)

  -- the parameters of a function, few enough
  abbrev pub has_params : {at : ℕ} {ps : List Bytes} → ParamsAt tree at ps → length ps ≤ arguments_limit → HasParams tree (at + 3) (after tree at)
  has_params {at} {ps} x f = record { row = record { names = ps; row = row_to (at + 3) (after tree at) ps x.names.row; within = x.whole.fits }; few = f }

module _ {tree : Bytes} {p n : ℕ} (h : HeadAt tree p n) where
  params_count : {ps : List Bytes} → ParamsAt tree (after tree (p + 3)) ps → n ≡ length ps
  params_count {ps} x = h.counted.names ps x.names

  pub params_whole : Whole tree (after tree (p + 3))
  params_whole = h.params.1.whole

  pub params_stand : n ≤ arguments_limit → HasParams tree (after tree (p + 3) + 3) (after tree (after tree (p + 3)))
  params_stand g = let x = h.params.1 in has_params tree x (rw (params_count x) at g)

  -- a test that refuses
  module _ {t : List ℕ} {s : Scope} where
    refused_enters : {k : Reason} → ((c e : Bytes) (ps : List Bytes) → n ≡ length ps → refuse k p (view c e (symbols_of tree (rest e t) s.state) s.state) ≡ enter p (content tree (p + 3)) ps (view c e (symbols_of tree (rest e t) s.state) s.state))
        → EntersOn tree p t t s s (Err (refusal k p))
    refused_enters m =
        record {
          enters = λ e f. record { step = λ ps x. ap settled (m s.code.now e ps (params_count x)); ready = record { area = s.area; sound = tt }; fine = tt; inside = stop_deeper };
          code = refl;
          same = refl;
        }

    pub enter-nested : nesting_limit ≤ s.state.level → EntersOn tree p t t s s (Err (refusal Number.nesting p))
    unfolding enter
    enter-nested l = refused_enters (λ c e ps _. rw (le-leb nesting_limit s.state.level l))

    module _ (l : s.state.level < nesting_limit) where
      pub enter-many : arguments_limit < n → EntersOn tree p t t s s (Err (refusal Number.too_many p))
      unfolding enter
      enter-many g = refused_enters (λ c e ps m. rw (lt-leb nesting_limit s.state.level l, lt-ltb arguments_limit (length ps) (rw m at g)))

  module _ {t : List ℕ} (s : State) (l : s.level < nesting_limit) (g : n ≤ arguments_limit) {t' : List ℕ} (x : (h : HasParams tree (after tree (p + 3) + 3) (after tree (after tree (p + 3)))) → Symbol.Enters tree s.level (p + 3) h.row.names t t') where
    -- the table is that of the parameters
    entered_tables : (ps : List Bytes) → ParamsAt tree (after tree (p + 3)) ps → tables_of tree (s.level + 1) t' ≡ with_params ps (named (content tree (p + 3))) ∷ tables_of tree s.level t
    entered_tables ps y = ap (λ l. tables_of tree l t') (add-one s.level) ∙ (x (has_params tree y (rw (params_count y) at g))).tables

    entered_step : (c e : Bytes) (ps : List Bytes) → ParamsAt tree (after tree (p + 3)) ps
        → on tt (view c e (symbols_of tree (rest e t') (inside s)) (inside s)) ≡ enter p (content tree (p + 3)) ps (view c e (symbols_of tree (rest e t) s) s)
    unfolding enter
    entered_step c e ps y =
        rw (lt-leb nesting_limit s.level l, le-ltb arguments_limit (length ps) (rw (params_count y) at g))
        (λ u. on tt (view c e (record { globals = globals_of tree (names_of e s) ((x (params_stand g)).globals u); tables = entered_tables ps y u }) (inside s)))

    entered_fine : {e : Bytes} → length t' ≡ length t → FineState tree (rest e t) s → FineState tree (rest e t') (inside s)
    entered_fine {e} k f =
        record {
          words = f.words;
          symbols = rw (add-one s.level) ((x (params_stand g)).good (names_of e s) f.symbols);
          level = omega arith;
          area = rw k f.area;
          pool = record { area = f.pool.area; room = f.pool.room; start = f.pool.start; end = f.pool.end };
        }

    pub enter-on : {c : Bytes} {s' : State} → code_size ≤ length c → Fits s → length t' ≡ length t → s' ≡ inside s → (e : Bytes) → FineState tree (rest e t) s → Enters tree p c (rest e t) (rest e t') (Ok s) (Ok s')
    enter-on {c} a h k i e f =
        rw i
        (record {
          step = λ ps y. ap settled (entered_step c e ps y);
          ready = record { area = a; sound = record { room = omega (arith, h); last = omega arith; prev = omega arith } };
          fine = entered_fine k f;
          inside = on_deeper refl refl;
        })
