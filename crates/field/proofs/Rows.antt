-- Fields in a row: what is left decides.
use Prim.Native.Nat.{ℕ, ◌+◌, ◌≤◌, ◌<◌}
use native.Mathlib.Omega.{arith}
use mathlib.Core.Bool.{Bool, true, false}
use mathlib.Core.List.{List, [], ◌∷◌}
use mathlib.Core.Option.{none, some}
use Rattle.std.specs.Prelude.{Option, Some, None, is_some}
use mathlib.Core.Path.{◌≡◌, refl, sym, ap, ◌∙◌}
use Rattle.definition.specs.Basic.{Bytes, pick}
use Rattle.definition.specs.SymbolTable.{same, find_builtin, unfound, distinct}
use Rattle.field.specs.Layout.{after, content}
use Rattle.field.specs.Row.{RowTo, HasRow, found_of}

-- the first field of a row that goes on, and the others
pub record First (b : Bytes) (to at : ℕ) (ns : List Bytes) : Type 0 where
  pub rest : List Bytes
  pub is : ns ≡ content b at ∷ rest
  pub fits : after b at ≤ to
  pub row : RowTo b to (after b at) rest

pub row_first : {b : Bytes} {to at : ℕ} {ns : List Bytes} → RowTo b to at ns → at < to → First b to at ns
row_first (RowTo.end e) h = absurd (omega arith)
row_first (RowTo.more {ns = ns} e f r) h = record { rest = ns; is = ap (λ n. n ∷ ns) e; fits = f; row = r }

-- a row that is at its end has no more
pub row_none : {b : Bytes} {to at : ℕ} {ns : List Bytes} → RowTo b to at ns → to ≤ at → ns ≡ []
row_none (RowTo.end e) h = refl
row_none (RowTo.more e f r) h = absurd (omega arith)

-- fields have one reading
pub row_same : {b : Bytes} {to at : ℕ} {ns ms : List Bytes} → RowTo b to at ns → RowTo b to at ms → ns ≡ ms
row_same (RowTo.end e) s = sym (row_none s (omega arith))
row_same (RowTo.more {n = n} e f r) s =
    let x = row_first s (omega arith) in
    (λ i. e i ∷ row_same r x.row i) ∙ sym x.is

-- names that are left to compare: all of them decide as these do
pub record Left (b : Bytes) (to : ℕ) (name : Bytes) (all : List Bytes) (at k : ℕ) : Type 0 where
  pub names : List Bytes
  pub row : RowTo b to at names
  pub found : find_builtin name all 0 ≡ find_builtin name names k
  pub low : k ≤ at

module _ {b : Bytes} {to : ℕ} {name : Bytes} {all : List Bytes} {at k : ℕ} (x : Left b to name all at k) where
  pub left_hit : at < to → same name (content b at) ≡ true → some k ≡ find_builtin name all 0
  unfolding find_builtin
  left_hit h e = let f = row_first x.row h in sym (x.found ∙ ap (λ ns. find_builtin name ns k) f.is ∙ (λ i. pick (e i) (some k) (find_builtin name f.rest (k + 1))))

  pub left_miss : at < to → same name (content b at) ≡ false → Left b to name all (after b at) (k + 1)
  unfolding find_builtin
  left_miss h e =
      let f = row_first x.row h in
      let l = x.low in
      record { names = f.rest; row = f.row; found = x.found ∙ ap (λ ns. find_builtin name ns k) f.is ∙ (λ i. pick (e i) (some k) (find_builtin name f.rest (k + 1))); low = omega arith }

  pub left_none : to ≤ at → none ≡ find_builtin name all 0
  unfolding find_builtin
  left_none h = sym (x.found ∙ ap (λ ns. find_builtin name ns k) (row_none x.row h))

-- a search among the fields of a part, at an offset
pub record Searching (b : Bytes) (from to : ℕ) (name : Bytes) (at k : ℕ) : Type 0 where
  pub has : HasRow b from to
  pub left : Left b to name has.names at k

module _ {b : Bytes} {from to : ℕ} where
  pub search_begins : (name : Bytes) → HasRow b from to → Searching b from to name from 0
  search_begins name h = record { has = h; left = record { names = h.names; row = h.row; found = refl; low = omega arith } }

  -- the names are those of any reading
  names_same : (g h : HasRow b from to) → g.names ≡ h.names
  names_same g h = row_same g.row h.row

  module _ {name : Bytes} {at k : ℕ} (x : Searching b from to name at k) where
    pub search_hit : at < to → same name (content b at) ≡ true → (h : HasRow b from to) → some k ≡ find_builtin name h.names 0
    search_hit l e h = left_hit x.left l e ∙ ap (λ ns. find_builtin name ns 0) (names_same x.has h)

    pub search_miss : at < to → same name (content b at) ≡ false → Searching b from to name (after b at) (k + 1)
    search_miss l e = record { has = x.has; left = left_miss x.left l e }

    pub search_none : to ≤ at → (h : HasRow b from to) → none ≡ find_builtin name h.names 0
    search_none l h = left_none x.left l ∙ ap (λ ns. find_builtin name ns 0) (names_same x.has h)

-- names that are left to compare with those behind them: all are distinct as these are
pub record Comparing (b : Bytes) (from to at : ℕ) : Type 0 where
  pub has : HasRow b from to
  pub names : List Bytes
  pub row : RowTo b to at names
  pub same : distinct has.names ≡ distinct names

module _ {b : Bytes} {from to : ℕ} where
  pub compare_begins : HasRow b from to → Comparing b from to from
  compare_begins h = record { has = h; names = h.names; row = h.row; same = refl }

  module _ {at : ℕ} (x : Comparing b from to at) where
    -- the fields behind the first
    abbrev pub compare_behind : at < to → HasRow b (after b at) to
    compare_behind h = let f = row_first x.row h in record { names = f.rest; row = f.row; within = x.has.within }

    module _ (l : at < to) (f : Option ℕ) (e : (h : HasRow b (after b at) to) → found_of f ≡ find_builtin (content b at) h.names 0) where
      -- by what was found behind the first
      compared : (h : HasRow b from to) → distinct h.names ≡ unfound (found_of f) (distinct (compare_behind l).names)
      unfolding distinct
      compared h =
          ap distinct (row_same h.row x.has.row) ∙ x.same ∙ ap distinct (row_first x.row l).is ∙ ap (λ o. unfound o (distinct (compare_behind l).names)) (sym (e (compare_behind l)))

      pub compare_twice : is_some f ≡ true → (h : HasRow b from to) → false ≡ distinct h.names
      compare_twice q h = sym (compared h ∙ found_twice f (distinct (compare_behind l).names) q)
        where
          found_twice : (f : Option ℕ) (d : Bool) → is_some f ≡ true → unfound (found_of f) d ≡ false
          found_twice (Some k) d q = refl
          found_twice None d q = cc

      pub compare_again : is_some f ≡ false → Comparing b from to (after b at)
      compare_again q = record { has = x.has; names = (compare_behind l).names; row = (compare_behind l).row; same = compared x.has ∙ found_once f (distinct (compare_behind l).names) q }
        where
          found_once : (f : Option ℕ) (d : Bool) → is_some f ≡ false → unfound (found_of f) d ≡ d
          found_once (Some k) d q = cc
          found_once None d q = refl

    pub compare_none : to ≤ at → (h : HasRow b from to) → true ≡ distinct h.names
    unfolding distinct
    compare_none l h = sym (ap distinct (row_same h.row x.has.row) ∙ x.same ∙ ap distinct (row_none x.row l))
