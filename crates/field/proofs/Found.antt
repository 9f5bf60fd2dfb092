-- A search among fields, one after the other: what it stopped at is the first that has the name.
use Rattle.std.proofs.Common.{◌≡◌, ℕ, ◌+◌, Bool, true, false, List, [], ◌∷◌, length, Option, Some, None, refl, sym, ap, ◌∙◌, subst, arith}
use denote.Param.Members.{Mut}
use Rattle.std.specs.Fn.{Called}
use Rattle.std.specs.Iterator.{Yields, YieldsThen}
use Rattle.std.specs.List.{FoldsTo}
use Rattle.std.specs.Option.{MatchOption}
use Rattle.definition.specs.Basic.{Bytes}
use Rattle.definition.specs.SymbolTable.{same, find_builtin}
use Rattle.field.specs.Layout.{content}
use Rattle.field.specs.Row.{HasRow, found_of}
use Rattle.field.specs.Fields.{Gives}
use Rattle.field.specs.declared.fields.Fields.{Fields}
use Rattle.field.proofs.EachField.{Over, over_again, is_before, is_behind, is_over}
use Rattle.field.proofs.Rows.{Searching, search_begins, search_hit, search_miss, search_none}

-- the search after some fields
record Goes (b : Bytes) (from to : ℕ) (name : Bytes) (t : Fields) (k : ℕ) : Type 0 where
  over : Over b to t
  search : Searching b from to name t.at k

module _ {b : Bytes} {from to : ℕ} (name : Bytes) {F : Type 0} {g : Mut F (ℕ × Unit {0}) Bool} {p : F} (tells : (x : ℕ) (t : Bool) (q : F) → Called g p (x, tt) t q → (q ≡ p) × (t ≡ same name (content b x))) where
  goes : (xs : List ℕ) {s t : Fields} {j q : F} (k : ℕ) → Goes b from to name s k → j ≡ p → Yields Gives s xs t → FoldsTo (λ p x q. Called g p (x, tt) false q) j xs q → Goes b from to name t (length xs + k) × (q ≡ p)
  goes [] {t = t} k w e y f =
      let none : k ≡ 0 + k = omega arith in
      (subst (λ m. Goes b from to name t m) none (subst (λ s. Goes b from to name s k) y w), sym f ∙ e)
  goes (x ∷ xs) {t = t} k w e y f =
      let n = y.1 in
      let told = tells x false f.0 (subst (λ j. Called g j (x, tt) false f.0) e f.1) in
      let s = subst (λ at. Searching b from to name at k) (sym n.here) w.search in
      let one : length xs + (k + 1) ≡ length (x ∷ xs) + k = omega arith in
      let m = goes xs (k + 1) (record {
        over = over_again w.over n;
        search = subst (λ at. Searching b from to name at (k + 1)) (sym (is_behind w.over n)) (search_miss s (is_before w.over n) (sym told.1));
      }) told.0 y.2 f.2 in
      (subst (λ m. Goes b from to name t m) one m.0, m.1)

  -- none has it, or the one behind so many does
  pub is_found : {s u : Fields} (r : Option ℕ) → Over b to s → s.at ≡ from
      → (xs : List ℕ) × (o : Option ℕ) × (q : F) × YieldsThen Gives s xs o u × FoldsTo (λ p x q. Called g p (x, tt) false q) p xs q × MatchOption o (r ≡ None) (λ x. (r ≡ Some (length xs)) × ((h : F) × Called g q (x, tt) true h))
      → (h : HasRow b from to) → found_of r ≡ find_builtin name h.names 0
  is_found {s} {u} r e a (xs, o, q, y, f, m) h =
      let z : length xs + 0 ≡ length xs = omega arith in
      let w = goes xs 0 (record { over = e; search = subst (λ at. Searching b from to name at 0) (sym a) (search_begins name h) }) refl y.1 f in
      by o y.2 m (subst (λ k. Goes b from to name y.0 k) z w.0) w.1
    where
      by : (o : Option ℕ) → Gives y.0 o u → MatchOption o (r ≡ None) (λ x. (r ≡ Some (length xs)) × ((h : F) × Called g q (x, tt) true h)) → Goes b from to name y.0 (length xs) → q ≡ p → found_of r ≡ find_builtin name h.names 0
      by None n m w z = ap found_of m ∙ search_none w.search (is_over w.over n) h
      by (Some x) n m w z =
          let told = tells x true m.1.0 (subst (λ j. Called g j (x, tt) true m.1.0) z m.1.1) in
          ap found_of m.0 ∙ search_hit (subst (λ at. Searching b from to name at (length xs)) (sym n.here) w.search) (is_before w.over n) (sym told.1) h
