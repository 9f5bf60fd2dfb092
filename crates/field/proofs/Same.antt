-- Two names, byte by byte.
use Prim.Native.Nat.{ℕ, suc, ◌+◌, ◌≤◌, ◌<◌}
use mathlib.Core.Path.{◌≡◌, refl, ap}
use mathlib.Core.Bool.{Bool, true, false}
use mathlib.Core.List.{List, [], ◌∷◌}
use native.Mathlib.Numerals.{add-one}
use lib.ListN.{length, get_or, drop, drop_of_length-le}
use lib.Seq.{drop-cons}
use lib.Dec.{eqb}
use borrow.Author.Tests.{eq-eqb, ne_eqb}
use Rattle.definition.specs.Basic.{pick}
use Rattle.definition.specs.SymbolTable.{same}

pick_both : (b : Bool) → pick b false false ≡ false
pick_both true = refl
pick_both false = refl

pub same_lengths : (x y : List ℕ) → (length x ≡ length y → ⊥) → same x y ≡ false
unfolding same
same_lengths [] [] h = absurd (h refl)
same_lengths [] (b ∷ y) h = refl
same_lengths (a ∷ x) [] h = refl
same_lengths (a ∷ x) (b ∷ y) h = rw (same_lengths x y (λ e. h (ap suc e))) (pick_both (eqb a b))

module _ (x y : List ℕ) (i : ℕ) (hx : i < length x) (hy : i < length y) where
  pub same_step : get_or x i 0 ≡ get_or y i 0 → same (drop i x) (drop i y) ≡ same (drop (i + 1) x) (drop (i + 1) y)
  unfolding same
  same_step e = rw (drop-cons x i 0, drop-cons y i 0, add-one, eq-eqb (get_or x i 0) (get_or y i 0) e)

  pub same_differ : (get_or x i 0 ≡ get_or y i 0 → ⊥) → same (drop i x) (drop i y) ≡ false
  unfolding same
  same_differ h = rw (drop-cons x i 0, drop-cons y i 0, ne_eqb (get_or x i 0) (get_or y i 0) h)

pub same_none : (x y : List ℕ) (i : ℕ) → length x ≤ i → length y ≤ i → same (drop i x) (drop i y) ≡ true
unfolding same
same_none x y i hx hy = rw (drop_of_length-le x hx, drop_of_length-le y hy)
