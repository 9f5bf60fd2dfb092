-- A loop that reads items one after the other: what is left to read decides.
use Prim.Native.Nat.{ℕ, zero, suc, ◌+◌, ◌≤◌, ◌<◌}
use mathlib.Core.Path.{◌≡◌, ◌∙◌, ap, refl}
use mathlib.Core.Bool.{Bool, true, false}
use mathlib.Core.List.{List, [], ◌∷◌}
use native.Mathlib.Omega.{arith}
use lib.Dec.{eqb}
use lib.ListN.{length}
use borrow.Author.Tests.{eq-eqb, ne_eqb, eqb-true}
use Rattle.definition.specs.Basic.{pick}
use Rattle.definition.specs.Decode.{Decoded, decoded, malformed, then, items}

-- what was read is not wrong
pub unlike : {A : Type 0} {p n : ℕ} {x : A} → ◌≡◌ {A = Decoded A} (malformed p) (decoded x n) → ⊥
unlike e = let z : ◌≡◌ {A = ℕ} 0 1 = cc in omega arith

module _ {A : Type 0} (f : ℕ → ℕ → Decoded A) (end : ℕ) where
  -- reading at the end stops, with what was read
  pub at-end : (rest : ℕ) (xs : List A) (at : ℕ) → at ≡ end → items f rest xs at end ≡ decoded xs at
  unfolding items
  at-end zero xs at e = rw (eq-eqb at end e)
  at-end (suc rest) xs at e = rw (eq-eqb at end e)

  -- before the end, where no item may follow, what follows is wrong
  pub too-many : (xs : List A) (at : ℕ) → (at ≡ end → ⊥) → items f 0 xs at end ≡ malformed at
  unfolding items
  too-many xs at n = rw (ne_eqb at end n)

  -- before the end the next item decides
  pub one_more : (rest : ℕ) (xs : List A) (at : ℕ) → (at ≡ end → ⊥)
      → items f (suc rest) xs at end ≡ then (f at end) (λ x at₁. items f rest (x ∷ xs) at₁ end)
  unfolding items
  one_more rest xs at n = rw (ne_eqb at end n)

  -- the loop stands at an offset, behind some items
  pub record Reading (most start at : ℕ) (xs : List A) : Type 0 where
    pub rest : ℕ
    pub left : length xs + rest ≡ most
    pub same : items f most [] start end ≡ items f rest xs at end

  pub begin : (most start : ℕ) → Reading most start start []
  begin most start = record { rest = most; left = omega arith; same = refl }

  module _ {most start at : ℕ} {xs : List A} (r : Reading most start at xs) where
    pub ends : at ≡ end → items f most [] start end ≡ decoded xs at
    ends e = r.same ∙ at-end r.rest xs at e

    pub full : (at ≡ end → ⊥) → length xs ≡ most → items f most [] start end ≡ malformed at
    full n e =
        let z : r.rest ≡ 0 = omega (arith, r.left) in
        r.same ∙ ap (λ (k : ℕ). items f k xs at end) z ∙ too-many xs at n

    -- the next item decides, where one may follow
    record Next : Type 0 where
      fewer : ℕ
      left : length xs + 1 + fewer ≡ most
      decides : items f most [] start end ≡ then (f at end) (λ x at₁. items f fewer (x ∷ xs) at₁ end)

    next : (at ≡ end → ⊥) → length xs < most → Next
    next n h = go r.rest refl
      where
        go : (m : ℕ) → r.rest ≡ m → Next
        go zero e = absurd (omega (arith, r.left))
        go (suc k) e =
            record {
              fewer = k;
              left = omega (arith, r.left);
              decides = r.same ∙ ap (λ (m : ℕ). items f m xs at end) e ∙ one_more k xs at n;
            }

    pub wrong : {p : ℕ} → (at ≡ end → ⊥) → length xs < most → f at end ≡ malformed p → items f most [] start end ≡ malformed p
    wrong n h e =
        let k = next n h in
        k.decides ∙ ap (λ (d : Decoded A). then d (λ x at₁. items f k.fewer (x ∷ xs) at₁ end)) e

    pub again : {x : A} {at₁ : ℕ} → (at ≡ end → ⊥) → length xs < most → f at end ≡ decoded x at₁ → Reading most start at₁ (x ∷ xs)
    again {x} {at₁} n h e =
        let k = next n h in
        record {
          rest = k.fewer;
          left = omega (arith, k.left);
          same = k.decides ∙ ap (λ (d : Decoded A). then d (λ y at₂. items f k.fewer (y ∷ xs) at₂ end)) e;
        }

-- items that were read go up to the end, and are as many as may be at most
pub record Ended {A : Type 0} (most end : ℕ) (xs ys : List A) (n : ℕ) : Type 0 where
  pub ends : n ≡ end
  pub few : length ys ≤ length xs + most

-- what a test picks, where the first is what was read up to the end
stopped : {A : Type 0} (most end at : ℕ) (xs : List A) {ys : List A} {n : ℕ} (d : Decoded (List A)) → (d ≡ decoded ys n → Ended most end xs ys n)
    → pick (eqb at end) (decoded xs at) d ≡ decoded ys n → Ended most end xs ys n
stopped most end at xs {ys} {n} d k e = go (eqb at end) refl
  where
    go : (b : Bool) → eqb at end ≡ b → Ended most end xs ys n
    go true t =
        let i : at ≡ end = eqb-true at end t in
        let j : at ≡ n = cc in
        let l : xs ≡ ys = cc in
        record { ends = cc; few = omega (arith, ap length l) }
    go false t = k (rw t at e)

pub ended : {A : Type 0} (f : ℕ → ℕ → Decoded A) (end most : ℕ) (xs : List A) (at : ℕ) {ys : List A} {n : ℕ}
    → items f most xs at end ≡ decoded ys n → Ended most end xs ys n
unfolding items
ended f end zero xs at e = stopped 0 end at xs (malformed at) (λ j. absurd (unlike j)) e
ended {A} f end (suc most) xs at {ys} {n} e = stopped (suc most) end at xs (more (f at end)) (go (f at end) (λ x at₁. ended f end most (x ∷ xs) at₁)) e
  where
    more : Decoded A → Decoded (List A)
    more d = then d (λ x at₁. items f most (x ∷ xs) at₁ end)

    go : (d : Decoded A) → ((x : A) (at₁ : ℕ) → items f most (x ∷ xs) at₁ end ≡ decoded ys n → Ended most end (x ∷ xs) ys n)
        → more d ≡ decoded ys n → Ended (suc most) end xs ys n
    go (decoded x at₁) ih j = let r = ih x at₁ j in record { ends = r.ends; few = omega (arith, r.few) }
    go (malformed p) ih j = absurd (unlike j)
