-- Items that are counted one after the other by the offset after each: the loop, and what it has to do with the definition's reading.
use Prim.Native.Nat.{ℕ, zero, suc, ◌+◌, ◌≤◌, ◌<◌}
use mathlib.Core.Path.{◌≡◌, ◌∙◌, ap, sym, refl}
use mathlib.Core.Bool.{Bool, true, false}
use mathlib.Core.List.{List, ◌∷◌}
use native.Mathlib.Omega.{arith}
use lib.Dec.{eqb}
use lib.ListN.{length}
use borrow.Author.Tests.{eq-eqb, ne_eqb}
use Rattle.std.specs.Prelude.{Result, Ok, Err}
use Rattle.definition.specs.Basic.{pick}
use Rattle.definition.specs.Decode.{Decoded, decoded, malformed, then, items}
use Rattle.bytecode.specs.declared.Malformed.{Malformed}
use Rattle.bytecode.specs.Checked.{item, filled, wrong, checked, behind, counted}
use Rattle.bytecode.proofs.Fields.{item_next}

-- counting is reading, and then the number of what was read
pub counted-items : {A : Type 0} (f : ℕ → ℕ → Decoded A) (end most at : ℕ) (xs : List A) {count : ℕ} → length xs ≡ count
    → counted (λ (p : ℕ). item (f p end)) end most count at ≡ checked (items f most xs at end)
unfolding counted items
counted-items f end zero at xs {count} e = go (eqb at end)
  where
    go : (b : Bool) → pick b (filled count at) (wrong at) ≡ checked (pick b (decoded xs at) (malformed at))
    go true = ap (λ n. filled n at) (sym e)
    go false = refl
counted-items f end (suc most) at xs {count} e = go (eqb at end) (f at end) (λ x at₁. counted-items f end most at₁ (x ∷ xs) (omega (arith, e)))
  where
    go : (b : Bool) (d : Decoded _) → ((x : _) (at₁ : ℕ) → counted (λ (p : ℕ). item (f p end)) end most (count + 1) at₁ ≡ checked (items f most (x ∷ xs) at₁ end))
        → pick b (filled count at) (behind (item d) (counted (λ (p : ℕ). item (f p end)) end most (count + 1)))
        ≡ checked (pick b (decoded xs at) (then d (λ x at₁. items f most (x ∷ xs) at₁ end)))
    go true d h = ap (λ n. filled n at) (sym e)
    go false (decoded x at₁) h = h x at₁
    go false (malformed p) h = refl

-- an item that is read ends as the reading says
pub item_ends : {A : Type 0} (f : ℕ → ℕ → Decoded A) (at end : ℕ) → ((x : A) (n : ℕ) → f at end ≡ decoded x n → (at < n) × (n ≤ end))
    → {n : ℕ} → Ok n ≡ item (f at end) → (at < n) × (n ≤ end)
item_ends f at end bounds {n} e = let p = item_next (f at end) e refl in bounds p.0 n p.1

module _ (goes : ℕ → Result ℕ Malformed → Type 0) (end most start : ℕ) where
  -- what a check answers before the end is what comes next
  abbrev pub Follows : (ℕ → Result ℕ Malformed) → Type 0
  Follows next = (at : ℕ) (r : Result ℕ Malformed) → at < end → goes at r → r ≡ next at

  -- the loop at an offset, after so many items
  pub record Loop (at count : ℕ) : Type 0 where
    pub order : at ≤ end
    pub rest : ℕ
    pub few : count + rest ≡ most
    pub same : (next : ℕ → Result ℕ Malformed) → Follows next → counted next end most 0 start ≡ counted next end rest count at

  pub counting_begins : start ≤ end → Loop start 0
  counting_begins h = record { order = h; rest = most; few = omega arith; same = λ next f. refl }

  module _ {at count : ℕ} (l : Loop at count) (next : ℕ → Result ℕ Malformed) (f : Follows next) where
    pub counting_ends : end ≤ at → filled count at ≡ counted next end most 0 start
    unfolding counted
    counting_ends h = sym (l.same next f ∙ go l.rest)
      where
        go : (rest : ℕ) → counted next end rest count at ≡ filled count at
        go zero = rw (eq-eqb at end (omega (arith, l.order)))
        go (suc rest) = rw (eq-eqb at end (omega (arith, l.order)))

    pub counting-full : at < end → count ≡ most → wrong at ≡ counted next end most 0 start
    unfolding counted
    counting-full h e = sym (l.same next f ∙ go l.rest (omega (arith, l.few)))
      where
        go : (rest : ℕ) → rest ≡ 0 → counted next end rest count at ≡ wrong at
        go zero i = rw (ne_eqb at end (λ j. omega arith))
        go (suc rest) i = absurd (omega arith)

    pub counting-wrong : at < end → (count ≡ most → ⊥) → {x : Malformed} → goes at (Err x) → Err x ≡ counted next end most 0 start
    unfolding counted
    counting-wrong h n {x} g = sym (l.same next f ∙ go l.rest l.few)
      where
        go : (rest : ℕ) → count + rest ≡ most → counted next end rest count at ≡ Err x
        go zero i = absurd (n (omega arith))
        go (suc rest) i = rw (ne_eqb at end (λ j. omega arith), ← f at (Err x) h g)

  pub counting_again : {at count n : ℕ} → Loop at count → at < end → (count ≡ most → ⊥) → n ≤ end → goes at (Ok n) → Loop n (count + 1)
  unfolding counted
  counting_again {at} {count} {n} l h m o g = go l.rest l.few l.same
    where
      one : (rest : ℕ) (next : ℕ → Result ℕ Malformed) → Follows next → counted next end (suc rest) count at ≡ counted next end rest (count + 1) n
      one rest next f = rw (ne_eqb at end (λ j. omega arith), ← f at (Ok n) h g)

      go : (rest : ℕ) → count + rest ≡ most → ((next : ℕ → Result ℕ Malformed) → Follows next → counted next end most 0 start ≡ counted next end rest count at) → Loop n (count + 1)
      go zero i s = absurd (m (omega arith))
      go (suc rest) i s = record { order = o; rest = rest; few = omega arith; same = λ next f. s next f ∙ one rest next f }
