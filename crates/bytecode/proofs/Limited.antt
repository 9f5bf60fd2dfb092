-- The loop that checks items of which there may be so many at most: one a turn.
use Prim.Native.Nat.{ℕ, ◌≤◌, ◌<◌}
use mathlib.Core.Path.{◌≡◌}
use mathlib.Core.List.{List, [], ◌∷◌}
use native.Mathlib.Omega.{arith}
use lib.ListN.{length}
use Rattle.definition.specs.Decode.{Decoded, decoded, malformed, items}
use Rattle.bytecode.proofs.Items.{Reading, begin, ends, full, wrong, again}

module _ {A : Type 0} (f : ℕ → ℕ → Decoded A) (most start end : ℕ) where
  -- the loop at an offset, behind some items
  pub record ItemsRead (at : ℕ) (xs : List A) : Type 0 where
    pub order : at ≤ end
    pub few : length xs ≤ most
    pub reading : Reading f end most start at xs

  pub items_begin : start ≤ end → ItemsRead start []
  items_begin h = record { order = h; few = omega arith; reading = begin f end most start }

  module _ {at : ℕ} {xs : List A} (h : ItemsRead at xs) where
    pub items_end : end ≤ at → items f most [] start end ≡ decoded xs at
    items_end e = ends f end h.reading (omega (arith, h.order))

    module _ (b : at < end) where
      pub items_full : length xs ≡ most → items f most [] start end ≡ malformed at
      items_full e = full f end h.reading (λ i. omega arith) e

      module _ (n : length xs ≡ most → ⊥) where
        pub items_wrong : {p : ℕ} → f at end ≡ malformed p → items f most [] start end ≡ malformed p
        items_wrong e = wrong f end h.reading (λ i. omega arith) (omega (arith, h.few)) e

        pub items_again : {x : A} {at₁ : ℕ} → at₁ ≤ end → f at end ≡ decoded x at₁ → ItemsRead at₁ (x ∷ xs)
        items_again l e =
            record { order = l; few = omega (arith, h.few); reading = again f end h.reading (λ i. omega arith) (omega (arith, h.few)) e }
