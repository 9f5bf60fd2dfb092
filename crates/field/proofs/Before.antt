-- What a content length that was found says of the field: it stands whole before the end; and none, that it does not.
use Prim.Native.Nat.{ℕ, ◌+◌, ◌≤◌}
use mathlib.Core.Bool.{Bool, true, false}
use mathlib.Core.Path.{◌≡◌, refl, ◌∙◌}
use native.Mathlib.Omega.{arith}
use lib.Dec.{leb}
use borrow.Author.Tests.{leb-true}
use Rattle.std.specs.Prelude.{Option, Some, None}
use Rattle.definition.specs.Basic.{Bytes, byte_at}
use Rattle.definition.specs.Field.{fits, head}
use Rattle.definition.proofs.Basic.{both_right}
use Rattle.field.specs.Layout.{len, after, len_before}

module _ (b : Bytes) (at end : ℕ) where
  -- the field stands whole, with this content length
  pub record Stands (n : ℕ) : Type 0 where
    pub fits : fits at end (head (byte_at b) at) ≡ true
    pub is : n ≡ len b at
    pub within : at + 3 + n ≤ end

  pub stands : {n : ℕ} → Some n ≡ len_before b at end → Stands n
  stands {n} e = go (fits at end (head (byte_at b) at)) refl
    where
      go : (t : Bool) → fits at end (head (byte_at b) at) ≡ t → Stands n
      go true t =
          let i : ◌≡◌ {A = Option ℕ} (Some n) (Some (len b at)) = e ∙ rw t in
          let j : n ≡ len b at = cc in
          let k = leb-true (after b at) end (both_right (leb (at + 3) end) (leb (after b at) end) t) in
          record { fits = t; is = j; within = omega (arith, j, k) }
      go false t = let i : ◌≡◌ {A = Option ℕ} (Some n) None = e ∙ rw t in cc

  pub falls : None ≡ len_before b at end → fits at end (head (byte_at b) at) ≡ false
  falls e = go (fits at end (head (byte_at b) at)) refl
    where
      go : (t : Bool) → fits at end (head (byte_at b) at) ≡ t → fits at end (head (byte_at b) at) ≡ false
      go true t = let i : ◌≡◌ {A = Option ℕ} None (Some (len b at)) = e ∙ rw t in cc
      go false t = t
