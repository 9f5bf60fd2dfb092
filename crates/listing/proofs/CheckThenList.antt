-- The one call answers and leaves what check and then listing did; into an output too short for any listing it answers 15 exactly for a sound image.
use Prim.Native.Nat.{ℕ, ◌≤◌, ◌<◌}
use mathlib.Core.Path.{◌≡◌, ◌∙◌, ap, refl}
use native.Mathlib.Omega.{arith}
use lib.ListN.{length, length-append}
use borrow.Author.Tests.{lt-leb}
use Rattle.definition.specs.Basic.{Bytes}
use Rattle.definition.specs.Number.{refusal, bad_image, output_short, number_of}
use Rattle.definition.specs.Bytecode.{Image, size_of}
use Rattle.definition.specs.Decode.{Decoded, decoded, malformed, read_image}
use Rattle.definition.specs.Listing.{listing, list_answer, list_into}
use Rattle.definition.specs.declared.reason.Refusal.{Refusal}
use Rattle.definition.specs.Answer.{Answer}
use Rattle.std.specs.Prelude.{Err, Ok}
use Rattle.std.specs.Prelude.{Ok}
use Rattle.bytecode.specs.Checked.{image_answer}
use Rattle.listing.specs.CheckThenList.{Outcome, checked, then_list, check_then_list}
use Rattle.listing.proofs.Digits.{some}

-- for every image and output: what keeps the promise of `list_image` is what check and then listing gave
pub check-then-list : (image output : Bytes) {r : Answer} {after : Bytes} → r ≡ list_answer (read_image image) (length output) → after ≡ list_into (read_image image) output
    → ◌≡◌ {A = Outcome} (record { answer = r; output = after }) (check_then_list image output)
check-then-list image output p q = (λ i. record { answer = p i; output = q i }) ∙ go (read_image image)
  where
    go : (d : Decoded Image) → ◌≡◌ {A = Outcome} (record { answer = list_answer d (length output); output = list_into d output }) (then_list (image_answer d) (record { answer = list_answer d (length output); output = list_into d output }) output)
    go (decoded m n) = refl
    go (malformed p) = refl

-- the shortest listing is that of no code and no constants
pub listing_least : (m : Image) → 14 ≤ length (listing m)
listing_least m = simp length-append (omega (arith, some 19 (size_of m.code), some 19 (length m.pool)))

-- an output of fewer bytes has room for none
module _ (image : Bytes) (room : ℕ) (few : room < 14) where
  pub sound_is_15 : {k : ℕ} → checked image ≡ Ok k → list_answer (read_image image) room ≡ Err (refusal output_short 0)
  sound_is_15 {k} = go (read_image image)
    where
      go : (d : Decoded Image) → image_answer d ≡ Ok k → list_answer d room ≡ Err (refusal output_short 0)
      go (decoded m n) e = rw (lt-leb (length (listing m)) room (omega (arith, listing_least m)))
      go (malformed p) e = let z : ◌≡◌ {A = ℕ} 0 1 = cc in absurd (omega arith)

  pub 15_is_sound : {p : ℕ} → list_answer (read_image image) room ≡ Err (refusal output_short p) → (k : ℕ) × (checked image ≡ Ok k)
  15_is_sound {p} = go (read_image image)
    where
      go : (d : Decoded Image) → list_answer d room ≡ Err (refusal output_short p) → (k : ℕ) × (image_answer d ≡ Ok k)
      go (decoded m n) e = (length m.pool, refl)
      go (malformed q) e = let f : refusal bad_image q ≡ refusal output_short p = cc in absurd (omega (arith, ap (λ (x : Refusal). (number_of x.reason)) f))
