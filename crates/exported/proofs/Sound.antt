-- What the exported listing answers: what check and then listing gave; and with an empty output, 15 exactly for a sound image.
use Prim.Native.Nat.{ℕ, ◌/◌}
use mathlib.Core.Path.{◌≡◌, ◌∙◌, ap, sym, refl}
use mathlib.Core.List.{[]}
use native.Mathlib.Omega.{arith}
use Rattle.definition.specs.Basic.{Bytes}
use Rattle.definition.specs.Bytecode.{Image}
use Rattle.definition.specs.Decode.{Decoded, decoded, malformed, read_image}
use Rattle.definition.specs.Listing.{list_answer}
use Rattle.std.specs.Prelude.{Ok}
use Rattle.bytecode.specs.Checked.{image_answer}
use Rattle.listing.specs.CheckThenList.{Outcome, checked, check_then_list}
use Rattle.listing.proofs.CheckThenList.{check-then-list, sound_is_15}
use Rattle.exported.specs.Packed.{half_bound, high, sound_number, Packs, ListsPacked}
use Rattle.exported.proofs.Fits.{packs_as}

-- answer and output of `monkey_list_image` are those of the two calls that were
pub lists_checked : {image output after : Bytes} {r : ℕ} → ListsPacked image output r after
    → Packs (check_then_list image output).answer r × (after ≡ (check_then_list image output).output)
lists_checked {image} {output} h =
    let e = check-then-list image output refl h.output in
    (packs_as (ap (λ (o : Outcome). o.answer) e) h.answer, ap (λ (o : Outcome). o.output) e)

module _ {image after : Bytes} {r : ℕ} (h : ListsPacked image [] r after) where
  -- a sound image has that number
  pub sound-number : {k : ℕ} → checked image ≡ Ok k → r / half_bound ≡ sound_number
  sound-number e = h.answer.number ∙ ap high (sound_is_15 image 0 (omega arith) e)

  -- and no other image has it
  pub number_sound : r / half_bound ≡ sound_number → (k : ℕ) × (checked image ≡ Ok k)
  number_sound e = go (read_image image) (sym h.answer.number ∙ e)
    where
      go : (d : Decoded Image) → high (list_answer d 0) ≡ sound_number → (k : ℕ) × (image_answer d ≡ Ok k)
      go (decoded m n) f = (_, refl)
      go (malformed p) f = absurd (omega arith)
