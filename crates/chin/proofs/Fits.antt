-- An answer of translating: at most the longest image's length, or number 15, 17 or 26 at a place within it.
use Prim.Native.Nat.{ℕ, ◌≤◌}
use native.Mathlib.Omega.{arith}
use mathlib.Core.List.{List, [], ◌∷◌}
use mathlib.Core.Path.{◌≡◌, refl, ap}
use lib.ListN.{length}
use lib.Dec.{leb}
use Rattle.definition.specs.Basic.{Bytes}
use Rattle.definition.specs.Limit.{image_limit}
use Rattle.definition.specs.Number.{refusal, output_short, bad_image, bad_jump, numbers_of}
use Rattle.definition.specs.Bytecode.{Image}
use Rattle.definition.specs.Decode.{Decoded, decoded, malformed}
use Rattle.definition.specs.Valid.{AreBytes, ValidImage}
use Rattle.definition.proofs.Basic.{chosen}
use Rattle.definition.proofs.Places.{Within, nowhere, image_within}
use Rattle.bytecode.specs.declared.Form.{Form}
use Rattle.bytecode.specs.declared.Form.TheVariants.{Plain}
use Rattle.bytecode.specs.Form.{image_in, read_form}
use Rattle.chin.specs.Turn.{Made, made, stopped, turn_image}
use Rattle.chin.specs.Chin.{given, wrote, turn, translate, answer_of}
use Rattle.chin.specs.Rows.{other_form, jump_of}
use Rattle.chin.proofs.Forms.{write-form, write_plain, image-length}
use Rattle.chin.proofs.Turns.{turn-image}
use Rattle.chin.proofs.Functions.{returns_of}
use Rattle.chin.proofs.Places.{form_place, jump-place}

-- the numbers of translating
abbrev pub chin_numbers : List ℕ
chin_numbers = numbers_of (bad_image ∷ bad_jump ∷ output_short ∷ [])

-- a valid image is within the limit in each form
form_within : (f : Form) (m : Image) → ValidImage m → length (image_in f m) ≤ image_limit
form_within f m v = omega (arith, image-length f m, image-length Plain m, ap length (write_plain m), image_within m v)

given_within : (b : Bytes) (room : ℕ) → length b ≤ image_limit → Within image_limit chin_numbers image_limit (answer_of (given b) room)
given_within b room h = chosen (Within image_limit chin_numbers image_limit) (leb (length b) room) (λ _. Within.wrote h) (λ _. nowhere tt)

pub translate_within : (f : Form) (b : Bytes) → AreBytes b → (room : ℕ) → Within image_limit chin_numbers image_limit (answer_of (translate f (other_form f) (jump_of f) b) room)
unfolding translate
translate_within f b a room = read (read_form f b) refl
  where
    turned : (m : Image) → ValidImage m → (r : Made Image) → turn_image (jump_of f) m ≡ r → Within image_limit chin_numbers image_limit (answer_of (wrote (other_form f) r) room)
    turned m v (made n) e = given_within (image_in (other_form f) n) room (form_within (other_form f) n (turn-image (returns_of f) v e).valid)
    turned m v (stopped p) e = Within.refused {r = refusal bad_jump p} (record { number = tt; place = jump-place (jump_of f) m v e })

    read : (d : Decoded Image) → read_form f b ≡ d → Within image_limit chin_numbers image_limit (answer_of (turn (other_form f) (jump_of f) d) room)
    read (decoded m n) e = turned m (write-form f b a e).sound (turn_image (jump_of f) m) refl
    read (malformed p) e = Within.refused {r = refusal bad_image p} (record { number = tt; place = form_place f b p e })
