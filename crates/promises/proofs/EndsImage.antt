-- Condition 1 of the exported calls that are given an image, or a seed: an answer, written at the front of the output; or a numbered
-- refusal with its place, the output as it was.
use Prim.Native.Nat.{ℕ, ◌*◌, ◌/◌, ◌%◌, ◌≤◌}
use native.Mathlib.Omega.{arith}
use mathlib.Core.Bool.{Bool, true, false}
use mathlib.Core.List.{List, []}
use mathlib.Core.Path.{◌≡◌, refl}
use lib.Dec.{T, leb, ltb, eqb}
use lib.ListN.{length, drop}
use borrow.Author.Tests.{leb-true}
use Rattle.std.specs.Prelude.{Result, Ok, Err}
use Rattle.std.specs.Result.{result_err}
use Rattle.definition.specs.Basic.{Bytes, pick, both}
use Rattle.definition.specs.Limit.{image_limit}
use Rattle.definition.specs.Number.{refusal, number_of, is_one_of, bad_image, output_short, bad_size, no_frame, bad_heights, list_numbers}
use Rattle.definition.specs.Bytecode.{Image}
use Rattle.definition.specs.Decode.{Decoded, decoded, malformed, read_image}
use Rattle.definition.specs.Listing.{listing, list_answer, list_into}
use Rattle.definition.specs.Output.{output_answer}
use Rattle.definition.specs.Valid.{All, AreBytes}
use Rattle.definition.specs.declared.reason.Refusal.{Refusal}
use Rattle.definition.proofs.Basic.{chosen}
use Rattle.definition.proofs.Places.{Within}
use Rattle.definition.proofs.ImagePlaces.{image-place}
use Rattle.frames.specs.Frames.{size_in_range, place_is, counted, count_frames, place_in, placed}
use Rattle.frames.specs.declared.FrameCount.{FrameCount}
use Rattle.frames.specs.declared.FramePlace.{FramePlace}
use Rattle.bytecode.specs.declared.Form.{Form}
use Rattle.bytecode.specs.declared.Form.TheVariants.{Plain, Chin}
use Rattle.chin.specs.Chin.{Given, given, refused, translate, to_chin, from_chin, answer_of, output_of}
use Rattle.chin.specs.Rows.{other_form, jump_of}
use Rattle.chin.proofs.Fits.{chin_numbers, translate_within}
use Rattle.heights.specs.Judgement.{counted as instructions}
use Rattle.heights.specs.Pass.{Verdict, judged, verdict_answer, verdict_into, heights_answer, heights_into}
use Rattle.heights.specs.Proposal.{proposal_answer, proposal_size}
use Rattle.heights.proofs.Bounds.{heights_numbers, heights_within}
use Rattle.load.specs.Load.{tree_of}
use Rattle.exported.specs.Packed.{ListsPacked, LoadsPacked}
use Rattle.exported.specs.Framed.{count_answer, place_answer, refusal_answer, CountsPacked, PlacesPacked, RefusesPacked}
use Rattle.exported.specs.Turned.{TurnsPacked}
use Rattle.exported.specs.Heights.{ChecksPacked, ProposesPacked}
use Rattle.promises.specs.Ends.{Ended, Ends, output, nothing, count_numbers, frame_numbers, load_numbers}
use Rattle.promises.proofs.Endings.{EndsAs, packed_ends, no_buffer, no_output, kept, bare, wrote, kept_as}

-- `monkey_list_image`
pub ends_list_image : {image o o' : Bytes} {r : ℕ} → ListsPacked image o r o' → Ends list_numbers image_limit (output o o') [] r
ends_list_image {image} {o} k =
    packed_ends k.answer (kept_as list_numbers tt image_limit (list_answer (read_image image) (length o)) k.output (go (read_image image) refl))
  where
    go : (d : Decoded Image) → read_image image ≡ d
        → EndsAs list_numbers image_limit (output o (list_into d o)) [] (list_answer d (length o))
    go (decoded m n) e = wrote list_numbers tt image_limit tt (listing m) o
    go (malformed p) e = kept list_numbers tt image_limit (refusal bad_image p) tt (image-place image p e)

-- a count of frames, or 17 or 23
count_ends : (image : Bytes) (size : ℕ) → EndsAs count_numbers image_limit nothing [] (count_answer (count_frames image size))
count_ends image size = go (read_image image) refl
  where
    go : (d : Decoded Image) → read_image image ≡ d
        → EndsAs count_numbers image_limit nothing [] (count_answer (counted d (length image) size))
    go (decoded m n) e =
        chosen (λ (c : Result FrameCount Refusal). EndsAs count_numbers image_limit nothing [] (count_answer c)) (size_in_range size) (λ _. Ended.answered refl (λ s. no_buffer s) All.none All.none) (λ _. bare count_numbers tt image_limit (refusal bad_size 0) tt (omega arith))
    go (malformed p) e = bare count_numbers tt image_limit (refusal bad_image p) tt (image-place image p e)

-- `monkey_count_frames`
pub ends_count_frames : {image : Bytes} {size r : ℕ} → CountsPacked image size r → Ends count_numbers image_limit nothing [] r
ends_count_frames {image} {size} k = packed_ends k.answer (count_ends image size)

-- a frame's place and what else is made of it
module _ (P : Result FramePlace Refusal → Type 0) (at : (s n : ℕ) → P (place_is s n)) (none : (q : Refusal) → T (is_one_of frame_numbers (number_of q.reason)) → q.place ≤ image_limit → P (Err q)) where
  place_ends : (image : Bytes) (size k : ℕ) → P (placed (count_frames image size) size k)
  place_ends image size k = go (read_image image) refl
    where
      among : (whole rest : ℕ) → P (place_in whole rest size k)
      among whole rest =
          chosen P (ltb k whole) (λ _. at (k * size) size) (λ _. chosen P (both (eqb k whole) (ltb 0 rest)) (λ _. at (k * size) rest) (λ _. none (refusal no_frame 0) tt (omega arith)))

      go : (d : Decoded Image) → read_image image ≡ d → P (placed (counted d (length image) size) size k)
      go (decoded m n) e =
          chosen (λ (c : Result FrameCount Refusal). P (placed c size k)) (size_in_range size) (λ _. among (length image / size) (length image % size)) (λ _. none (refusal bad_size 0) tt (omega arith))
      go (malformed p) e = none (refusal bad_image p) tt (image-place image p e)

-- `monkey_frame`
pub ends_frame : {image : Bytes} {size n r : ℕ} → PlacesPacked image size n r → Ends frame_numbers image_limit nothing [] r
ends_frame {image} {size} {n} k =
    packed_ends k.answer
    (place_ends (λ p. EndsAs frame_numbers image_limit nothing [] (place_answer p)) (λ _ _. Ended.answered refl (λ s. no_buffer s) All.none All.none) (bare frame_numbers tt image_limit) image size n)

-- `monkey_frame_refusal`
pub ends_frame_refusal : {image : Bytes} {size n r : ℕ} → RefusesPacked image size n r → Ends frame_numbers image_limit nothing [] r
ends_frame_refusal {image} {size} {n} k =
    packed_ends k.answer
    (place_ends (λ p. EndsAs frame_numbers image_limit nothing [] (refusal_answer (result_err p))) (λ _ _. Ended.answered refl (λ s. no_buffer s) All.none All.none) (bare frame_numbers tt image_limit) image size n)

-- from either form into the other
turn_ends : (f : Form) {image o o' : Bytes} {r : ℕ} → AreBytes image → TurnsPacked (translate f (other_form f) (jump_of f) image) o r o'
    → Ends chin_numbers image_limit (output o o') [] r
turn_ends f {image} {o} a k =
    let g = translate f (other_form f) (jump_of f) image in
    packed_ends k.answer (kept_as chin_numbers tt image_limit (answer_of g (length o)) k.output (go g (translate_within f image a (length o))))
  where
    go : (g : Given) → Within image_limit chin_numbers image_limit (answer_of g (length o))
        → EndsAs chin_numbers image_limit (output o (output_of g o)) [] (answer_of g (length o))
    go (given b) w = wrote chin_numbers tt image_limit tt b o
    go (refused q) (Within.refused b) = kept chin_numbers tt image_limit q b.number b.place

-- `monkey_to_chin`
pub ends_to_chin : {image o o' : Bytes} {r : ℕ} → AreBytes image → TurnsPacked (to_chin image) o r o'
    → Ends chin_numbers image_limit (output o o') [] r
ends_to_chin a k = turn_ends Plain a k

-- `monkey_from_chin`
pub ends_from_chin : {image o o' : Bytes} {r : ℕ} → AreBytes image → TurnsPacked (from_chin image) o r o'
    → Ends chin_numbers image_limit (output o o') [] r
ends_from_chin a k = turn_ends Chin a k

-- `monkey_load_tree`
pub ends_load_tree : {seed : ℕ} {o o' : Bytes} {r : ℕ} → LoadsPacked seed o r o' → Ends load_numbers 0 (output o o') [] r
ends_load_tree {seed} {o} k =
    packed_ends k.answer (kept_as load_numbers tt 0 (output_answer (tree_of seed) (length o)) k.output (wrote load_numbers tt 0 tt (tree_of seed) o))

-- `monkey_check_heights`
pub ends_check_heights : {image : Bytes} {hs o o' : List ℕ} {r : ℕ} → AreBytes image → ChecksPacked image hs o r o'
    → Ends heights_numbers image_limit (output o o') [] r
ends_check_heights {image} {hs} {o} a k =
    packed_ends k.answer (kept_as heights_numbers tt image_limit (heights_answer (read_image image) hs (length o)) k.output (go (read_image image) (heights_within image a hs (length o))))
  where
    by : {lengths : ℕ} (v : Verdict) → Within lengths heights_numbers image_limit (verdict_answer v (length o))
        → EndsAs heights_numbers image_limit (output o (verdict_into v o)) [] (verdict_answer v (length o))
    by (Verdict.tops ns) w = wrote heights_numbers tt image_limit tt ns o
    by (Verdict.fails p) (Within.refused b) = kept heights_numbers tt image_limit (refusal bad_heights p) tt b.place

    go : {lengths : ℕ} (d : Decoded Image) → Within lengths heights_numbers image_limit (heights_answer d hs (length o))
        → EndsAs heights_numbers image_limit (output o (heights_into d hs o)) [] (heights_answer d hs (length o))
    go (decoded m n) w = by (judged hs m m.pool) w
    go (malformed p) (Within.refused b) = kept heights_numbers tt image_limit (refusal bad_image p) tt b.place

-- `monkey_propose_heights`
pub ends_propose_heights : {image : Bytes} {o o' : List ℕ} {r : ℕ} → ProposesPacked image o r o'
    → Ends list_numbers image_limit (output o o') [] r
ends_propose_heights {image} {o} {o'} k = packed_ends k.answer (go (read_image image) refl k.stays)
  where
    fits : (n : ℕ) (b : Bool) → leb n (length o) ≡ b → drop (pick b n 0) o' ≡ drop (pick b n 0) o
        → EndsAs list_numbers image_limit (output o o') [] (pick b (Ok n) (Err (refusal output_short 0)))
    fits n true e s = Ended.answered refl (λ s. no_output s) (All.more (record { room = leb-true n (length o) e; behind = s }) All.none) All.none
    fits n false e s =
        kept_as list_numbers tt image_limit (Err (refusal output_short 0)) s (kept list_numbers tt image_limit (refusal output_short 0) tt (omega arith))

    go : (d : Decoded Image) → read_image image ≡ d → drop (proposal_size d (length o)) o' ≡ drop (proposal_size d (length o)) o
        → EndsAs list_numbers image_limit (output o o') [] (proposal_answer d (length o))
    go (decoded m n) e s = fits (instructions m m.pool) (leb (instructions m m.pool) (length o)) refl s
    go (malformed p) e s =
        kept_as list_numbers tt image_limit (Err (refusal bad_image p)) s (kept list_numbers tt image_limit (refusal bad_image p) tt (image-place image p e))
