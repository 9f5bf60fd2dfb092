-- What the functions answer, from what the functions that they call answered.
use Prim.Native.Nat.{ℕ, ◌+◌, ◌*◌, ◌/◌, ◌%◌, ◌≤◌, ◌<◌}
use native.Mathlib.Omega.{arith}
use mathlib.Core.Bool.{Bool, true, false}
use mathlib.Core.Path.{◌≡◌, refl, sym, ap, ◌∙◌}
use lib.ListN.{length}
use lib.Dec.{ltb, eqb}
use borrow.Author.Tests.{lt-ltb, le-ltb, eq-eqb, ne_eqb}
use denote.Ref.{Bor}
use Rattle.std.specs.Prelude.{Result, Ok, Err}
use Rattle.definition.specs.Basic.{Bytes, pick, both}
use Rattle.definition.specs.Number.{refusal, bad_size, no_frame}
use Rattle.definition.specs.Bytecode.{Image}
use Rattle.definition.specs.Decode.{Decoded, decoded, malformed, read_image}
use Rattle.definition.specs.declared.reason.Refusal.{Refusal}
use Rattle.definition.proofs.Basic.{both_intro, pick_true, pick_false}
use Rattle.bytecode.specs.Checked.{image_answer}
use Rattle.frames.specs.declared.FrameCount.{FrameCount}
use Rattle.frames.specs.declared.FramePlace.{FramePlace}
use Rattle.frames.specs.Frames.{count_is, place_is, size_in_range, counted, count_frames, place_in, placed, find_frame, part_at, frame_of, offset_of}
use Rattle.frames.proofs.Division.{PlaceOf, whole_and_rest, frame-place}

-- an image that is wrong
pub count_bad : (b : Bytes) (size : ℕ) {x : Result ℕ Refusal} {r : Refusal} → x ≡ image_answer (read_image b) → x ≡ Err r → Err r ≡ count_frames b size
count_bad b size {x} {r} e f = go (read_image b) (sym e ∙ f)
  where
    go : (d : Decoded Image) → image_answer d ≡ Err r → Err r ≡ counted d (length b) size
    go (decoded m n) h = let z : ◌≡◌ {A = ℕ} 0 1 = cc in absurd (omega arith)
    go (malformed p) h = cc

-- one that is sound, by the size
module _ (b : Bytes) (size : ℕ) {x : Result ℕ Refusal} {k : ℕ} (e : x ≡ image_answer (read_image b)) (f : x ≡ Ok k) where
  counted_sound : {c : Result FrameCount Refusal} → ((m : Image) (n : ℕ) → counted (decoded m n) (length b) size ≡ c) → c ≡ count_frames b size
  counted_sound {c} h = go (read_image b) (sym e ∙ f)
    where
      go : (d : Decoded Image) → image_answer d ≡ Ok k → c ≡ counted d (length b) size
      go (decoded m n) g = sym (h m n)
      go (malformed p) g = let z : ◌≡◌ {A = ℕ} 0 1 = cc in absurd (omega arith)

  pub count_good : size_in_range size ≡ true → count_is (length b / size) (length b % size) ≡ count_frames b size
  count_good t = counted_sound (λ m n. pick_true _ _ t)

  pub count_bad_size : size_in_range size ≡ false → Err (refusal bad_size 0) ≡ count_frames b size
  count_bad_size t = counted_sound (λ m n. pick_false _ _ t)

-- the whole frames end inside the image
pub whole_within : (b : Bytes) (size : ℕ) {c : Result FrameCount Refusal} {v : FrameCount} → c ≡ count_frames b size → c ≡ Ok v → v.whole * size ≤ length b
whole_within b size e f = let d = whole_and_rest b size (sym e ∙ f) in omega (arith, d.length)

-- a frame, by the count
pub find-refused : (b : Bytes) (size k : ℕ) {c : Result FrameCount Refusal} {r : Refusal} → c ≡ count_frames b size → c ≡ Err r → Err r ≡ find_frame b size k
find-refused b size k e f = ap (λ c. placed c size k) (sym f ∙ e)

pub find-placed : (b : Bytes) (size k : ℕ) {c : Result FrameCount Refusal} {p : Result FramePlace Refusal} {v : FrameCount} → c ≡ count_frames b size → c ≡ Ok v → p ≡ place_in v.whole v.rest size k → p ≡ find_frame b size k
find-placed b size k e f g = g ∙ ap (λ c. placed c size k) (sym f ∙ e)

-- a frame that was found ends inside the image
pub found_within : (b : Bytes) (size k : ℕ) {p : Result FramePlace Refusal} {v : FramePlace} → p ≡ find_frame b size k → p ≡ Ok v → v.start + v.len ≤ length b
found_within b size k {v = v} e f = go (find_frame b size k) (frame-place b size k) (sym e ∙ f)
  where
    go : (p : Result FramePlace Refusal) → PlaceOf (length b) size k p → p ≡ Ok v → v.start + v.len ≤ length b
    go _ (PlaceOf.inside {n = m} some short fit) h =
        let j : record { start = k * size; len = m } ≡ v = cc in
        omega (arith, ap (λ (x : FramePlace). x.start) j, ap (λ (x : FramePlace). x.len) j)
    go _ (PlaceOf.refused some) h = cc

-- a second test that fails
both_false : (a : Bool) → both a false ≡ false
both_false true = refl
both_false false = refl

-- what is known of a frame from its place: where it lies in memory, and its bytes
pub record Found (image : Bor Bytes) (size k : ℕ) (q : Result FramePlace Refusal) : Type 0 where
  pub place : ◌≡◌ {A = ℕ × ℕ} (image.ref_ptr.0, offset_of q + image.ref_ptr.1) (image.ref_ptr.0, image.ref_ptr.1 + offset_of (find_frame image.now size k))
  pub bytes : part_at image.now q ≡ frame_of image.now size k

pub is-found : (image : Bor Bytes) (size k : ℕ) {p q : Result FramePlace Refusal} → p ≡ find_frame image.now size k → p ≡ q → Found image size k q
is-found image size k {q = q} e f =
    let same : offset_of q ≡ offset_of (find_frame image.now size k) = ap offset_of (sym f ∙ e) in
    record { place = ap {B = ℕ × ℕ} (λ n. (image.ref_ptr.0, n)) (omega arith); bytes = ap (part_at image.now) (sym f ∙ e) }

-- the place of a frame, by the tests of its number
module _ (whole rest size k : ℕ) where
  pub place-whole : k < whole → place_is (k * size) size ≡ place_in whole rest size k
  place-whole h = sym (pick_true _ _ (lt-ltb k whole h))

  pub place-behind : whole ≤ k → {p : Result FramePlace Refusal} → pick (both (eqb k whole) (ltb 0 rest)) (place_is (k * size) rest) (Err (refusal no_frame 0)) ≡ p → p ≡ place_in whole rest size k
  place-behind h e = sym (pick_false _ _ (le-ltb k whole h) ∙ e)

  pub place_last : whole ≤ k → k ≡ whole → 0 < rest → place_is (k * size) rest ≡ place_in whole rest size k
  place_last h e r = place-behind h (pick_true _ _ (both_intro (eq-eqb k whole e) (lt-ltb 0 rest r)))

  pub place_no_rest : whole ≤ k → k ≡ whole → rest ≤ 0 → Err (refusal no_frame 0) ≡ place_in whole rest size k
  place_no_rest h e r = place-behind h (pick_false _ _ (ap (both (eqb k whole)) (le-ltb 0 rest r) ∙ both_false (eqb k whole)))

  pub place_none : whole ≤ k → (k ≡ whole → ⊥) → Err (refusal no_frame 0) ≡ place_in whole rest size k
  place_none h e = place-behind h (pick_false _ _ (ap (λ t. both t (ltb 0 rest)) (ne_eqb k whole e)))
