-- Whole frames and the rest: their sum is the length, and a frame lies inside the image.
use Prim.Native.Nat.{ℕ, ◌+◌, ◌*◌, ◌/◌, ◌%◌, ◌≤◌, ◌<◌}
use native.Mathlib.Omega.{arith}
use native.Mathlib.Nat.{div-add-mod', mod-lt, mul-le-mul_right, suc-mul}
use mathlib.Core.Bool.{true}
use mathlib.Core.List.{[]}
use mathlib.Core.Logic.{◌↔◌}
use mathlib.Core.Path.{◌≡◌, refl, sym, ap, subst}
use lib.ListN.{length, take, drop, length-take, length-drop}
use lib.Dec.{leb, ltb, eqb}
use borrow.Author.Tests.{leb-true, ltb-true, eqb-true}
use Rattle.std.specs.Prelude.{Some, Result, Err}
use Rattle.std.specs.Result.{result_err}
use Rattle.definition.specs.Basic.{Bytes, both}
use Rattle.definition.specs.Number.{refusal, bad_image, bad_size, no_frame, number_of}
use Rattle.definition.specs.Bytecode.{Image}
use Rattle.definition.specs.Decode.{Decoded, decoded, malformed, read_image}
use Rattle.definition.specs.declared.reason.Refusal.{Refusal}
use Rattle.definition.proofs.Basic.{chosen, both_left, both_right}
use Rattle.frames.specs.declared.FrameCount.{FrameCount}
use Rattle.frames.specs.declared.FramePlace.{FramePlace}
use Rattle.frames.specs.Frames.{count_is, place_is, least_size, greatest_size, size_in_range, counted, count_frames, place_in, placed, find_frame, part_at, frame_of, frame_refusal}
use Rattle.frames.specs.Together.{Divided}

-- a length divided by a size that is not 0
pub division : (len size : ℕ) → 0 < size → Divided len size (len / size) (len % size)
division len size h = record { length = sym (div-add-mod' len size); below = mod-lt len h }

-- a size in range is not 0
pub in-range : (size : ℕ) → size_in_range size ≡ true → least_size ≤ size
in-range size e = leb-true least_size size (both_left (leb least_size size) (leb size greatest_size) e)

-- what a count says of the length: its division, or a number
pub data CountOf (len size : ℕ) : Result FrameCount Refusal → Type 0 where
  divided : {whole rest : ℕ} → Divided len size whole rest → CountOf len size (count_is whole rest)
  refused : {r : Refusal} → 1 ≤ (number_of r.reason) → CountOf len size (Err r)

count_of : (d : Decoded Image) (len size : ℕ) → CountOf len size (counted d len size)
count_of (decoded m n) len size =
    chosen (CountOf len size) (size_in_range size) (λ e. CountOf.divided (division len size (omega (arith, in-range size e)))) (λ e. CountOf.refused {r = refusal bad_size 0} (omega arith))
count_of (malformed p) len size = CountOf.refused {r = refusal bad_image p} (omega arith)

pub frames_count : (b : Bytes) (size : ℕ) → CountOf (length b) size (count_frames b size)
frames_count b size = count_of (read_image b) (length b) size

-- Length = whole × size + rest, and the rest is below the size
pub whole_and_rest : (b : Bytes) (size : ℕ) {whole rest : ℕ} → count_frames b size ≡ count_is whole rest → Divided (length b) size whole rest
whole_and_rest b size {whole} {rest} e = go (count_frames b size) e (frames_count b size)
  where
    go : (c : Result FrameCount Refusal) → c ≡ count_is whole rest → CountOf (length b) size c → Divided (length b) size whole rest
    go _ e (CountOf.divided {whole = w} {rest = r} d) =
        let j : ◌≡◌ {A = FrameCount} (record { whole = w; rest = r }) (record { whole = whole; rest = rest }) = cc in
        let p : w ≡ whole = ap (λ (x : FrameCount). x.whole) j in
        let q : r ≡ rest = ap (λ (x : FrameCount). x.rest) j in
        subst (λ x. Divided (length b) size x rest) p (subst (λ x. Divided (length b) size w x) q d)
    go _ e (CountOf.refused {r} h) = cc

-- where a frame lies: it has a byte at least, and ends inside; or there is a number
pub data PlaceOf (len size k : ℕ) : Result FramePlace Refusal → Type 0 where
  inside : {n : ℕ} → 1 ≤ n → n ≤ size → k * size + n ≤ len → PlaceOf len size k (place_is (k * size) n)
  refused : {r : Refusal} → 1 ≤ (number_of r.reason) → PlaceOf len size k (Err r)

-- frame k of the whole ones ends inside
whole_ends : {len size whole rest : ℕ} (k : ℕ) → Divided len size whole rest → k < whole → k * size + size ≤ len
whole_ends {size = size} {whole} k d h = omega (arith, d.length, suc-mul k size, mul-le-mul_right size h)

pub place_of : {len size whole rest : ℕ} (k : ℕ) → Divided len size whole rest → PlaceOf len size k (place_in whole rest size k)
place_of {len} {size} {whole} {rest} k d =
    chosen (PlaceOf len size k) (ltb k whole) (λ e. PlaceOf.inside {n = size} (omega (arith, d.below)) (omega arith) (whole_ends k d (ltb-true k whole e)))
    (λ _. chosen (PlaceOf len size k) (both (eqb k whole) (ltb 0 rest)) last (λ _. PlaceOf.refused {r = refusal no_frame 0} (omega arith)))
  where
    last : both (eqb k whole) (ltb 0 rest) ≡ true → PlaceOf len size k (place_is (k * size) rest)
    last e =
        let same : k ≡ whole = eqb-true k whole (both_left (eqb k whole) (ltb 0 rest) e) in
        let some : 0 < rest = ltb-true 0 rest (both_right (eqb k whole) (ltb 0 rest) e) in
        PlaceOf.inside {n = rest} (omega arith) (omega (arith, d.below)) (omega (arith, d.length, ap (λ x. x * size) same))

placed_of : {len size : ℕ} (k : ℕ) {c : Result FrameCount Refusal} → CountOf len size c → PlaceOf len size k (placed c size k)
placed_of k (CountOf.divided d) = place_of k d
placed_of k (CountOf.refused h) = PlaceOf.refused h

pub frame-place : (b : Bytes) (size k : ℕ) → PlaceOf (length b) size k (find_frame b size k)
frame-place b size k = placed_of k (frames_count b size)

-- a part that is given has the length of its place
pub part_length : (b : Bytes) (start n : ℕ) → start + n ≤ length b → length (take n (drop start b)) ≡ n
part_length b start n h = simp (length-take, length-drop) (omega arith)

-- The second call's part is empty exactly where the third gives a refusal
pub empty_where_refused : (b : Bytes) (size k : ℕ) → (frame_of b size k ≡ []) ↔ ((r : Refusal) × (frame_refusal b size k ≡ Some r))
empty_where_refused b size k = go (find_frame b size k) (frame-place b size k)
  where
    go : (p : Result FramePlace Refusal) → PlaceOf (length b) size k p → (part_at b p ≡ []) ↔ ((r : Refusal) × (result_err p ≡ Some r))
    go _ (PlaceOf.inside {n} some short fit) =
        (λ e. absurd (omega (arith, part_length b (k * size) n fit, ap length e)), λ h. let e = h.1 in cc)
    go _ (PlaceOf.refused {r} some) = (λ _. (r, refl), λ _. refl)

-- No refusal has number 0
pub no_refusal : (b : Bytes) (size k : ℕ) {r : Refusal} → frame_refusal b size k ≡ Some r → 1 ≤ (number_of r.reason)
no_refusal b size k {r} = go (find_frame b size k) (frame-place b size k)
  where
    go : (p : Result FramePlace Refusal) → PlaceOf (length b) size k p → result_err p ≡ Some r → 1 ≤ (number_of r.reason)
    go _ (PlaceOf.inside some short fit) e = cc
    go _ (PlaceOf.refused {r = q} some) e = let f : q ≡ r = cc in omega (arith, ap (λ (x : Refusal). (number_of x.reason)) f)
