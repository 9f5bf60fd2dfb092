-- Counts and places of frames are small: two numbers below 65,536 each, a refusal's number at most 24 and its place within the longest image.
use Prim.Native.Nat.{ℕ, ◌+◌, ◌*◌, ◌/◌, ◌%◌, ◌≤◌, ◌<◌}
use native.Mathlib.Omega.{arith}
use native.Mathlib.Nat.{div-le_self}
use mathlib.Core.Bool.{true}
use mathlib.Core.Path.{◌≡◌, refl, subst}
use lib.ListN.{length}
use lib.Dec.{leb, ltb, eqb}
use borrow.Author.Tests.{leb-true}
use Rattle.std.specs.Prelude.{Result, Err}
use Rattle.definition.specs.Basic.{Bytes, both}
use Rattle.definition.specs.Limit.{image_limit}
use Rattle.definition.specs.Number.{refusal, bad_image, bad_size, no_frame, number_of}
use Rattle.definition.specs.Bytecode.{Image}
use Rattle.definition.specs.Decode.{Decoded, decoded, malformed, read_image}
use Rattle.definition.specs.Valid.{AreBytes}
use Rattle.definition.specs.declared.reason.Refusal.{Refusal}
use Rattle.definition.proofs.Basic.{chosen, both_right}
use Rattle.definition.proofs.Images.{write-image}
use Rattle.definition.proofs.Places.{image_within}
use Rattle.definition.proofs.ImagePlaces.{image-place}
use Rattle.frames.specs.declared.FrameCount.{FrameCount}
use Rattle.frames.specs.declared.FramePlace.{FramePlace}
use Rattle.frames.specs.Frames.{count_is, place_is, least_size, greatest_size, size_in_range, counted, count_frames, place_in, placed, find_frame}
use Rattle.frames.specs.Together.{Divided}
use Rattle.frames.proofs.Division.{division, in-range, PlaceOf, place_of}

-- a refusal of these calls
pub record SmallRefusal (r : Refusal) : Type 0 where
  pub number : number_of r.reason ≤ number_of no_frame
  pub place : r.place ≤ image_limit

pub data SmallCount (size : ℕ) : Result FrameCount Refusal → Type 0 where
  divided : {whole rest : ℕ} → whole < 65536 → rest < 65536 → Divided (whole * size + rest) size whole rest → whole * size + rest ≤ image_limit → SmallCount size (count_is whole rest)
  refused : {r : Refusal} → SmallRefusal r → SmallCount size (Err r)

pub data SmallPlace : Result FramePlace Refusal → Type 0 where
  inside : {start n : ℕ} → start < 65536 → n < 65536 → SmallPlace (place_is start n)
  refused : {r : Refusal} → SmallRefusal r → SmallPlace (Err r)

-- a sound image is within the limit
sound_length : (b : Bytes) → AreBytes b → {m : Image} {n : ℕ} → read_image b ≡ decoded m n → length b ≤ image_limit
sound_length b a {m} e =
    let w = write-image b a e in
    subst (λ x. length x ≤ image_limit) w.bytes (image_within m w.sound)

counted_small : (d : Decoded Image) (len size : ℕ) → ((m : Image) (n : ℕ) → d ≡ decoded m n → len ≤ image_limit) → ((p : ℕ) → d ≡ malformed p → p ≤ image_limit) → SmallCount size (counted d len size)
counted_small (decoded m n) len size short places = chosen (SmallCount size) (size_in_range size) good (λ e. SmallCount.refused {r = refusal bad_size 0} (record { number = omega arith; place = omega arith }))
  where
    good : size_in_range size ≡ true → SmallCount size (count_is (len / size) (len % size))
    good e =
        let least = in-range size e in
        let d = division len size (omega arith) in
        let most = leb-true size greatest_size (both_right (leb least_size size) (leb size greatest_size) e) in
        let l = short m n refl in
        SmallCount.divided {whole = len / size} {rest = len % size} (omega (arith, div-le_self len size)) (omega (arith, d.below)) (subst (λ x. Divided x size (len / size) (len % size)) d.length d) (omega (arith, d.length))
counted_small (malformed p) len size short places = SmallCount.refused {r = refusal bad_image p} (record { number = omega arith; place = places p refl })

pub count_small : (b : Bytes) → AreBytes b → (size : ℕ) → SmallCount size (count_frames b size)
count_small b a size = counted_small (read_image b) (length b) size (λ m n e. sound_length b a e) (λ p e. image-place b p e)

-- what a place among those counted is, if it is none: 24
abbrev SmallIn : Result FramePlace Refusal → Type 0
SmallIn p = (r : Refusal) → p ≡ Err r → SmallRefusal r

place-refusal : (whole rest size k : ℕ) → SmallIn (place_in whole rest size k)
place-refusal whole rest size k =
    chosen SmallIn (ltb k whole) (λ _ r e. cc)
    (λ _. chosen SmallIn (both (eqb k whole) (ltb 0 rest)) (λ _ r e. cc) (λ _ r e. none r e))
  where
    none : (r : Refusal) → ◌≡◌ {A = Result FramePlace Refusal} (Err (refusal no_frame 0)) (Err r) → SmallRefusal r
    none r e = let f : refusal no_frame 0 ≡ r = cc in subst SmallRefusal f (record { number = omega arith; place = omega arith })

-- a frame of a small count
placed_small : {size : ℕ} (k : ℕ) {c : Result FrameCount Refusal} → SmallCount size c → SmallPlace (placed c size k)
placed_small {size} k (SmallCount.divided {whole} {rest} w r d l) = go (place_in whole rest size k) (place_of k d) (place-refusal whole rest size k)
  where
    go : (p : Result FramePlace Refusal) → PlaceOf (whole * size + rest) size k p → SmallIn p → SmallPlace p
    go _ (PlaceOf.inside {n = n} some short fit) s = SmallPlace.inside {start = k * size} {n = n} (omega arith) (omega arith)
    go _ (PlaceOf.refused {r} some) s = SmallPlace.refused (s r refl)
placed_small k (SmallCount.refused h) = SmallPlace.refused h

pub place_small : (b : Bytes) → AreBytes b → (size k : ℕ) → SmallPlace (find_frame b size k)
place_small b a size k = placed_small k (count_small b a size)
