-- Counts, places and refusals of frames fit an answer's halves, and the low half is the pair.
use Prim.Native.Nat.{ℕ, ◌%◌, ◌<◌}
use native.Mathlib.Omega.{arith}
use mathlib.Core.Path.{◌≡◌, subst, ap, refl}
use Rattle.std.specs.Prelude.{Result, Err}
use Rattle.std.specs.Result.{result_err}
use Rattle.definition.specs.Basic.{Bytes}
use Rattle.definition.specs.Valid.{AreBytes}
use Rattle.definition.specs.declared.reason.Refusal.{Refusal}
use Rattle.frames.specs.Frames.{count_is, place_is, count_frames, find_frame, frame_refusal}
use Rattle.frames.specs.declared.FrameCount.{FrameCount}
use Rattle.frames.specs.declared.FramePlace.{FramePlace}
use Rattle.frames.proofs.Small.{SmallRefusal, SmallCount, SmallPlace, count_small, place_small}
use Rattle.exported.specs.Packed.{half_bound, Fits, Packs}
use Rattle.exported.specs.Framed.{paired, Pairs, count_answer, place_answer, refusal_answer, CountsPacked, PlacesPacked}
use Rattle.exported.proofs.Mapped.{IsMapped, Says, says}

-- a refusal of these calls fits
small_fits : {r : Refusal} → SmallRefusal r → Fits (Err r)
small_fits s = record { number = omega (arith, s.number); value = omega (arith, s.place) }

count_fits : (b : Bytes) → AreBytes b → (size : ℕ) → Fits (count_answer (count_frames b size))
count_fits b a size = go (count_frames b size) (count_small b a size)
  where
    go : (c : Result FrameCount Refusal) → SmallCount size c → Fits (count_answer c)
    go _ (SmallCount.divided w r d l) = record { number = omega arith; value = omega arith }
    go _ (SmallCount.refused s) = small_fits s

place-fits : (b : Bytes) → AreBytes b → (size k : ℕ) → Fits (place_answer (find_frame b size k))
place-fits b a size k = go (find_frame b size k) (place_small b a size k)
  where
    go : (p : Result FramePlace Refusal) → SmallPlace p → Fits (place_answer p)
    go _ (SmallPlace.inside s n) = record { number = omega arith; value = omega arith }
    go _ (SmallPlace.refused s) = small_fits s

pub refusal-fits : (b : Bytes) → AreBytes b → (size k : ℕ) → Fits (refusal_answer (frame_refusal b size k))
refusal-fits b a size k = go (find_frame b size k) (place_small b a size k)
  where
    go : (p : Result FramePlace Refusal) → SmallPlace p → Fits (refusal_answer (result_err p))
    go _ (SmallPlace.inside s n) = record { number = omega arith; value = omega arith }
    go _ (SmallPlace.refused s) = small_fits s

-- the two numbers of a pair
pub pairs : {a b v : ℕ} → b < 65536 → v ≡ paired a b → Pairs a b v
pairs h e = record { first = omega arith; second = omega arith }

count-pairs : (b : Bytes) → AreBytes b → (size : ℕ) {v : ℕ} → Packs (count_answer (count_frames b size)) v → (whole rest : ℕ) → count_frames b size ≡ count_is whole rest → Pairs whole rest (v % half_bound)
count-pairs b a size {v} p whole rest e =
    let small = subst (SmallCount size) e (count_small b a size) in
    let packed = subst (λ c. Packs (count_answer c) v) e p in
    pairs (below small) packed.value
  where
    below : SmallCount size (count_is whole rest) → rest < 65536
    below (SmallCount.divided w r d l) = r

place-pairs : (b : Bytes) → AreBytes b → (size k : ℕ) {v : ℕ} → Packs (place_answer (find_frame b size k)) v → (start n : ℕ) → find_frame b size k ≡ place_is start n → Pairs start n (v % half_bound)
place-pairs b a size k {v} p start n e =
    let small = subst SmallPlace e (place_small b a size k) in
    let packed = subst (λ q. Packs (place_answer q) v) e p in
    pairs (below small) packed.value
  where
    below : SmallPlace (place_is start n) → n < 65536
    below (SmallPlace.inside s l) = l

-- whole frames and rest, and what is said of their number
abbrev counted : FrameCount → ℕ × ℕ
counted c = (c.whole, c.rest)

module _ {b : Bytes} (s : AreBytes b) (size : ℕ) where
  pub counts : {P : FrameCount → ℕ × ℕ → Type 0} {a : Result FrameCount Refusal} {m : Result (ℕ × ℕ) Refusal} → ((x : FrameCount) (y : ℕ × ℕ) → P x y → y ≡ counted x) → a ≡ count_frames b size → IsMapped P a m → Says (count_answer (count_frames b size)) m
  counts h e c = says counted count_answer (λ _. refl) (λ _. refl) h c (ap count_answer e) (count_fits b s size)

  pub packs_counts : {v : ℕ} → Packs (count_answer (count_frames b size)) v → CountsPacked b size v
  packs_counts p = record { answer = p; parts = count-pairs b s size p }

-- a frame's offset and length, likewise
abbrev found : FramePlace → ℕ × ℕ
found p = (p.start, p.len)

module _ {b : Bytes} (s : AreBytes b) (size k : ℕ) where
  pub places : {P : FramePlace → ℕ × ℕ → Type 0} {a : Result FramePlace Refusal} {m : Result (ℕ × ℕ) Refusal} → ((x : FramePlace) (y : ℕ × ℕ) → P x y → y ≡ found x) → a ≡ find_frame b size k → IsMapped P a m → Says (place_answer (find_frame b size k)) m
  places h e c = says found place_answer (λ _. refl) (λ _. refl) h c (ap place_answer e) (place-fits b s size k)

  pub packs_places : {v : ℕ} → Packs (place_answer (find_frame b size k)) v → PlacesPacked b size k v
  packs_places p = record { answer = p; parts = place-pairs b s size k p }
