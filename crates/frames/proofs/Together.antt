-- The frames of an image in order, put together, are the image.
use Prim.Native.Nat.{ℕ, zero, suc, ◌+◌, ◌*◌, ◌≤◌, ◌<◌}
use native.Mathlib.Omega.{arith}
use native.Mathlib.Nat.{zero-mul, suc-mul}
use mathlib.Core.Bool.{true, false}
use mathlib.Core.List.{◌++◌}
use mathlib.Core.Path.{◌≡◌, refl, sym, ap, ◌∙◌}
use lib.ListN.{length, take, drop}
use lib.Dec.{ltb}
use lib.Seq.{take-add, take_all}
use borrow.Author.Tests.{ltb-true, ltb-false, lt-ltb, le-ltb, eq-eqb}
use Rattle.definition.specs.Basic.{Bytes}
use Rattle.definition.proofs.Basic.{chosen, both_intro, pick_true, pick_false}
use Rattle.frames.specs.Frames.{count_is, place_is, count_frames, place_in, placed, part_at, frame_of}
use Rattle.frames.specs.Together.{Divided, frame_total, joined}
use Rattle.frames.proofs.Division.{whole_and_rest}

-- a whole frame, and the last shorter one, by their places
whole-place : (whole rest size k : ℕ) → k < whole → place_in whole rest size k ≡ place_is (k * size) size
whole-place whole rest size k h = pick_true _ _ (lt-ltb k whole h)

last_place : (whole rest size : ℕ) → 0 < rest → place_in whole rest size whole ≡ place_is (whole * size) rest
last_place whole rest size h = pick_false _ _ (le-ltb whole whole (omega arith)) ∙ pick_true _ _ (both_intro (eq-eqb whole whole refl) (lt-ltb 0 rest h))

module _ (b : Bytes) (size whole rest : ℕ) (count : count_frames b size ≡ count_is whole rest) where
  frame_is : (k start n : ℕ) → place_in whole rest size k ≡ place_is start n → frame_of b size k ≡ take n (drop start b)
  frame_is k start n e = ap (λ c. part_at b (placed c size k)) count ∙ ap (part_at b) e

  -- the whole frames so far
  whole-joined : (k : ℕ) → k ≤ whole → joined (frame_of b size) k ≡ take (k * size) b
  whole-joined zero h = ap (λ n. take n b) (sym (zero-mul size))
  whole-joined (suc k) h =
      (λ i. whole-joined k (omega arith) i ++ frame_is k (k * size) size (whole-place whole rest size k (omega arith)) i)
      ∙ sym (take-add (k * size) size b) ∙ ap (λ n. take n b) (sym (suc-mul k size))

  -- The frames in order, put together, are the image
  pub frames_together : joined (frame_of b size) (frame_total whole rest) ≡ b
  frames_together = chosen (λ n. joined (frame_of b size) n ≡ b) (ltb 0 rest) with_rest without
    where
      d : Divided (length b) size whole rest
      d = whole_and_rest b size count

      with_rest : ltb 0 rest ≡ true → joined (frame_of b size) (suc whole) ≡ b
      with_rest e =
          (λ i. whole-joined whole (omega arith) i ++ frame_is whole (whole * size) rest (last_place whole rest size (ltb-true 0 rest e)) i)
          ∙ sym (take-add (whole * size) rest b) ∙ take_all (whole * size + rest) b (omega (arith, d.length))

      without : ltb 0 rest ≡ false → joined (frame_of b size) whole ≡ b
      without e = whole-joined whole (omega arith) ∙ take_all (whole * size) b (omega (arith, d.length, ltb-false 0 rest e))
