-- The frames of an image in order, put together; and what two images have in common that are sent in frames.
use Rattle.std.specs.Prelude.{ℕ, zero, suc, ◌+◌, ◌*◌, ◌<◌, [], ◌++◌, ◌≡◌, length, take, ltb, Ok, Err}
use Rattle.definition.specs.Basic.{Bytes, pick}
use Rattle.definition.specs.Bytecode.{Image}
use Rattle.definition.specs.Decode.{decoded, read_image}
use Rattle.definition.specs.Call.{Called}
use Rattle.definition.specs.declared.reason.Refusal.{Refusal}
use Rattle.frames.specs.Frames.{count_frames, frame_of, frame_refusal}

-- a length in whole frames of a size, and a rest below it
pub record Divided (len size whole rest : ℕ) : Type 0 where
  pub length : len ≡ whole * size + rest
  pub below : rest < size

-- how many frames there are: the whole ones, and one more where there is a rest
abbrev pub frame_total : ℕ → ℕ → ℕ
frame_total whole rest = pick (ltb 0 rest) (suc whole) whole

-- the first `k` parts, put together
abbrev pub joined : (ℕ → Bytes) → ℕ → Bytes
joined part zero = []
joined part (suc k) = joined part k ++ part k

-- what a call left at the front of its output, if it was accepted, is a sound image
pub record Sound (x : Called) : Type 0 where
  pub reads : (n : ℕ) → x.answer ≡ Ok n → (m : Image) × (read_image (take n x.lent.output) ≡ decoded m n)

-- two images look alike to the three calls, at any size and any number: equal counts, rests and refusals, and frames equally long
pub record SameFrames (a b : Bytes) : Type 0 where
  pub counts : (size : ℕ) → count_frames a size ≡ count_frames b size
  pub lengths : (size k : ℕ) → length (frame_of a size k) ≡ length (frame_of b size k)
  pub refusals : (size k : ℕ) → frame_refusal a size k ≡ frame_refusal b size k

-- two calls of one step: two images whose frames look alike, or one refusal
pub data FramesAlike : Called → Called → Type 0 where
  accepted : {n : ℕ} {x y : Called} → x.answer ≡ Ok n → y.answer ≡ Ok n → SameFrames (take n x.lent.output) (take n y.lent.output) → FramesAlike x y
  refused : {r : Refusal} {x y : Called} → x.answer ≡ Err r → y.answer ≡ Err r → FramesAlike x y
