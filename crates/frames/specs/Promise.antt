-- What the functions on frames promise, besides `IsFrame`: the answers are the definition's.
use Rattle.std.specs.Prelude.{ℕ, ◌≡◌, Option, Result}
use Rattle.definition.specs.Basic.{Bytes}
use Rattle.definition.specs.declared.reason.Refusal.{Refusal}
use Rattle.frames.specs.declared.FrameCount.{FrameCount}
use Rattle.frames.specs.declared.FramePlace.{FramePlace}
use Rattle.frames.specs.Frames.{count_frames, find_frame, frame_refusal}

-- counting the whole frames of an image and the bytes behind them
pub record Counts (image : Bytes) (size : ℕ) (r : Result FrameCount Refusal) : Type 0 where
  pub answer : r ≡ count_frames image size

-- finding a frame
pub record Places (image : Bytes) (size k : ℕ) (r : Result FramePlace Refusal) : Type 0 where
  pub answer : r ≡ find_frame image size k

-- why there is no such frame, if there is none
pub record Refuses (image : Bytes) (size k : ℕ) (r : Option Refusal) : Type 0 where
  pub answer : r ≡ frame_refusal image size k
