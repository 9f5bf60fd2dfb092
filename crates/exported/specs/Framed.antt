-- Counts and places of frames as one 64-bit number, and what the exported functions promise of them.
use Rattle.std.specs.Prelude.{ℕ, ◌+◌, ◌*◌, ◌/◌, ◌%◌, ◌≡◌, Option, Some, None, Result, Ok, Err}
use Rattle.definition.specs.Basic.{Bytes}
use Rattle.definition.specs.declared.reason.Refusal.{Refusal}
use Rattle.definition.specs.Answer.{Answer}
use Rattle.frames.specs.Frames.{count_is, place_is, count_frames, find_frame, frame_refusal}
use Rattle.frames.specs.declared.FrameCount.{FrameCount}
use Rattle.frames.specs.declared.FramePlace.{FramePlace}
use Rattle.exported.specs.Packed.{half_bound, Packs}

-- what the two numbers of a pair are below: 2 to the 16th
abbrev pub quarter_bound : ℕ
quarter_bound = 65536

-- two numbers as one
abbrev pub paired : ℕ → ℕ → ℕ
paired a b = a * quarter_bound + b

-- a number is the two
pub record Pairs (a b v : ℕ) : Type 0 where
  pub first : v / quarter_bound ≡ a
  pub second : v % quarter_bound ≡ b

-- two numbers as a length
abbrev pub pair_answer : Result (ℕ × ℕ) Refusal → Answer
pair_answer (Ok p) = Ok (paired p.0 p.1)
pair_answer (Err r) = Err r

-- whole frames and rest, as a length
abbrev pub count_answer : Result FrameCount Refusal → Answer
count_answer (Ok c) = Ok (paired c.whole c.rest)
count_answer (Err r) = Err r

-- offset and length, as a length
abbrev pub place_answer : Result FramePlace Refusal → Answer
place_answer (Ok p) = Ok (paired p.start p.len)
place_answer (Err r) = Err r

-- a refusal, or 0 where there is none
abbrev pub refusal_answer : Option Refusal → Answer
refusal_answer (Some r) = Err r
refusal_answer None = Ok 0

-- counting frames: the answer is the definition's, and its low half is whole frames and rest
pub record CountsPacked (image : Bytes) (size r : ℕ) : Type 0 where
  pub answer : Packs (count_answer (count_frames image size)) r
  pub parts : (whole rest : ℕ) → count_frames image size ≡ count_is whole rest → Pairs whole rest (r % half_bound)

-- a frame's place: the answer is the definition's, and its low half is offset and length
pub record PlacesPacked (image : Bytes) (size k r : ℕ) : Type 0 where
  pub answer : Packs (place_answer (find_frame image size k)) r
  pub parts : (start n : ℕ) → find_frame image size k ≡ place_is start n → Pairs start n (r % half_bound)

-- a frame's refusal, 0 if there is none
pub record RefusesPacked (image : Bytes) (size k r : ℕ) : Type 0 where
  pub answer : Packs (refusal_answer (frame_refusal image size k)) r
