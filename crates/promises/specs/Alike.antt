-- What two series of calls have in common, step by step, in what the functions on frames and on the chin form answer.
use Rattle.std.specs.Prelude.{ℕ, List, [], ◌∷◌, ◌≡◌, length, take, Option, Result, Ok, Err}
use Rattle.std.specs.Borrow.{Bor}
use Rattle.definition.specs.Basic.{Bytes}
use Rattle.definition.specs.Bytecode.{Image}
use Rattle.definition.specs.Compile.{Outcome, Step}
use Rattle.definition.specs.Call.{Called}
use Rattle.definition.specs.Literal.{Mask, image_mask}
use Rattle.definition.specs.Series.{Agree}
use Rattle.definition.specs.declared.reason.Refusal.{Refusal}
use Rattle.definition.specs.Answer.{Answer}
use Rattle.frames.specs.Frames.{IsFrame}
use Rattle.frames.specs.Promise.{Counts, Places, Refuses}
use Rattle.frames.specs.declared.FrameCount.{FrameCount}
use Rattle.frames.specs.declared.FramePlace.{FramePlace}
use Rattle.chin.specs.Chin.{to_chin}
use Rattle.chin.specs.Promise.{Turns}

-- a relation between two calls, at every step of two series
pub data Stepwise (R : Called → Called → Type 0) : List Called → List Called → Type 0 where
  done : Stepwise R [] []
  step : {x y : Called} {xs ys : List Called} → R x y → Stepwise R xs ys → Stepwise R (x ∷ xs) (y ∷ ys)

-- the functions on frames answer alike on two images, at one size and number: equal counts, places and refusals, and frames equally long
pub record FramesAgree (a b : Bytes) : Type 0 where
  pub counts : {size : ℕ} {r q : Result FrameCount Refusal} → Counts a size r → Counts b size q → r ≡ q
  pub places : {size k : ℕ} {r q : Result FramePlace Refusal} → Places a size k r → Places b size k q → r ≡ q
  pub refusals : {size k : ℕ} {r q : Option Refusal} → Refuses a size k r → Refuses b size k q → r ≡ q
  pub frames : {x y part other : Bor Bytes} {size k : ℕ} → x.now ≡ a → y.now ≡ b → IsFrame x part size k → IsFrame y other size k
      → length part.now ≡ length other.now

-- two calls of one step: two images on which they do so, or one refusal
pub data FramesAnswered : Called → Called → Type 0 where
  accepted : {n : ℕ} {x y : Called} → x.answer ≡ Ok n → y.answer ≡ Ok n → FramesAgree (take n x.lent.output) (take n y.lent.output)
      → FramesAnswered x y
  refused : {r : Refusal} {x y : Called} → x.answer ≡ Err r → y.answer ≡ Err r → FramesAnswered x y

-- `to_chin` answers alike on two images, with outputs equally long, and where it is no refusal the bytes written agree at all but a mask's
-- places
pub record ChinAgree (m : Mask) (a b : Bytes) : Type 0 where
  pub answers : {o p o' p' : Bytes} {r q : Answer} → Turns (to_chin a) o r o' → Turns (to_chin b) p q p' → length o ≡ length p → r ≡ q
  pub bytes : {o p o' p' : Bytes} {r q : Answer} {n : ℕ} → Turns (to_chin a) o r o' → Turns (to_chin b) p q p' → length o ≡ length p
      → r ≡ Ok n → Agree m (take n o') (take n p')

-- two calls of one step beside the shapes' outcome: images on which `to_chin` does so at the literals' places; or one refusal
pub data ChinAlike : Outcome → Called → Called → Type 0 where
  accepted : {m : Image} {n : ℕ} {x y : Called} → x.answer ≡ Ok n → y.answer ≡ Ok n
      → ChinAgree (image_mask m) (take n x.lent.output) (take n y.lent.output) → ChinAlike (Outcome.accepted m) x y
  refused : {r : Refusal} {x y : Called} → x.answer ≡ Err r → y.answer ≡ Err r → ChinAlike (Outcome.refused r) x y

-- the same at every step of two series, beside the shapes' steps
pub data ChinStepwise : List Step → List Called → List Called → Type 0 where
  done : ChinStepwise [] [] []
  step : {p : Step} {x y : Called} {ps : List Step} {xs ys : List Called} → ChinAlike p.outcome x y → ChinStepwise ps xs ys
      → ChinStepwise (p ∷ ps) (x ∷ xs) (y ∷ ys)
