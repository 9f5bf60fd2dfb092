-- What proposing heights for an image answers, and what of the lent list stays. Nothing is said of the heights: the check judges them.
use Rattle.std.specs.Prelude.{ℕ, ◌≤◌, ◌<◌, List, ◌≡◌, length, drop, leb, Ok, Err}
use Rattle.definition.specs.Basic.{Bytes, pick}
use Rattle.definition.specs.Number.{refusal, bad_image, output_short}
use Rattle.definition.specs.Bytecode.{Image}
use Rattle.definition.specs.Decode.{Decoded, decoded, malformed}
use Rattle.definition.specs.Answer.{Answer}
use Rattle.listing.specs.Reads.{HasCode, HasPool}
use Rattle.heights.specs.Judgement.{counted}
use Rattle.heights.specs.Chunks.{HasStanding}

-- how many instructions an image has, if the list has a number for each; 15 where it has not, 17 where the image is wrong
abbrev pub proposal_answer : Decoded Image → ℕ → Answer
proposal_answer (decoded m n) room = pick (leb (counted m m.pool) room) (Ok (counted m m.pool)) (Err (refusal output_short 0))
proposal_answer (malformed p) room = Err (refusal bad_image p)

-- how many numbers of the list are written
abbrev pub proposal_size : Decoded Image → ℕ → ℕ
proposal_size (decoded m n) room = pick (leb (counted m m.pool) room) (counted m m.pool) 0
proposal_size (malformed p) room = 0

-- so many heights were proposed up to an offset, and the list behind them stays
pub record Proposed (n end : ℕ) (o₀ : List ℕ) (r : ℕ) (o : List ℕ) : Type 0 where
  pub many : r ≡ n
  pub few : r ≤ end
  pub rest : drop r o ≡ drop r o₀

-- an instruction to go over
pub record FlowSpot (l : List ℕ) (start end at next : ℕ) : Type 0 where
  pub from : start ≤ at
  pub behind : at < next
  pub within : next ≤ end
  pub room : end < length l

-- a chunk to go over, behind so many instructions
pub record FlowReady (l : List ℕ) (b : Bytes) (start end first : ℕ) : Type 0 where
  pub code : HasCode b start end
  pub room : end < length l
  pub short : end ≤ 65536
  pub few : first ≤ start

-- a constant
pub record ConstantFlow (l : List ℕ) (b : Bytes) (at next first : ℕ) : Type 0 where
  pub stands : HasStanding b at next
  pub room : next < length l
  pub short : next ≤ 65536
  pub few : first ≤ at

-- a pool
pub record PoolFlow (l : List ℕ) (b : Bytes) (start end first : ℕ) : Type 0 where
  pub pool : HasPool b start end
  pub room : end < length l
  pub short : end ≤ 65536
  pub few : first ≤ start
