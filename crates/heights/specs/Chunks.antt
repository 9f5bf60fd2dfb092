-- What judging the chunks of an image one after the other answers and stores.
use Rattle.std.specs.Prelude.{ℕ, suc, ◌+◌, ◌≤◌, ◌<◌, List, Option, Some, None, Result, Ok, Err, ◌≡◌, length, drop, set}
use Rattle.std.proofs.lemmas.List.Edits.{sets}
use Rattle.definition.specs.Basic.{Bytes, byte_at}
use Rattle.definition.specs.Field.{head}
use Rattle.definition.specs.Bytecode.{Const, Image}
use Rattle.listing.specs.Reads.{ConstantAt, HasPool}
use Rattle.heights.specs.Judgement.{counted}
use Rattle.heights.specs.declared.chunk.Kind.TheVariants.{Function}
use Rattle.heights.specs.Pass.{Top, top_of, Verdict, judged}
use Rattle.heights.specs.Marks.{Blank}
use Rattle.heights.specs.declared.image.BadChunk.{BadChunk}
use Rattle.heights.specs.declared.image.Progress.{Progress}

-- how far the chunks were judged: how many passed, and the heights behind theirs
abbrev pub comes_to : Option Progress → Option (ℕ × List ℕ)
comes_to (Some p) = Some (p.chunks, p.heights.now)
comes_to None = None

-- a chunk behind so many others, by its greatest height and the heights behind its own
abbrev pub top_answer : Top → ℕ → List ℕ → Option (ℕ × List ℕ)
top_answer (Top.top n) chunks rest = Some (chunks + 1, rest)
top_answer Top.fails chunks rest = None

-- the output afterwards
abbrev pub top_into : Top → ℕ → List ℕ → List ℕ
top_into (Top.top n) at out = set out at n
top_into Top.fails at out = out

-- a constant behind others
abbrev pub constant_answer : Const → Progress → Option (ℕ × List ℕ)
constant_answer (Const.integer b) p = Some (p.chunks, p.heights.now)
constant_answer (Const.string b) p = Some (p.chunks, p.heights.now)
constant_answer (Const.function l n c) p = top_answer (top_of p.heights.now Function 0 c) p.chunks (drop (length c) p.heights.now)

-- the output afterwards
abbrev pub constant_into : Const → Progress → List ℕ → List ℕ
constant_into (Const.integer b) p out = out
constant_into (Const.string b) p out = out
constant_into (Const.function l n c) p out = top_into (top_of p.heights.now Function 0 c) p.chunks out

-- all chunks
abbrev pub pool_answer : Verdict → Result ℕ BadChunk
pool_answer (Verdict.tops ns) = Ok (length ns)
pool_answer (Verdict.fails place) = Err (record { place = place })

-- what judging a chunk or a constant answers, the output afterwards, and where nothing arrives then
pub record Judges (next : ℕ) (answer : Option (ℕ × List ℕ)) (out : List ℕ) (r : Option Progress) (out₁ l : List ℕ) : Type 0 where
  pub answers : comes_to r ≡ answer
  pub stores : out₁ ≡ out
  pub blank : (p : Progress) → r ≡ Some p → Blank l (suc next)

-- a constant that stands from an offset up to another
pub record Standing (b : Bytes) (at next : ℕ) (x : Const) : Type 0 where
  pub end : ℕ
  pub constant : ConstantAt b at end x
  pub sized : next ≡ at + 3 + (head (byte_at b) at).len

pub record HasStanding (b : Bytes) (at next : ℕ) : Type 0 where
  pub constant : Const
  pub is : Standing b at next constant

-- a constant to judge
pub record ConstantReady (l : List ℕ) (b : Bytes) (at next chunks : ℕ) : Type 0 where
  pub stands : HasStanding b at next
  pub room : next < length l
  pub short : next ≤ 65536
  pub few : chunks ≤ at
  pub blank : Blank l (suc at)

-- a pool to judge
pub record PoolReady (l : List ℕ) (b : Bytes) (start end chunks : ℕ) : Type 0 where
  pub pool : HasPool b start end
  pub room : end < length l
  pub short : end ≤ 65536
  pub few : chunks ≤ start
  pub blank : Blank l (suc start)

-- main and the constants of a pool passed: their greatest heights stand at the front of an output, and the heights behind theirs are left
pub record SoFar (hs : List ℕ) (m : Image) (cs : List Const) (out₀ out : List ℕ) (p : Progress) : Type 0 where
  pub tops : List ℕ
  pub passed : judged hs m cs ≡ Verdict.tops tops
  pub chunks : length tops ≡ p.chunks
  pub heights : drop (counted m cs) hs ≡ p.heights.now
  pub stored : out ≡ sets out₀ 0 tops

-- what judging main and the constants of a pool answers, and the output where all pass
pub record PoolJudges (hs : List ℕ) (m : Image) (cs : List Const) (out₀ : List ℕ) (r : Result ℕ BadChunk) (out : List ℕ) : Type 0 where
  pub answers : r ≡ pool_answer (judged hs m cs)
  pub stores : (ns : List ℕ) → judged hs m cs ≡ Verdict.tops ns → out ≡ sets out₀ 0 ns
