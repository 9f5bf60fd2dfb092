-- What checking the heights of an image that a series of calls wrote answers, by the promise of `check_heights`.
use Rattle.std.specs.Prelude.{ℕ, List, ◌≡◌, length, take, Ok}
use Rattle.definition.specs.Basic.{Bytes}
use Rattle.definition.specs.Answer.{Answer}
use Rattle.definition.specs.Bytecode.{Image}
use Rattle.definition.specs.Call.{Called}
use Rattle.definition.specs.Decode.{decoded, read_image}
use Rattle.definition.specs.Output.{output_answer, output_after}
use Rattle.heights.specs.Judgement.{AllPass, Tops, Offers, Are32Bit}
use Rattle.heights.specs.Promise.{Checks}

-- with these heights it answers each chunk's greatest height, or 15 where the output is too short, and writes them
pub record ChecksTops (b : Bytes) (m : Image) (hs : List ℕ) : Type 0 where
  pub tops : List ℕ
  pub greatest : Tops m m.pool tops
  pub answer : {o o' : List ℕ} {r : Answer} → Checks b hs o r o' → r ≡ output_answer tops (length o)
  pub output : {o o' : List ℕ} {r : Answer} → Checks b hs o r o' → o' ≡ output_after tops o

-- of an image: some list of 32-bit numbers offers each reached instruction its height, and with every such list all chunks pass and the
-- check answers so
pub record ImageOffered (b : Bytes) : Type 0 where
  pub image : Image
  pub reads : read_image b ≡ decoded image (length b)
  pub offers : (hs : List ℕ) × Offers hs image × Are32Bit hs
  pub passes : (hs : List ℕ) → Offers hs image → AllPass hs image image.pool
  pub checks : (hs : List ℕ) → Offers hs image → ChecksTops b image hs

-- of the image of a call, if it was accepted
pub record HeightsOffered (x : Called) : Type 0 where
  pub wrote : (n : ℕ) → x.answer ≡ Ok n → ImageOffered (take n x.lent.output)
