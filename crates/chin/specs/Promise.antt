-- What translating an image promises: answer and output are the definition's.
use Rattle.std.specs.Prelude.{◌≡◌, length}
use Rattle.definition.specs.Basic.{Bytes}
use Rattle.definition.specs.Answer.{Answer}
use Rattle.chin.specs.Chin.{Given, answer_of, output_of}

-- writing what the translation gave, the other form's bytes or a refusal, to an output
pub record Turns (g : Given) (o : Bytes) (r : Answer) (o' : Bytes) : Type 0 where
  pub answer : r ≡ answer_of g (length o)
  pub output : o' ≡ output_of g o
