-- What the exported function promises of the token at an offset.
use Rattle.std.specs.Prelude.{ℕ, List, ◌≡◌, length, Result, Ok, Err}
use Rattle.definition.specs.Basic.{Bytes}
use Rattle.definition.specs.Answer.{Answer}
use Rattle.definition.specs.Output.{output_answer, output_after}
use Rattle.definition.specs.declared.reason.Refusal.{Refusal}
use Rattle.text.specs.Next.{token_at}
use Rattle.exported.specs.Packed.{Packs}

-- how many numbers are written, 15 where there is no room for them; or why there is no token
abbrev pub numbers_answer : Result (List ℕ) Refusal → ℕ → Answer
numbers_answer (Ok ns) room = output_answer ns room
numbers_answer (Err r) room = Err r

-- the numbers afterwards: those of a token at the front, the rest as it was
abbrev pub numbers_into : Result (List ℕ) Refusal → List ℕ → List ℕ
numbers_into (Ok ns) o = output_after ns o
numbers_into (Err r) o = o

-- the token at an offset: answer and numbers are the definition's
pub record TokenPacked (text : Bytes) (at : ℕ) (o : List ℕ) (r : ℕ) (o' : List ℕ) : Type 0 where
  pub answer : Packs (numbers_answer (token_at text at) (length o)) r
  pub output : o' ≡ numbers_into (token_at text at) o
