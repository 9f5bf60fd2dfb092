-- What is recorded of an answer.
use Rattle.std.specs.Prelude.{ℕ, Bool, eqb, Ok, Err}
use Rattle.definition.specs.Basic.{both}
use Rattle.definition.specs.Number.{number_of}
use Rattle.definition.specs.Answer.{Answer}

-- whether an answer is the recorded one: 0 and the number that was answered, or a refusal's number and place
abbrev pub is_recorded : Answer → ℕ → ℕ → Bool
is_recorded (Ok n) number value = both (eqb number 0) (eqb n value)
is_recorded (Err r) number value = both (eqb (number_of r.reason) number) (eqb r.place value)
