-- The two calls as they were: the check of an image, and then, where it is sound, its listing.
use Rattle.std.specs.Prelude.{ℕ, length, Result, Ok, Err}
use Rattle.definition.specs.Basic.{Bytes}
use Rattle.definition.specs.Decode.{read_image}
use Rattle.definition.specs.Listing.{list_answer, list_into}
use Rattle.definition.specs.Answer.{Answer}
use Rattle.definition.specs.declared.reason.Refusal.{Refusal}
use Rattle.bytecode.specs.Checked.{image_answer}

-- what a call answers, and what it leaves in the output
pub record Outcome : Type 0 where
  pub answer : Answer
  pub output : Bytes

-- the check of an image, which is lent no output
abbrev pub checked : Bytes → Result ℕ Refusal
checked image = image_answer (read_image image)

-- its listing
abbrev pub listed : Bytes → Bytes → Outcome
listed image output = record { answer = list_answer (read_image image) (length output); output = list_into (read_image image) output }

-- what is wrong is answered by the check, and nothing is listed
abbrev pub then_list : Result ℕ Refusal → Outcome → Bytes → Outcome
then_list (Ok n) list output = list
then_list (Err r) list output = record { answer = Err r; output = output }

abbrev pub check_then_list : Bytes → Bytes → Outcome
check_then_list image output = then_list (checked image) (listed image output) output
