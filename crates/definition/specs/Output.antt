-- What a call answers and leaves where it writes bytes into a lent output.
use Rattle.std.specs.Prelude.{ℕ, ◌++◌, length, drop, leb, Ok, Err}
use Rattle.definition.specs.Basic.{Bytes, pick}
use Rattle.definition.specs.Number.{refusal, output_short}
use Rattle.definition.specs.Answer.{Answer}

-- bytes at the front, the rest as it was
abbrev pub over : Bytes → Bytes → Bytes
over new b = new ++ drop (length new) b

-- the length of what is written into an output of so many bytes, 15 where it is longer
abbrev pub output_answer : Bytes → ℕ → Answer
output_answer new room = pick (leb (length new) room) (Ok (length new)) (Err (refusal output_short 0))

-- the output afterwards
abbrev pub output_after : Bytes → Bytes → Bytes
output_after new out = pick (leb (length new) (length out)) (over new out) out
