-- What writing a word of the listing answers and leaves.
use Rattle.std.specs.Prelude.{ℕ, leb, Err}
use Rattle.definition.specs.Basic.{Bytes, pick}
use Rattle.definition.specs.Number.{refusal, bad_instruction}
use Rattle.definition.specs.Opcode.{op_last}
use Rattle.definition.specs.Output.{output_answer, output_after}
use Rattle.definition.specs.Listing.{word}
use Rattle.definition.specs.Answer.{Answer}

-- writing a word: 16 where the byte begins no instruction
abbrev pub word_answer : ℕ → ℕ → Answer
word_answer o room = pick (leb o op_last) (output_answer (word o) room) (Err (refusal bad_instruction 0))

abbrev pub word_into : ℕ → Bytes → Bytes
word_into o out = pick (leb o op_last) (output_after (word o) out) out
