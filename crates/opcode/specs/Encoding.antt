-- What encoding answers and writes.
use Rattle.std.specs.Prelude.{ℕ, ◌+◌, ◌≤◌, Bool, ◌≡◌, leb, ltb, length, Err}
use Rattle.definition.specs.Basic.{Bytes, pick, both}
use Rattle.definition.specs.Number.{refusal, bad_instruction}
use Rattle.definition.specs.Opcode.{Instr, width, bytes_of, op_last}
use Rattle.definition.specs.Valid.{operand_bound, captures_bound}
use Rattle.definition.specs.Output.{output_answer, output_after}
use Rattle.definition.specs.Answer.{Answer}

-- whether its bytes can hold an instruction
abbrev pub valid : Instr → Bool
valid i = both (leb i.op op_last) (both (ltb i.a (operand_bound (width i.op))) (ltb i.b (captures_bound (width i.op))))

-- encoding an instruction: 16 where it is not valid
abbrev pub encode_answer : Instr → ℕ → Answer
encode_answer i room = pick (valid i) (output_answer (bytes_of i) room) (Err (refusal bad_instruction 0))

abbrev pub encode_into : Instr → Bytes → Bytes
encode_into i out = pick (valid i) (output_after (bytes_of i) out) out

-- an instruction of so many operand bytes, and room for it
pub record Ready (i : Instr) (w : ℕ) (out : Bytes) : Type 0 where
  pub is : width i.op ≡ w
  pub small : w ≤ 3
  pub room : 1 + w ≤ length out
