-- What decoding answers, from the definition's `read_instr`.
use Rattle.std.specs.Prelude.{ℕ, ◌+◌, length, ltb, Option, Some, None, Result, Ok, Err}
use Rattle.definition.specs.Basic.{Bytes, byte_at, pick}
use Rattle.definition.specs.Number.{refusal, bad_instruction}
use Rattle.definition.specs.Opcode.{Instr, instr, width, whole}
use Rattle.definition.specs.Decode.{decoded, malformed, read_instr}
use Rattle.definition.specs.Decode as Decode
use Rattle.definition.specs.declared.reason.Refusal.{Refusal}
use Rattle.opcode.specs.declared.Instruction.{Instruction}
use Rattle.opcode.specs.declared.Decoded.{Decoded}

-- the length of the instruction at an offset, where one stands whole before `end`
abbrev pub size_at : (ℕ → ℕ) → ℕ → ℕ → Option ℕ
size_at byte at end = pick (whole byte at end) (Some (1 + width (byte at))) None

-- an instruction of the definition as a value of the code, and back
abbrev pub instruction : Instr → Instruction
instruction i = record { op = i.op; operand = i.a; captures = i.b }

abbrev pub instr_of : Instruction → Instr
instr_of i = instr i.op i.operand i.captures

-- the instruction at an offset before an end; none before an end past the bytes
abbrev pub read_before : Bytes → ℕ → ℕ → Decode.Decoded Instr
read_before b at end = pick (ltb (length b) end) (malformed at) (read_instr (byte_at b) at end)

-- an instruction that was found, and the offset after it
abbrev pub found : Instruction → ℕ → Result Decoded Refusal
found i n = Ok (record { instruction = i; after = n })

-- what was read, as an answer: number 16 where nothing was
abbrev pub decode_answer : Decode.Decoded Instr → Result Decoded Refusal
decode_answer (decoded i n) = found (instruction i) n
decode_answer (malformed p) = Err (refusal bad_instruction p)
