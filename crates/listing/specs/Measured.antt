-- What the reading that checks an image and counts its listing answers, from what the definition reads.
use Rattle.std.specs.Prelude.{ℕ, ◌+◌, ◌≤◌, ◌<◌, ◌≡◌, List, length, Result, Ok, Err}
use Rattle.definition.specs.Basic.{Bytes, byte_at}
use Rattle.definition.specs.Number.{refusal, bad_image}
use Rattle.definition.specs.Opcode.{Instr, width}
use Rattle.definition.specs.Bytecode.{Code, Const, Image}
use Rattle.definition.specs.Decode.{Decoded, decoded, malformed}
use Rattle.definition.specs.Listing.{operand_fields, code_lines, constant_fields, constant_lines, listing}
use Rattle.definition.specs.declared.reason.Refusal.{Refusal}
use Rattle.bytecode.specs.declared.Malformed.{Malformed}
use Rattle.bytecode.specs.Checked.{wrong}
use Rattle.listing.specs.declared.measure.Measured.{Measured}
use Rattle.listing.specs.declared.measure.MeasuredPool.{MeasuredPool}
use Rattle.listing.specs.declared.measure.MeasuredImage.{MeasuredImage}

-- the operands of an instruction
abbrev pub operands_of : Instr → Bytes
operands_of i = operand_fields (width i.op) i.a i.b

-- an instruction of so many bytes at an offset
pub record InstrAt (b : Bytes) (at size : ℕ) : Type 0 where
  pub known : byte_at b at < 30
  pub is : size ≡ 1 + width (byte_at b at)
  pub within : at + size ≤ length b

-- code and a constant, with the length of a text of what was read
abbrev pub measured : {A : Type 0} → (A → Bytes) → Decoded A → Result Measured Malformed
measured text (decoded x n) = Ok (record { text = length (text x); end = n })
measured text (malformed p) = wrong p

abbrev pub code_measured : Decoded Code → Result Measured Malformed
code_measured = measured code_lines

abbrev pub constant_measured : Decoded Const → Result Measured Malformed
constant_measured = measured constant_fields

-- constants
abbrev pub pool_measured : Decoded (List Const) → Result MeasuredPool Malformed
pool_measured (decoded cs n) = Ok (record { count = length cs; text = length (constant_lines cs); end = n })
pool_measured (malformed p) = wrong p

-- an image: number 17 where something is wrong
abbrev pub image_measured : Decoded Image → Result MeasuredImage Refusal
image_measured (decoded m n) = Ok (record { constants = length m.pool; size = length (listing m) })
image_measured (malformed p) = Err (refusal bad_image p)

-- how long the text is that was counted
abbrev pub text_of : Result Measured Malformed → ℕ
text_of (Ok m) = m.text
text_of (Err e) = 0

abbrev pub pool_text_of : Result MeasuredPool Malformed → ℕ
pool_text_of (Ok m) = m.text
pool_text_of (Err e) = 0
