-- The table of operand lengths: what it says of every first byte.
use Rattle.std.specs.Prelude.{ℕ, leb}
use Rattle.definition.specs.Basic.{pick}
use Rattle.definition.specs.Opcode.{op_last, width}

-- the mark of a byte that begins no instruction
abbrev pub no_instruction : ℕ
no_instruction = 255

-- the entry of a first byte
abbrev pub entry : ℕ → ℕ
entry o = pick (leb o op_last) (width o) no_instruction
