-- Instructions: their bytes and operands.
use Rattle.std.specs.Prelude.{ℕ, zero, suc, ◌+◌, ◌*◌, ◌/◌, ◌%◌, Bool, List, [], ◌∷◌, get_or, leb}
use Rattle.definition.specs.Basic.{Bytes, both}

abbrev pub op_constant : ℕ
op_constant = 0x00

abbrev pub op_add : ℕ
op_add = 0x01

abbrev pub op_pop : ℕ
op_pop = 0x02

abbrev pub op_sub : ℕ
op_sub = 0x03

abbrev pub op_mul : ℕ
op_mul = 0x04

abbrev pub op_div : ℕ
op_div = 0x05

abbrev pub op_true : ℕ
op_true = 0x06

abbrev pub op_false : ℕ
op_false = 0x07

abbrev pub op_equal : ℕ
op_equal = 0x08

abbrev pub op_not_equal : ℕ
op_not_equal = 0x09

abbrev pub op_greater_than : ℕ
op_greater_than = 0x0A

abbrev pub op_minus : ℕ
op_minus = 0x0B

abbrev pub op_bang : ℕ
op_bang = 0x0C

abbrev pub op_jump_not_truthy : ℕ
op_jump_not_truthy = 0x0D

abbrev pub op_jump : ℕ
op_jump = 0x0E

abbrev pub op_null : ℕ
op_null = 0x0F

abbrev pub op_get_global : ℕ
op_get_global = 0x10

abbrev pub op_set_global : ℕ
op_set_global = 0x11

abbrev pub op_array : ℕ
op_array = 0x12

abbrev pub op_hash : ℕ
op_hash = 0x13

abbrev pub op_index : ℕ
op_index = 0x14

abbrev pub op_call : ℕ
op_call = 0x15

abbrev pub op_return_value : ℕ
op_return_value = 0x16

abbrev pub op_return : ℕ
op_return = 0x17

abbrev pub op_get_local : ℕ
op_get_local = 0x18

abbrev pub op_set_local : ℕ
op_set_local = 0x19

abbrev pub op_get_builtin : ℕ
op_get_builtin = 0x1A

abbrev pub op_closure : ℕ
op_closure = 0x1B

abbrev pub op_get_free : ℕ
op_get_free = 0x1C

abbrev pub op_current_closure : ℕ
op_current_closure = 0x1D

-- the last instruction byte
abbrev pub op_last : ℕ
op_last = op_current_closure

-- the operand bytes of each instruction byte
abbrev pub widths : List ℕ
widths = 2 ∷ 0 ∷ 0 ∷ 0 ∷ 0 ∷ 0 ∷ 0 ∷ 0 ∷ 0 ∷ 0 ∷ 0 ∷ 0 ∷ 0 ∷ 2 ∷ 2 ∷ 0 ∷ 2 ∷ 2 ∷ 2 ∷ 2 ∷ 0 ∷ 1 ∷ 0 ∷ 0 ∷ 1 ∷ 1 ∷ 1 ∷ 3 ∷ 1 ∷ 0 ∷ []

abbrev pub width : ℕ → ℕ
width o = get_or widths o 0

-- an instruction: its byte, its operand, and the captures of a Closure
pub record Instr : Type 0 where
  pub op : ℕ
  pub a : ℕ
  pub b : ℕ

abbrev pub instr : ℕ → ℕ → ℕ → Instr
instr o a b = record { op = o; a = a; b = b }

-- an instruction without operands
abbrev pub plain : ℕ → Instr
plain o = instr o 0 0

-- its length in bytes
abbrev pub size : Instr → ℕ
size i = 1 + width i.op

-- the operand bytes, by their number
abbrev pub operands : ℕ → ℕ → ℕ → Bytes
operands zero a b = []
operands (suc zero) a b = a % 256 ∷ []
operands (suc (suc zero)) a b = a / 256 % 256 ∷ a % 256 ∷ []
operands (suc (suc (suc n))) a b = a / 256 % 256 ∷ a % 256 ∷ b % 256 ∷ []

-- an instruction as bytes
abbrev pub bytes_of : Instr → Bytes
bytes_of i = i.op ∷ operands (width i.op) i.a i.b

-- The instruction at an offset
module _ (byte : ℕ → ℕ) where
  -- its operand, by the number of operand bytes
  abbrev pub operand_at : ℕ → ℕ → ℕ
  operand_at zero at = 0
  operand_at (suc zero) at = byte (at + 1)
  operand_at (suc (suc n)) at = byte (at + 1) * 256 + byte (at + 2)

  -- the captures of a Closure
  abbrev pub captures_at : ℕ → ℕ → ℕ
  captures_at zero at = 0
  captures_at (suc zero) at = 0
  captures_at (suc (suc zero)) at = 0
  captures_at (suc (suc (suc n))) at = byte (at + 3)

  abbrev pub instr_at : ℕ → Instr
  instr_at at = instr (byte at) (operand_at (width (byte at)) at) (captures_at (width (byte at)) at)

  -- a known byte, with all its operands before `end`
  abbrev pub whole : ℕ → ℕ → Bool
  whole at end = both (leb (byte at) op_last) (leb (at + 1 + width (byte at)) end)
