-- The bytes of one instruction, cut out of code, and what they are by their number.
use Rattle.std.proofs.Common.{◌≡◌, ℕ, ◌+◌, ◌-◌, ◌≤◌, ◌<◌, length, ap, sym, ◌∙◌, arith}
use lib.ListN.{get_or, take, drop, length-drop}
use lib.Seq.{length-take-le, get_or-take, get_or-drop}
use Rattle.definition.specs.Basic.{Bytes, byte_at}
use Rattle.definition.specs.Opcode.{width, instr_at, operand_at, captures_at}
use Rattle.opcode.specs.Decoding.{instruction}
use Rattle.opcode.specs.declared.Instruction.{Instruction}

module _ (b : Bytes) (at : ℕ) where
  -- an operand by the number of its bytes
  pub by_width : {o c : ℕ} (n : ℕ) → width (byte_at b at) ≡ n → o ≡ operand_at (byte_at b) n at → c ≡ captures_at (byte_at b) n at → ◌≡◌ {A = Instruction} (record { op = byte_at b at; operand = o; captures = c }) (instruction (instr_at (byte_at b) at))
  by_width n e f g = λ i. record { op = byte_at b at; operand = (f ∙ ap (λ m. operand_at (byte_at b) m at) (sym e)) i; captures = (g ∙ ap (λ m. captures_at (byte_at b) m at) (sym e)) i }

  module _ (size : ℕ) where
    -- a byte of those cut out
    pub byte_in : (i d : ℕ) → i < size → get_or (take (at + size - at) (drop at b)) i d ≡ get_or b (at + i) d
    byte_in i d l = get_or-take (at + size - at) (drop at b) i d (omega arith) ∙ get_or-drop at b i d

    -- as many as there are
    pub cut_length : at + size ≤ length b → length (take (at + size - at) (drop at b)) ≡ size
    cut_length h = length-take-le (at + size - at) (drop at b) (omega (arith, length-drop at b)) ∙ omega arith
