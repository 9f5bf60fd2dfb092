-- `opcode::operand_length` meets its contract: no operands past the last instruction, and up to it the table's entry.
use native.Mathlib.Omega.{arith}
use mathlib.Core.Path.{sym}
use Rattle.opcode.proofs.Widths.{no_operands}
use Rattle.opcode.proofs.operand_length.Goals as goal

pub returns-then-wide-ge-INSTRUCTIONS : goal.returns-then-wide-ge-INSTRUCTIONS
returns-then-wide-ge-INSTRUCTIONS c = sym (no_operands c.args.op (omega (arith, c.wide.ensures.is, c.if-wide-ge-INSTRUCTIONS.true)))
