-- An instruction is added where there is room for its bytes.
use native.Mathlib.Omega.{arith}
use Rattle.definition.proofs.Instructions.{width_most}
use Rattle.scope.proofs.emission.add_instruction.Goals as goal

pub overflow_add-n : goal.overflow_add-n
overflow_add-n c = let start = c in omega (arith, c.operand_length-n.ensures, width_most start.args.i.op)

pub overflow_add-at-2 : goal.overflow_add-at-2
overflow_add-at-2 c = let start = c in omega (arith, c.operand_length-n.ensures, width_most start.args.i.op)
