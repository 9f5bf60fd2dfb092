-- A jump is an instruction, with the position before it.
use Rattle.definition.proofs.Basic.{passed_on}
use Rattle.scope.proofs.Leaves.{jump_goes, jump_stops}
use Rattle.scope.proofs.lent.Scope.jump.Goals as goal

pub returns-in_err-emit_operand : goal.returns-in_err-emit_operand
returns-in_err-emit_operand c = let e = c.in_err-emit_operand.ensures in rw (passed_on c.from_residual.ensures.1) (record { jumped = jump_stops _ _ e.done; same = e.same })

pub returns : goal.returns
returns c = let e = c.in_ok-emit_operand.ensures in record { jumped = jump_goes _ _ e.done; same = e.same }
