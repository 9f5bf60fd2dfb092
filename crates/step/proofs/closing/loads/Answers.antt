-- `step::closing::loads` meets its contract: the loads of the originals passed are done.
use mathlib.Core.Path.{refl}
use native.Mathlib.Omega.{arith}
use Rattle.definition.proofs.Basic.{passed_on}
use Rattle.step.proofs.Loads.{load_holds, load_again, load_stops}
use Rattle.step.proofs.closing.loads.Goals as goal

pub loop-code-init : goal.loop-code-init
loop-code-init c = search load_holds

pub loop-code-preserved : goal.loop-code-preserved
loop-code-preserved c = load_again _ _ c.loop-code.invariant refl c.load_of-l.ensures c.in_ok-emit_operand.ensures

pub returns-in_err-emit_operand : goal.returns-in_err-emit_operand
returns-in_err-emit_operand c = rw (passed_on c.from_residual.ensures.1) (load_stops _ _ c.loop-code.invariant refl c.load_of-l.ensures (omega arith) c.in_err-emit_operand.ensures)
