-- `step::literal` meets its contract: a constant more, then Constant.
use mathlib.Core.Path.{refl}
use Rattle.definition.proofs.Basic.{passed_on}
use Rattle.step.proofs.Constants.{literal_goes, literal_stops}
use Rattle.step.proofs.literal.Goals as goal

pub returns-in_err-index : goal.returns-in_err-index
returns-in_err-index c = rw (passed_on c.from_residual.ensures.1) (record { beside = literal_stops _ _ (c.args.scope.now).area (rw c.content.ensures at c.in_err-index.ensures); same = refl })

pub returns : goal.returns
returns c = record { beside = literal_goes _ _ (rw c.content.ensures at c.in_ok-index.ensures) c.emit_operand.ensures.done; same = c.emit_operand.ensures.same }
