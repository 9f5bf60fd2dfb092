-- `step::closing::loads` meets its contract: the loads of the originals passed are done.
use Rattle.step.proofs.Loads.{LoadTurn}
use Rattle.step.proofs.closing.loads.Given as goal

abbrev pub invariant-loop-code : goal.invariant-loop-code
invariant-loop-code l = LoadTurn l.place l.originals l.initial.scope l.scope l.code-index
