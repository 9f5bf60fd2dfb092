-- `trial::output::put_globals` meets its contract: a value a turn.
use Rattle.std.proofs.Common.{◌≡◌}
use lib.Seq.{sets}
use Rattle.trial.specs.Value.{Globals}
use Rattle.trial.specs.Output.{shown}
use Rattle.trial.specs.Cells.{Keeping}
use Rattle.trial.proofs.output.put_globals.Given as goal

abbrev pub invariant-loop-k : goal.invariant-loop-k
invariant-loop-k l = (g : Globals) → Keeping l.work g → l.output ≡ sets l.initial.output 0 (shown l.k g)
