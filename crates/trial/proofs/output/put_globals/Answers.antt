-- `trial::output::put_globals` meets its contract: a value a turn.
use Rattle.std.proofs.Common.{refl, arith}
use Rattle.trial.proofs.Shown.{shown_none, shown_again, shown_ends}
use Rattle.trial.proofs.output.put_globals.Goals as goal

pub loop-k-init : goal.loop-k-init
loop-k-init c = λ g q. shown_none g c.args.output.now

pub loop-k-preserved : goal.loop-k-preserved
loop-k-preserved c = λ g q. shown_again c.args.work.now g q c.args.output.now c.loop-k.k (omega arith) (c.loop-k.invariant g q) refl refl c.put_cell.ensures

pub returns : goal.returns
returns c = λ g q. shown_ends c.args.work.now g q c.args.output.now c.args.n c.loop-k.k c.requires.1 (omega arith) c.requires.0 (c.loop-k.invariant g q)
