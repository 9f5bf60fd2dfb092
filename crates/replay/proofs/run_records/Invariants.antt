-- The needs of `run_records`: a turn adds one to one of the counts at most, so that neither passes the number of the turns.
use Rattle.std.proofs.Common.{◌≤◌}
use Rattle.replay.proofs.run_records.Given as goal

abbrev pub invariant-loop : goal.invariant-loop
invariant-loop g l = (l.counts.agree ≤ l.counter) × (l.counts.differ ≤ l.counter)
