-- `shape::blank` meets its contract: a field a turn; before it the literals are zero, and behind it a row of fields is left.
use Rattle.shape.proofs.Turns.{Going}
use Rattle.shape.proofs.blank.Given as goal

abbrev pub invariant-loop-at : goal.invariant-loop-at
invariant-loop-at l = Going l.tree l.at-iterator l.copy
