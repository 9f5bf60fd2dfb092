-- `check_children` calls itself with a level fewer. The loop's invariant says that what is left decides; its measure is what is left of the content.
use Prim.Native.Nat.{◌-◌}
use Rattle.definition.specs.Basic.{byte_at}
use Rattle.tree.proofs.Steps.{Left}
use Rattle.tree.proofs.+check_children.Given as goal

abbrev pub decreases-check_children : goal.decreases-check_children
decreases-check_children l = l.levels

abbrev pub invariant-loop-at : goal.invariant-loop-at
invariant-loop-at l = Left (byte_at l.tree) l.levels l.parent l.end l.at l.k l.kinds

abbrev pub decreases-loop-at : goal.decreases-loop-at
decreases-loop-at l = l.end - l.at
