-- `recognize` meets its contract: what is left of the text decides.
use Prim.Native.Nat.{◌-◌}
use lib.ListN.{length}
use Rattle.text.proofs.Turns.{Going}
use Rattle.text.proofs.recognize.recognize.Given as goal

abbrev pub invariant-loop-token : goal.invariant-loop-token
invariant-loop-token l = Going l.text l.open.contexts l.open.height l.mode l.at

abbrev pub decreases-loop-token : goal.decreases-loop-token
decreases-loop-token l = length l.text - l.at
