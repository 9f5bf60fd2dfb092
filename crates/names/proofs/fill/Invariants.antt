-- `names::fill` meets its contract. The loop's invariant: the records before k stand in their slots.
use Rattle.names.proofs.Rows.{Turn}
use Rattle.names.proofs.fill.Given as goal

abbrev pub invariant-loop-k : goal.invariant-loop-k
invariant-loop-k g l = Turn g.S.Slot.WIDTH g.S.Slot.shown l.initial.slots l.log l.n l.slots l.k
