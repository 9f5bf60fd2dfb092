-- `names::fill` meets its contract. The loop's invariant: the records before k stand in their slots.
use borrow.Author.Rules.{rules}
use Rattle.names.proofs.Rows.{turn_holds, turn_again, turn_small}
use Rattle.names.proofs.fill.Goals as goal

pub loop-k-init : goal.loop-k-init
loop-k-init g c = turn_holds _ _ (record { below = λ i. search rules }) c.requires.n_in_bounds c.requires.n_in_bounds_2

pub put-requires-clause-small : goal.put-requires-clause-small
put-requires-clause-small g c = turn_small _ _ c.loop-k.invariant c.record_at.ensures

pub loop-k-preserved : goal.loop-k-preserved
loop-k-preserved g c = turn_again _ _ c.loop-k.invariant (search rules) c.WIDTH.ensures c.record_at.ensures c.put.ensures
