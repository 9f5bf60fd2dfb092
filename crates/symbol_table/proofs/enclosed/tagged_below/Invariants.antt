-- The loop's invariant: the entries behind the k-th have other tags.
use Rattle.symbol_table.specs.Contract.{PassedOver}
use Rattle.symbol_table.proofs.enclosed.tagged_below.Given as goal

abbrev pub invariant-loop-k : goal.invariant-loop-k
invariant-loop-k l = PassedOver l.part l.from l.tag l.k

abbrev pub decreases-loop-k : goal.decreases-loop-k
decreases-loop-k l = l.k
