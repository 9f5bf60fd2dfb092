-- `value` meets its contract. What is left of the digits decides.
use Rattle.text.proofs.Skips.{Counted}
use Rattle.text.proofs.scan.value.Given as goal

abbrev pub invariant-loop-b : goal.invariant-loop-b
invariant-loop-b l = Counted l.digits l.n l.b-index
