-- `bytecode::zero::join` meets its contract: one byte a turn, joined by `or`.
use Rattle.bytecode.proofs.Zeros.{Joining}
use Rattle.bytecode.proofs.zero.join.Given as goal

abbrev pub invariant-loop-b : goal.invariant-loop-b
invariant-loop-b l = Joining l.bytes l.any l.b-index
