-- `bytecode::zero::join_four` meets its contract: a byte of each part a turn, joined by `or`.
use Rattle.bytecode.proofs.Zeros.{FourJoining}
use Rattle.bytecode.proofs.zero.join_four.Given as goal

abbrev pub invariant-loop-i : goal.invariant-loop-i
invariant-loop-i l = FourJoining l.one l.two l.three l.four l.any l.i
