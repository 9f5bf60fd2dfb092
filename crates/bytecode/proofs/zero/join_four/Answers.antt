-- `bytecode::zero::join_four` meets its contract: a byte of each part a turn, joined by `or`.
use Rattle.bytecode.proofs.Zeros.{four_again}
use Rattle.bytecode.proofs.zero.join_four.Goals as goal

pub loop-i-preserved : goal.loop-i-preserved
loop-i-preserved c = search four_again
