-- `bytecode::zero::join` meets its contract: one byte a turn, joined by `or`.
use Rattle.bytecode.proofs.Zeros.{zeros_again}
use Rattle.bytecode.proofs.zero.join.Goals as goal

pub loop-b-preserved : goal.loop-b-preserved
loop-b-preserved c = search zeros_again
