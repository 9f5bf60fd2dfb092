-- `put_letters` meets its contract: a letter more at each turn.
use Rattle.std.proofs.Common.{arith}
use Rattle.load.proofs.Laws.{letter-more}
use Rattle.load.proofs.leaf.put_letters.Goals as goal

pub loop-byte-preserved : goal.loop-byte-preserved
loop-byte-preserved c =
    letter-more c.loop-byte.byte-index c.args.draws.now.state c.loop-byte.byte-items (omega arith) c.loop-byte.invariant.0 c.loop-byte.invariant.1 c.draw.ensures.is c.draw.ensures.state
