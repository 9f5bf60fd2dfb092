-- `put_bytes` meets its contract, byte by byte.
use Rattle.session.proofs.Stores.{taken_one}
use Rattle.session.proofs.write.put_bytes.Goals as goal

pub loop-k-preserved : goal.loop-k-preserved
loop-k-preserved c = taken_one c.args.output.now c.args.at c.args.bytes.now c.loop-k.k c.loop-k-test.true c.loop-k.invariant c.store.ensures
