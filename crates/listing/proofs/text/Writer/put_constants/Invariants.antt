-- `listing::text::Writer::put_constants` meets its contract: a constant a turn; what is left decides.
use Rattle.bytecode.proofs.EachConstant.{Over}
use Rattle.listing.proofs.Pools.{PoolLoop}
use Rattle.listing.proofs.text.Writer.put_constants.Given as goal

abbrev pub invariant-loop-index : goal.invariant-loop-index
invariant-loop-index l =
    record {
      can : (goal.iterator-loop-index).can_next l.index-iterator;
      over : Over l.pool.bytes.now l.pool.end l.index-iterator.iter.constants;
      so_far : PoolLoop l.pool.bytes.now l.pool.start l.pool.end l.initial.self l.self l.index-iterator.iter.constants.at l.index-iterator.count;
    }
