-- `judge_pool` meets its contract: a constant a turn.
use Rattle.bytecode.proofs.EachConstant.{Over}
use Rattle.heights.specs.Lent.{Lent}
use Rattle.heights.proofs.Pools.{PoolLoop}
use Rattle.heights.proofs.image.Judging.judge_pool.Given as goal

abbrev pub invariant-loop-index : goal.invariant-loop-index
invariant-loop-index l =
    record {
      over : Over l.pool.bytes.now l.pool.end l.index-iterator.iter.constants;
      so_far : PoolLoop l.pool.bytes.now l.pool.start l.pool.end l.initial.self.output.now l.initial.self.marks.now l.initial.progress l.self.output.now l.self.marks.now l.index-iterator.iter.constants.at l.index-iterator.count l.progress;
      lent : Lent l.initial.self l.self;
    }
