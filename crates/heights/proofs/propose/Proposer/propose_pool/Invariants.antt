-- `propose_pool` meets its contract: a constant a turn.
use Rattle.bytecode.proofs.EachConstant.{Over}
use Rattle.heights.specs.Lent.{Lends}
use Rattle.heights.proofs.Flows.{PoolLoop}
use Rattle.heights.proofs.propose.Proposer.propose_pool.Given as goal

abbrev pub invariant-loop-constant : goal.invariant-loop-constant
invariant-loop-constant l =
    record {
      over : Over l.pool.bytes.now l.pool.end l.constant-iterator.constants;
      so_far : PoolLoop l.pool.bytes.now l.pool.start l.pool.end l.initial.self.count l.initial.self.heights.now l.initial.self.marks.now l.self.heights.now l.self.marks.now l.constant-iterator.constants.at l.self.count;
      lent : Lends l.initial.self l.self;
    }
