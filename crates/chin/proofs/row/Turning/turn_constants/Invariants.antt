-- `chin::row::Turning::turn_constants` meets its contract: one constant a turn; what is left decides.
use Rattle.bytecode.proofs.EachConstant.{Over}
use Rattle.chin.specs.Lent.{Keeps}
use Rattle.chin.proofs.Pools.{PoolLoop}
use Rattle.chin.proofs.row.Turning.turn_constants.Given as goal

abbrev pub invariant-loop-at : goal.invariant-loop-at
invariant-loop-at l =
    let s = l.initial.self in
    record {
      over : Over s.image.now l.end l.at-iterator;
      so_far : PoolLoop s.from s.image.now l.start l.end s.output.now l.at-iterator.at l.self.output.now;
      lent : Keeps s l.self;
    }
