-- `propose_pool` meets its contract: a constant a turn.
use Rattle.std.proofs.Common.{sym, ◌∙◌}
use Rattle.bytecode.proofs.EachConstant.{over_again}
use Rattle.heights.proofs.EachConstant.{turn_at, all_read}
use Rattle.heights.proofs.Flows.{pool_at, pool_ends, pool_constant, pool_again}
use Rattle.heights.proofs.Lent.{lends_on}
use Rattle.heights.proofs.propose.Proposer.propose_pool.Goals as goal

pub propose_constant-requires : goal.propose_constant-requires
propose_constant-requires c =
    let a = c.args in
    let s = a.self.now in
    let l = c.loop-constant in
    let n = c.in-Some.ensures.steps in
    let p = pool_at l.invariant.so_far (sym n.is.here) in
    rw (n.bytes ∙ l.invariant.over.image) (pool_constant a.pool.bytes.now a.pool.start a.pool.end s.count c.requires p (turn_at l.invariant.over n.is c.requires.pool.is p.reading))

pub loop-constant-preserved : goal.loop-constant-preserved
loop-constant-preserved c =
    let a = c.args in
    let s = a.self.now in
    let l = c.loop-constant in
    let n = c.in-Some.ensures.steps in
    let p = pool_at l.invariant.so_far (sym n.is.here) in
    let k = turn_at l.invariant.over n.is c.requires.pool.is p.reading in
    let j = c.propose_constant in
    let t = j.new.self in
    let q = pool_again a.pool.bytes.now a.pool.start a.pool.end s.count c.requires p k (j.ensures.proposes k.x (rw (n.bytes ∙ l.invariant.over.image) k.standing)) j.ensures.lent.heights j.ensures.lent.marks in
    record {
      over = over_again l.invariant.over n.is;
      so_far = pool_at q (sym n.is.behind);
      lent = lends_on l.invariant.lent j.ensures.lent;
    }

pub returns : goal.returns
returns c =
    let a = c.args in
    let l = c.loop-constant in
    let p = l.invariant.so_far in
    record {
      proposes = pool_ends a.pool.bytes.now a.pool.start a.pool.end a.self.now.count c.requires p (all_read l.invariant.over c.requires.pool.is p.reading c.in-None.ensures.steps);
      lent = l.invariant.lent;
    }
