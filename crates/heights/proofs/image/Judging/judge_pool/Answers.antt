-- `judge_pool` meets its contract: a constant a turn.
use Rattle.std.proofs.Common.{◌+◌, ◌∙◌, ap, sym}
use Rattle.bytecode.proofs.EachConstant.{over_again}
use Rattle.heights.proofs.EachConstant.{turn_at, all_read}
use Rattle.heights.proofs.Lent.{lent_on}
use Rattle.heights.proofs.Pools.{pool_at, pool_ends, constant_ready, pool_fails, pool_again}
use Rattle.heights.proofs.image.Judging.judge_pool.Goals as goal

pub judge_constant-requires : goal.judge_constant-requires
judge_constant-requires c =
    let a = c.args in
    let s = a.self.now in
    let l = c.loop-index in
    let n = c.in-Some.ensures.steps in
    let p = pool_at l.invariant.so_far (sym n.0.is.here) (sym n.1) in
    rw (n.0.bytes ∙ l.invariant.over.image) (constant_ready a.pool.bytes.now a.pool.start a.pool.end s.output.now s.marks.now a.before c.requires p (turn_at l.invariant.over n.0.is c.requires.pool.is p.reading))

pub returns-in_default : goal.returns-in_default
returns-in_default c =
    let a = c.args in
    let s = a.self.now in
    let l = c.loop-index in
    let n = c.in-Some.ensures.steps in
    let p = pool_at l.invariant.so_far (sym n.0.is.here) (sym n.1) in
    let k = turn_at l.invariant.over n.0.is c.requires.pool.is p.reading in
    let j = c.judge_constant.ensures in
    record {
      judges = pool_fails a.pool.bytes.now a.pool.start a.pool.end s.output.now s.marks.now a.before c.requires p k (j.judges k.x (rw (n.0.bytes ∙ l.invariant.over.image) k.standing)) c.in_default.is;
      lent = lent_on l.invariant.lent j.lent;
    }

pub loop-index-preserved : goal.loop-index-preserved
loop-index-preserved c =
    let a = c.args in
    let s = a.self.now in
    let l = c.loop-index in
    let n = c.in-Some.ensures.steps in
    let p = pool_at l.invariant.so_far (sym n.0.is.here) (sym n.1) in
    let k = turn_at l.invariant.over n.0.is c.requires.pool.is p.reading in
    let j = c.judge_constant in
    let q = pool_again a.pool.bytes.now a.pool.start a.pool.end s.output.now s.marks.now a.before c.requires p k (j.ensures.judges k.x (rw (n.0.bytes ∙ l.invariant.over.image) k.standing)) c.in-Some-judge_constant.is j.ensures.lent.marks j.ensures.lent.output in
    record {
      over = over_again l.invariant.over n.0.is;
      so_far = pool_at q (sym n.0.is.behind) (ap (λ k. k + 1) n.1 ∙ sym n.2);
      lent = lent_on l.invariant.lent j.ensures.lent;
    }

pub returns : goal.returns
returns c =
    let a = c.args in
    let s = a.self.now in
    let l = c.loop-index in
    let p = l.invariant.so_far in
    record {
      judges = pool_ends a.pool.bytes.now a.pool.start a.pool.end s.output.now s.marks.now a.before c.requires p (all_read l.invariant.over c.requires.pool.is p.reading c.in-None.ensures.steps.0);
      lent = l.invariant.lent;
    }
