-- `listing::text::Writer::put_constants` meets its contract: a constant a turn; what is left decides.
use Rattle.std.proofs.Common.{◌+◌, refl, sym, ap, arith, ◌∙◌}
use Rattle.bytecode.proofs.EachConstant.{over_again, stands_at, none_left}
use Rattle.listing.proofs.Constants.{constant_own}
use Rattle.listing.proofs.Pools.{same, pool_ends, found, pool-turn, pool_again}
use Rattle.listing.proofs.text.Writer.put_constants.Goals as goal

pub put_constant-requires : goal.put_constant-requires
put_constant-requires c =
    let o = c.loop-index.invariant.over in
    let n = c.in-Some.ensures.steps in
    let s = stands_at o n.0.is in
    let p = same c.loop-index.invariant.so_far (sym n.0.is.here) (sym n.1) in
    let k = constant_own _ _ _ (pool-turn p c.requires s.before).constant s.sized in
    rw (n.0.bytes ∙ o.image) (record { constant = (found p c.requires s.before).x; is = k })

pub loop-index-preserved : goal.loop-index-preserved
loop-index-preserved c =
    let l = c.loop-index in
    let o = l.invariant.over in
    let n = c.in-Some.ensures.steps in
    let s = stands_at o n.0.is in
    let p = same l.invariant.so_far (sym n.0.is.here) (sym n.1) in
    let k = constant_own _ _ _ (pool-turn p c.requires s.before).constant s.sized in
    let q = pool_again p c.requires s.before c.put_decimal.ensures (c.put_constant.ensures _ (rw (n.0.bytes ∙ o.image) k)) refl in
    record {
      can = c.in-Some.ensures.goes.keeps;
      over = over_again o n.0.is;
      so_far = same q (sym s.sized ∙ sym n.0.is.behind) (ap (λ k. k + 1) n.1 ∙ sym n.2);
    }

pub returns : goal.returns
returns c =
    let l = c.loop-index in
    let e = none_left l.invariant.over c.in-None.ensures.steps.0 (λ h. let k = pool-turn l.invariant.so_far c.requires h in omega (arith, k.within, c.requires.is.within)) in
    λ x k. pool_ends l.invariant.so_far e k
