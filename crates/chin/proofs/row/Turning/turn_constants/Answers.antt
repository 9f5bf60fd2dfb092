-- `chin::row::Turning::turn_constants` meets its contract: one constant a turn; what is left decides.
use Rattle.std.proofs.Common.{arith, sym, subst, ◌∙◌}
use Rattle.std.specs.Prelude.{Err}
use Rattle.definition.proofs.Basic.{passed_on}
use Rattle.bytecode.proofs.EachConstant.{over_again, stands_at, none_left}
use Rattle.chin.specs.Rows.{TurnsConst, TurnsPool}
use Rattle.chin.proofs.Pools.{PoolLoop, pool_ends, same_pool, pool_const, pool_within, pool_stops, pool_again}
use Rattle.chin.proofs.Lent.{keeps_on, const_in, const_there}
use Rattle.chin.proofs.row.Turning.turn_constants.Goals as goal

pub turn_constant-requires : goal.turn_constant-requires
turn_constant-requires c =
    let a = c.args in
    let s = a.self.now in
    let l = c.loop-at in
    let n = c.in-Some.ensures.steps in
    let z = stands_at l.invariant.over n in
    let p = subst (λ at. PoolLoop s.from s.image.now a.start a.end s.output.now at l.self.output.now) (sym n.here) l.invariant.so_far in
    let h = pool_const s.from s.image.now a.start a.end c.requires.is p z.before in
    record { constant = h.constant; is = const_in l.invariant.lent h.is }

pub returns-in_err-turn_constant-clause-turns : goal.returns-in_err-turn_constant-clause-turns
returns-in_err-turn_constant-clause-turns c =
    let a = c.args in
    let s = a.self.now in
    let b = s.image.now in
    let l = c.loop-at in
    let n = c.in-Some.ensures.steps in
    let z = stands_at l.invariant.over n in
    let p = subst (λ at. PoolLoop s.from b a.start a.end s.output.now at l.self.output.now) (sym n.here) l.invariant.so_far in
    let turn = c.turn_constant in
    let k = l.invariant.lent in
    let here = pool_const s.from b a.start a.end c.requires.is p z.before in
    let turns = const_there k (turn.ensures.turns here.constant (const_in k here.is)) in
    let stop = subst (λ r. TurnsConst s.from b c.in-Some.at here.constant l.self.output.now turn.new.self.output.now r) c.in_err-turn_constant.was turns in
    rw (passed_on c.from_residual.ensures.1)
    (λ cs is. subst (λ ds. TurnsPool s.from b a.start a.end ds s.output.now turn.new.self.output.now (Err c.in_err-turn_constant.field-0.0)) (same_pool c.requires.is is)
    (pool_stops s.from b a.start a.end c.requires.is p z.before stop))

pub loop-at-preserved : goal.loop-at-preserved
loop-at-preserved c =
    let a = c.args in
    let s = a.self.now in
    let b = s.image.now in
    let l = c.loop-at in
    let n = c.in-Some.ensures.steps in
    let z = stands_at l.invariant.over n in
    let p = subst (λ at. PoolLoop s.from b a.start a.end s.output.now at l.self.output.now) (sym n.here) l.invariant.so_far in
    let turn = c.turn_constant in
    let k = l.invariant.lent in
    let here = pool_const s.from b a.start a.end c.requires.is p z.before in
    let turns = const_there k (turn.ensures.turns here.constant (const_in k here.is)) in
    let fine = subst (λ r. TurnsConst s.from b c.in-Some.at here.constant l.self.output.now turn.new.self.output.now r) c.in_ok-turn_constant.was turns in
    record {
      over = over_again l.invariant.over n;
      so_far = subst (λ at. PoolLoop s.from b a.start a.end s.output.now at turn.new.self.output.now) (sym z.sized ∙ sym n.behind) (pool_again s.from b a.start a.end c.requires.is p z.before turn.ensures.lent.output fine);
      lent = keeps_on k turn.ensures.lent;
    }

pub returns : goal.returns
returns c =
    let a = c.args in
    let s = a.self.now in
    let b = s.image.now in
    let l = c.loop-at in
    let p = l.invariant.so_far in
    let e = none_left l.invariant.over c.in-None.ensures.steps (λ h. let w = pool_within s.from b a.start a.end c.requires.is p h in omega (arith, w.1, c.requires.is.within)) in
    record { turns = λ cs is. pool_ends s.from b a.start a.end is p e; lent = l.invariant.lent }
