-- The loop's invariant: what is left of the two names decides.
use mathlib.Core.Path.{sym, ◌∙◌}
use native.Mathlib.Omega.{arith}
use Rattle.field.proofs.Same.{same_lengths, same_step, same_differ, same_none}
use Rattle.field.proofs.names.same_name.Goals as goal

pub returns-then-x-y : goal.returns-then-x-y
returns-then-x-y c = sym (same_lengths _ _ c.if-x-y.true)

pub returns-then-b-y : goal.returns-then-b-y
returns-then-b-y c =
    let a = c.args in
    let i = c.loop-i.i in
    sym (c.loop-i.invariant ∙ same_differ a.x.now a.y.now i (omega arith) (omega arith) c.if-b-y.true)

pub loop-i-preserved : goal.loop-i-preserved
loop-i-preserved c =
    let a = c.args in
    let i = c.loop-i.i in
    c.loop-i.invariant ∙ same_step a.x.now a.y.now i (omega arith) (omega arith) c.if-b-y.false

pub returns : goal.returns
returns c =
    let a = c.args in
    sym (c.loop-i.invariant ∙ same_none a.x.now a.y.now c.loop-i.i (omega arith) (omega arith))
