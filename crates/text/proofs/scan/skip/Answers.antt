-- `skip` meets its contract. What is left of the run decides.
use mathlib.Core.Path.{sym, ◌∙◌}
use Rattle.text.proofs.Skips.{skip_step, skip_stop, skip_over}
use Rattle.text.proofs.scan.skip.Goals as goal

pub returns-then-not-belongs : goal.returns-then-not-belongs
returns-then-not-belongs c =
    let loop = c.loop-at in
    sym (loop.invariant ∙ skip_stop _ _ _ _ _ c.loop-at-test.true (sym c.belongs.ensures ∙ c.if-not-belongs.true))

pub loop-at-preserved : goal.loop-at-preserved
loop-at-preserved c =
    let loop = c.loop-at in
    loop.invariant ∙ skip_step _ _ _ _ _ c.loop-at-test.true (sym c.belongs.ensures ∙ c.if-not-belongs.false)

pub returns : goal.returns
returns c = c.max.ensures ∙ skip_over _ _ _ _ _ c.loop-at.at c.loop-at-test.false c.loop-at.auto.at-end c.loop-at.invariant
