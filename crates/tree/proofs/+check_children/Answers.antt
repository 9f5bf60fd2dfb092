-- `check_children` calls itself with a level fewer. The loop's invariant says that what is left decides; its measure is what is left of the content.
use mathlib.Core.Path.{sym, ap, ◌∙◌}
use Rattle.definition.specs.Basic.{byte_at}
use Rattle.tree.proofs.Numbered.{ends_of, good_of, good_none}
use Rattle.tree.proofs.Steps.{left_none, left_missing, left_enough, left_bad, left_deep, left_found, left_leaf, left_children, denied, allowed}
use Rattle.tree.proofs.+check_children.Goals as goal
use Rattle.tree.proofs.+check_children.Goals.{else-at-end-via-then-at-end+else-t-eq-CALL, else-at-end-via-else-at-end, then-not-is_leaf+else-found-ne0, else-not-is_leaf}

pub returns-then-t-eq-CALL : goal.returns-then-t-eq-CALL
returns-then-t-eq-CALL t c = c.bad.ensures ∙ left_none _ _ _ _ c.if-t-eq-CALL.true c.if-at-end.true

pub returns-then-not-good_field : goal.returns-then-not-good_field
returns-then-not-good_field t c = c.bad-then-not-good_field.ensures ∙ left_bad _ c.loop-at.invariant c.loop-at-test.true (ap (λ x. good_of (byte_at c.args.tree.now) x c.loop-at.at c.args.end) c.in-Some.is ∙ sym c.good_field.ensures ∙ c.if-not-good_field.true)

pub returns-then-levels-eq0 : goal.returns-then-levels-eq0
returns-then-levels-eq0 t c = c.deep.ensures ∙ left_deep _ c.loop-at.invariant c.loop-at-test.true (ap (λ x. good_of (byte_at c.args.tree.now) x c.loop-at.at c.args.end) c.in-Some.is ∙ sym c.good_field.ensures ∙ c.if-not-good_field.false) c.if-levels-eq0.true

pub returns-then-found-ne0 : goal.returns-then-found-ne0
returns-then-found-ne0 t c =
    left_found _ c.loop-at.invariant c.loop-at-test.true (ap (λ x. good_of (byte_at c.args.tree.now) x c.loop-at.at c.args.end) c.in-Some.is ∙ sym c.good_field.ensures ∙ c.if-not-good_field.false) c.if-levels-eq0.false (sym c.is_leaf.ensures ∙ c.if-not-is_leaf.true) (rw c.after_at-next.ensures.is at c.check_children-found.ensures) c.if-found-ne0.true

pub loop-at-preserved : goal.loop-at-preserved
loop-at-preserved t c =
    let l = c.loop-at.invariant in
    let good = ap (λ x. good_of (byte_at c.args.tree.now) x c.loop-at.at c.args.end) c.in-Some.is ∙ sym c.good_field.ensures ∙ c.if-not-good_field.false in
    rw c.after_at-next.ensures.is
    (elim c.if-not-is_leaf.branch [
      | then-not-is_leaf+else-found-ne0 w ↦ left_children _ l c.loop-at-test.true good c.if-levels-eq0.false (sym c.is_leaf.ensures ∙ w.if-not-is_leaf.true) (rw (w.if-found-ne0.false, c.after_at-next.ensures.is) at w.check_children-found.ensures)
      | else-not-is_leaf w ↦ left_leaf _ l c.loop-at-test.true good c.if-levels-eq0.false (sym c.is_leaf.ensures ∙ w.if-not-is_leaf.false)
    ])

pub returns-in_default : goal.returns-in_default
returns-in_default t c = c.bad-in_default.ensures ∙ left_bad _ c.loop-at.invariant c.loop-at-test.true (good_none (byte_at c.args.tree.now) c.loop-at.at c.args.end c.in_default.is)

pub returns-in-Some-next : goal.returns-in-Some-next
returns-in-Some-next t c = c.bad-in-Some-next.ensures ∙ left_missing _ c.loop-at.invariant c.loop-at-test.false (ap ends_of c.in-Some-next.is ∙ denied c.if-not-wanted.true)

pub returns-in_default-next : goal.returns-in_default-next
returns-in_default-next t c = left_enough _ c.loop-at.invariant c.loop-at-test.false (ap ends_of c.in-Some-next.is ∙ allowed c.if-not-wanted.false)

pub returns-in_default-next-2 : goal.returns-in_default-next-2
returns-in_default-next-2 t c = left_enough _ c.loop-at.invariant c.loop-at-test.false (ap ends_of c.in_default-next.is)
