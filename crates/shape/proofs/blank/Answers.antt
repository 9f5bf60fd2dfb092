-- `shape::blank` meets its contract: a field a turn, and zeros over its content where it is a literal.
use Rattle.std.proofs.Common.{arith, sym, ◌∙◌}
use Rattle.shape.proofs.Turns.{going_begins, going_before, going_whole, going_room, going_zeroed, going_past, going_ends}
use Rattle.shape.proofs.blank.Goals as goal

pub loop-at-init : goal.loop-at-init
loop-at-init c = going_begins c.into_iter-at-iterator.ensures.into_iter_gives c.new-at-items.ensures.tree c.new-at-items.ensures.at c.requires.0 _ c.requires.1

pub bounds-tree-at : goal.bounds-tree-at
bounds-tree-at c = going_before c.loop-at.invariant c.in-Some.ensures.steps

pub after_at-requires : goal.after_at-requires
after_at-requires c = going_whole c.loop-at.invariant c.in-Some.ensures.steps (sym c.is_literal.ensures ∙ c.if-is_literal.true)

pub clear-requires : goal.clear-requires
clear-requires c =
    let room = going_room c.loop-at.invariant c.in-Some.ensures.steps (sym c.is_literal.ensures ∙ c.if-is_literal.true) c.after_at.ensures.is in
    (omega (arith, room.0), room.1)

pub loop-at-preserved-then-is_literal : goal.loop-at-preserved-then-is_literal
loop-at-preserved-then-is_literal c = going_zeroed c.loop-at.invariant c.in-Some.ensures.steps (sym c.is_literal.ensures ∙ c.if-is_literal.true) _ c.after_at.ensures.is c.clear.ensures

pub loop-at-preserved : goal.loop-at-preserved
loop-at-preserved c = going_past c.loop-at.invariant c.in-Some.ensures.steps (sym c.is_literal.ensures ∙ c.if-is_literal.false)

pub returns : goal.returns
returns c = going_ends c.loop-at.invariant c.in-None.ensures.steps
