-- The cycle of calls that writes a script: each function meets its contract, with calls below its measure.
use Rattle.text.proofs.Ahead.{item_on, item-ahead, expression-on, operator-ahead, group_ahead, statement-ahead}
use Rattle.text.proofs.Climbing.{climb_begins, climb_closes, climb_ended, climb_goes}
use Rattle.text.proofs.Contents.{sees_on}
use Rattle.text.proofs.KindTests.{closed_one, tight_most}
use Rattle.text.proofs.Looping.{statements_on, statements_end, list_on, list_end}
use Rattle.text.proofs.Operands.{continued_deep, continued_writes, operand-ended, operand_leaf, operand_deeper, inside_list, inside-operator}
use Rattle.text.proofs.RowAt.{sees_ahead}
use Rattle.text.proofs.Values.{let_writes, clause_return, clause_expression}
use Rattle.text.proofs.Writing.{deep_node, block_writes, one_writes, if_writes, function_writes, else_none, else_block}
use Rattle.text.specs.Shape.{separating}
use mathlib.Core.Path.{sym, ap, ◌∙◌}
use Rattle.text.specs.Kind.{number_of}
use Rattle.text.specs.declared.kind.Kind.TheVariants.{Let, Return, If, Fn, Else, Ended}
use Rattle.text.proofs.Numbers.{apart}
use native.Mathlib.Omega.{arith}
use Rattle.text.proofs.write.+write.Goals as goal

pub write_block-returns-then-left-eq0 : goal.write_block-returns-then-left-eq0
write_block-returns-then-left-eq0 t c =
    deep_node _ _ _ c.requires.within c.if-left-eq0.true c.deep.ensures

pub write_block-returns : goal.write_block-returns
write_block-returns t c =
    let k = c.if-left-eq0.false in
    block_writes (omega arith) c.token_at-token.ensures c.write_statements-inside.ensures c.token_at-token2.ensures c.moved_on.ensures c.close.ensures.part c.close.ensures.stored (sees_on c.token_at-token.ensures) (sees_on c.token_at-token2.ensures)

pub write_clause-returns-in-Return : goal.write_clause-returns-in-Return
write_clause-returns-in-Return t c =
    let p = c.requires in
    let facts = clause_return p.1 (p.1.onward p.2) (ap number_of c.in-Return.is) c.write_expression.ensures.writes in
    record { writes = facts.0; spares = facts.1 }

pub write_clause-returns-in_default : goal.write_clause-returns-in_default
write_clause-returns-in_default t c =
    let p = c.requires in
    record {
      writes = clause_expression p.1 (apart _ Let c.in_default.not-Let) (apart _ Return c.in_default.not-Return) c.write_expression-in_default.ensures.writes;
      spares = c.write_expression-in_default.ensures.spares;
    }

pub write_continued-returns-then-left-before : goal.write_continued-returns-then-left-before
write_continued-returns-then-left-before t c =
    continued_deep c.requires.ready.0.within c.if-left-before.true c.deep.ensures

pub write_continued-write_inside-rest-requires : goal.write_continued-write_inside-rest-requires
write_continued-write_inside-rest-requires t c =
    let p = c.requires.ready in
    (omega (arith, p.2), (record { within = p.2; room = omega (arith, p.0.room, p.1); small = omega arith; few = omega (arith, p.0.few) }, rw c.tightness.ensures (tight_most (number_of c.args.token.kind))))

pub write_continued-returns : goal.write_continued-returns
write_continued-returns t c =
    let p = c.requires.ready in
    let g = c.continued_tag.ensures in
    let k = c.if-left-before.false in
    continued_writes (omega arith) (omega arith) p.1 p.3 c.make_room.ensures (rw c.tightness.ensures at c.write_inside-rest.ensures) c.joined.ensures (rw g at c.close.ensures.part) (rw g at c.close.ensures.stored)

pub write_else-returns-in_default : goal.write_else-returns-in_default
write_else-returns-in_default t c =
    else_none c.token_at-token.ensures (apart _ Else c.in_default.not-Else) c.requires.within c.empty.ensures

pub write_else-returns-in-Else : goal.write_else-returns-in-Else
write_else-returns-in-Else t c =
    else_block c.token_at-token.ensures (ap number_of c.in-Else.is) (sees_on c.token_at-token.ensures) c.write_block.ensures

pub write_expression-returns-then-left-eq0 : goal.write_expression-returns-then-left-eq0
write_expression-returns-then-left-eq0 t c =
    let r = c.requires.ready in
    record {
      writes = deep_node _ _ _ r.within c.if-left-eq0.true c.deep.ensures;
      spares = λ h. omega (arith, ap (λ p. p.at) c.deep.ensures, ap (λ p. p.to) c.deep.ensures);
    }

pub write_expression-loop-opened-init : goal.write_expression-loop-opened-init
write_expression-loop-opened-init t c =
    climb_begins c.skip_groups-first.ensures c.write_operand-so_far.ensures.writes c.write_operand-so_far.ensures.spares

pub write_expression-overflow_sub-opened : goal.write_expression-overflow_sub-opened
write_expression-overflow_sub-opened t c =
    omega (arith, closed_one _ _ (sym c.closes_group.ensures ∙ c.if-closes_group.true))

pub write_expression-loop-opened-smaller-then-closes_group : goal.write_expression-loop-opened-smaller-then-closes_group
write_expression-loop-opened-smaller-then-closes_group t c =
    let s = c.token_at-token.ensures in
    omega (arith, ap (λ p. p.at) c.moved_on-so_far.ensures, s.within, group_ahead _ s c.loop-opened.invariant.bounds.within (sym c.closes_group.ensures ∙ c.if-closes_group.true))

pub write_expression-loop-opened-preserved-then-closes_group : goal.write_expression-loop-opened-preserved-then-closes_group
write_expression-loop-opened-preserved-then-closes_group t c =
    climb_closes c.loop-opened.invariant c.token_at-token.ensures (sees_on c.token_at-token.ensures) (sym c.closes_group.ensures ∙ c.if-closes_group.true) c.moved_on-so_far.ensures

pub write_expression-returns-then-ends_at : goal.write_expression-returns-then-ends_at
write_expression-returns-then-ends_at t c =
    record {
      writes = climb_ended c.loop-opened.invariant c.token_at-token.ensures (sym c.closes_group.ensures ∙ c.if-closes_group.false) (sym c.ends_at.ensures ∙ c.if-ends_at.true);
      spares = c.loop-opened.invariant.spares;
    }

pub write_expression-write_continued-so_far-requires : goal.write_expression-write_continued-so_far-requires
write_expression-write_continued-so_far-requires t c =
    let s = c.token_at-token.ensures in
    let r = c.requires.ready in
    let b = c.loop-opened.invariant.bounds in
    let e = operator-ahead _ _ s b.within (sym c.ends_at.ensures ∙ c.if-ends_at.false) in
    (omega (arith, b.onward, e, s.within), ((record { within = b.within; room = omega (arith, r.room, b.room); small = omega arith; few = r.few }, e, s.within, b.behind), b.depth))

pub write_expression-loop-opened-smaller : goal.write_expression-loop-opened-smaller
write_expression-loop-opened-smaller t c =
    let s = c.token_at-token.ensures in
    let b = c.loop-opened.invariant.bounds in
    let w = c.write_continued-so_far.ensures.bounds in
    omega (arith, w.within, operator-ahead _ _ s b.within (sym c.ends_at.ensures ∙ c.if-ends_at.false), c.write_continued-so_far.ensures.ahead s.within)

pub write_expression-loop-opened-preserved : goal.write_expression-loop-opened-preserved
write_expression-loop-opened-preserved t c =
    climb_goes c.loop-opened.invariant c.token_at-token.ensures (sym c.closes_group.ensures ∙ c.if-closes_group.false) (sym c.ends_at.ensures ∙ c.if-ends_at.false) c.write_continued-so_far.ensures

pub write_function-write_block-block-requires : goal.write_function-write_block-block-requires
write_function-write_block-block-requires t c =
    let r = c.requires in
    let n = c.put_empty_name-name.ensures.part in
    let b = (c.put_parameters-names.ensures 0).bounds in
    (omega (arith, ap (λ p. p.at) n, b.onward, b.within), record { within = b.within; room = omega (arith, r.room, b.room, ap (λ p. p.at) n, ap (λ p. p.to) n); small = omega arith; few = r.few })

pub write_function-returns : goal.write_function-returns
write_function-returns t c =
    function_writes c.requires.within c.put_empty_name-name.ensures.part c.put_empty_name-name.ensures.stored c.put_parameters-names.ensures c.write_block-block.ensures c.joined.ensures c.joined-2.ensures

pub write_if-returns : goal.write_if-returns
write_if-returns t c =
    if_writes c.token_at-token.ensures c.write_expression-condition.ensures.writes c.token_at-token2.ensures c.write_block-branch.ensures c.write_else-other.ensures c.joined.ensures c.joined-2.ensures (sees_on c.token_at-token.ensures) (sees_on c.token_at-token2.ensures)

pub write_inside-returns-in_default : goal.write_inside-returns-in_default
write_inside-returns-in_default t c =
    inside_list (apart _ If c.in_default.not-If) (apart _ Fn c.in_default.not-Fn) (sym c.begins_list.ensures ∙ c.if-begins_list.true) c.write_list.ensures

pub write_inside-returns-in_default-2 : goal.write_inside-returns-in_default-2
write_inside-returns-in_default-2 t c =
    inside-operator (apart _ If c.in_default.not-If) (apart _ Fn c.in_default.not-Fn) (sym c.begins_list.ensures ∙ c.if-begins_list.false) c.requires.ready.within c.put_operator-first.ensures.part (rw c.operator.ensures at c.put_operator-first.ensures.stored) c.write_expression-operand.ensures.writes c.joined.ensures

pub write_let-returns : goal.write_let-returns
write_let-returns t c =
    let_writes c.token_at-name.ensures c.put_field-first.ensures c.token_at-token.ensures (sees_on c.token_at-token.ensures) (sees_on c.token_at-name.ensures) c.write_expression-value.ensures.writes c.named.ensures c.joined.ensures

pub write_list-returns-then-closes_list : goal.write_list-returns-then-closes_list
write_list-returns-then-closes_list t c =
    list_end c.loop-from.invariant c.token_at-token.ensures (sees_on c.token_at-token.ensures) (sym c.closes_list.ensures ∙ c.if-closes_list.true) c.moved_on.ensures

pub write_list-loop-from-smaller : goal.write_list-loop-from-smaller
write_list-loop-from-smaller t c =
    let s = c.token_at-token.ensures in
    let b = c.loop-from.invariant.bounds in
    let w = c.write_expression-item.ensures in
    let i = item_on (separating (number_of c.token_at-token.result.kind)) (sees_on s) c.item_start-at.ensures in
    let e = item-ahead s b.within (sym c.closes_list.ensures ∙ c.if-closes_list.false) in
    omega (arith, ap (λ p. p.at) c.joined-so_far.ensures, i.0, w.writes.bounds.within, expression-on w.writes.bounds w.spares i e s.within)

pub write_list-loop-from-preserved : goal.write_list-loop-from-preserved
write_list-loop-from-preserved t c =
    list_on c.loop-from.invariant c.token_at-token.ensures (sees_on c.token_at-token.ensures) (sym c.closes_list.ensures ∙ c.if-closes_list.false) c.item_start-at.ensures c.write_expression-item.ensures.writes c.joined-so_far.ensures

pub write_one-returns-then-left-eq0 : goal.write_one-returns-then-left-eq0
write_one-returns-then-left-eq0 t c =
    record {
      writes = deep_node _ _ _ c.requires.0.within c.if-left-eq0.true c.deep.ensures;
      onward = omega (arith, ap (λ p. p.at) c.deep.ensures, c.requires.2);
    }

pub write_one-returns : goal.write_one-returns
write_one-returns t c =
    let k = c.if-left-eq0.false in
    let g = c.statement_tag.ensures in
    let w = c.write_clause-inside.ensures in
    record {
      writes = one_writes (omega arith) c.requires.1 c.requires.2 c.write_clause-inside.ensures.writes c.write_clause-inside.ensures.spares (rw g at c.close-whole.ensures.part) (rw g at c.close-whole.ensures.stored) c.past_semicolon.ensures;
      onward = omega (arith, c.past_semicolon.ensures.onward, ap (λ p. p.at) c.close-whole.ensures.part, w.writes.bounds.behind, w.spares c.requires.2);
    }

pub write_operand-returns-in-Ended : goal.write_operand-returns-in-Ended
write_operand-returns-in-Ended t c =
    let facts = operand-ended c.token_at-token.ensures (ap number_of c.in-Ended.is) c.empty.ensures in
    record { writes = facts.0; spares = facts.1 }

pub write_operand-returns-in_default : goal.write_operand-returns-in_default
write_operand-returns-in_default t c =
    let s = c.token_at-token.ensures in
    let facts = operand_leaf s (sees_ahead s c.requires.0.within (apart _ Ended c.in_default.not-Ended)) (sym c.is_leaf.ensures ∙ c.if-is_leaf.true) (rw c.operand_tag.ensures at c.put_field.ensures) in
    record { writes = facts.0; spares = facts.1 }

pub write_operand-write_inside-inside-requires : goal.write_operand-write_inside-inside-requires
write_operand-write_inside-inside-requires t c =
    let s = c.token_at-token.ensures in
    let r = c.requires.0 in
    let e = sees_ahead s r.within (apart _ Ended c.in_default.not-Ended) in
    (omega (arith, e, s.within), (record { within = s.within; room = omega (arith, r.room, e); small = omega arith; few = omega (arith, r.few) }, omega arith))

pub write_operand-returns-in_default-2 : goal.write_operand-returns-in_default-2
write_operand-returns-in_default-2 t c =
    let s = c.token_at-token.ensures in
    let g = c.operand_tag-in_default-2.ensures in
    let k = c.requires.1 in
    let facts = operand_deeper (omega arith) s (sees_ahead s c.requires.0.within (apart _ Ended c.in_default.not-Ended)) (sym c.is_leaf.ensures ∙ c.if-is_leaf.false) c.write_inside-inside.ensures (rw g at c.close.ensures.part) (rw g at c.close.ensures.stored) in
    record { writes = facts.0; spares = facts.1 }

pub write_statements-returns-then-ends_statements : goal.write_statements-returns-then-ends_statements
write_statements-returns-then-ends_statements t c =
    statements_end c.loop-from.invariant c.token_at-token.ensures (sym c.ends_statements.ensures ∙ c.if-ends_statements.true)

pub write_statements-write_one-next-requires : goal.write_statements-write_one-next-requires
write_statements-write_one-next-requires t c =
    let s = c.token_at-token.ensures in
    let r = c.requires in
    let b = c.loop-from.invariant.bounds in
    (omega (arith, b.onward, b.within), (record { within = b.within; room = omega (arith, r.room, b.room); small = omega arith; few = r.few }, s, statement-ahead s b.within (sym c.ends_statements.ensures ∙ c.if-ends_statements.false)))

pub write_statements-loop-from-preserved : goal.write_statements-loop-from-preserved
write_statements-loop-from-preserved t c =
    statements_on c.loop-from.invariant c.token_at-token.ensures (sym c.ends_statements.ensures ∙ c.if-ends_statements.false) c.write_one-next.ensures.writes c.joined-so_far.ensures
