-- The goals of the cycle, function by function.
use Prim.Native.Nat.{◌+◌}
use Rattle.definition.specs.Tag.{tag_prefix, tag_infix, tag_if, tag_function, tag_call, tag_array, tag_index, tag_hash, tag_expr_stmt, tag_block, tag_let, tag_return}
use Rattle.definition.proofs.Basic.{passed_on}
use Rattle.walk.specs.Parts.{walk_branches}
use Rattle.tree.proofs.Children.{call_args, expr_here, list_items, macro-tag, function_params, let_value, stmt_here, return-tag, value_expr, block_body}
use Rattle.tree.proofs.Inside.{inside_at, let_inside, value-inside}
use Rattle.tree.proofs.Rows.{exprs_in_row, names_in_row, stmts_to, exprs_to}
use Rattle.walk.proofs.Calls.{many_walks, few_walks, call_walks, array_walks, hash_walks, list_walks}
use Rattle.walk.proofs.Expressions.{expr_walks, identifier_walks, integer_walks, string_walks, boolean_byte, boolean_walks, macro_walks, index_walks, less_walks, infix_walks, prefix_walks}
use Rattle.walk.proofs.Function.{inside_walked, leaves_stays, function_walks}
use Rattle.walk.proofs.If.{branch_walks, branches_walks, behind_walks, behind_refused, else_walks, null_walks, if_walks, other_walks}
use Rattle.walk.proofs.Sequence.{done_refuses, walk_stays, jump_walk, jump_refused, jumped_fine}
use Rattle.step.proofs.Memory.{done_stays}
use Rattle.walk.proofs.Statements.{let_walks, let_refused, stmt_walks, expr_stmt_walks, block_walks, return_walks}
use Rattle.walk.proofs.Turns.{stmts_first, stmts_fit, exprs_first, exprs_fit}
use Rattle.walk.proofs.Compiled.{loop_holds, turn_at, stmt_turn, expr_turn, stmt_refused, expr_refused, stmts_walked, exprs_walked}
use Rattle.field.proofs.EachField.{begins_there, can_begin, is_before}
use borrow.Author.Rules.{rules}
use mathlib.Core.Path.{refl, sym, subst, ◌∙◌}
use Rattle.std.specs.Prelude.{Ok}
use Rattle.definition.specs.Walk.{walk_expr}
use Rattle.scope.specs.Machine.{machine}
use Rattle.tree.specs.Reads.{ReadsExpr}
use Rattle.walk.specs.Compiles.{Compiles}
use native.Mathlib.Omega.{arith}
use Rattle.walk.proofs.Compiler.+walk.Goals.{walk_if-then-at-end+in_ok-walk_branch-2, walk_if-else-at-end+in_ok-emit, walk_infix-then-o-eq-LESS_THAN+in_ok-walk_expression+in_ok-walk_expression-2, walk_infix-else-o-eq-LESS_THAN+in_ok-walk_expression-3+in_ok-walk_expression-4}
use Rattle.walk.proofs.Compiler.+walk.Goals as goal

pub walk_block-loop-at-init-derived : goal.walk_block-loop-at-init-derived
walk_block-loop-at-init-derived t c = (can_begin c.into_iter-at-iterator.ensures.into_iter_gives (begins_there c.args.fields) (stmts_to c.requires.some), tt)

pub walk_block-loop-at-init : goal.walk_block-loop-at-init
walk_block-loop-at-init t c = loop_holds c.into_iter-at-iterator.ensures.into_iter_gives (begins_there c.args.fields) c.requires.some c.requires.standing

pub walk_block-walk_statement-requires : goal.walk_block-walk_statement-requires
walk_block-walk_statement-requires t c =
    let n = c.in-Some.ensures.steps in
    let l = c.loop-at.invariant in
    let turn = turn_at l n in
    let before = is_before l.over n in
    (omega (arith, stmts_fit before turn.left, turn.onward), (stmts_first before turn.left, record { fine = turn.fine; short = c.requires.standing.short }))

pub walk_block-loop-at-preserved : goal.walk_block-loop-at-preserved
walk_block-loop-at-preserved t c =
    stmt_turn c.in-Some.ensures.steps c.loop-at.invariant c.in_ok-walk_statement.ensures

pub walk_block-returns-in_err-walk_statement : goal.walk_block-returns-in_err-walk_statement
walk_block-returns-in_err-walk_statement t c =
    rw (passed_on c.from_residual.ensures.1) (stmt_refused c.in-Some.ensures.steps c.loop-at.invariant c.in_err-walk_statement.ensures)

pub walk_block-returns : goal.walk_block-returns
walk_block-returns t c =
    stmts_walked c.in-None.ensures.steps c.loop-at.invariant

pub walk_expressions-loop-at-init-derived : goal.walk_expressions-loop-at-init-derived
walk_expressions-loop-at-init-derived t c = (can_begin c.into_iter-at-iterator.ensures.into_iter_gives (begins_there c.args.fields) (exprs_to c.requires.some), tt)

pub walk_expressions-loop-at-init : goal.walk_expressions-loop-at-init
walk_expressions-loop-at-init t c = loop_holds c.into_iter-at-iterator.ensures.into_iter_gives (begins_there c.args.fields) c.requires.some c.requires.standing

pub walk_expressions-walk_expression-requires : goal.walk_expressions-walk_expression-requires
walk_expressions-walk_expression-requires t c =
    let n = c.in-Some.ensures.steps in
    let l = c.loop-at.invariant in
    let turn = turn_at l n in
    let before = is_before l.over n in
    (omega (arith, exprs_fit before turn.left, turn.onward), (exprs_first before turn.left, record { fine = turn.fine; short = c.requires.standing.short }))

pub walk_expressions-loop-at-preserved : goal.walk_expressions-loop-at-preserved
walk_expressions-loop-at-preserved t c =
    expr_turn c.in-Some.ensures.steps c.loop-at.invariant c.in_ok-walk_expression.ensures

pub walk_expressions-returns-in_err-walk_expression : goal.walk_expressions-returns-in_err-walk_expression
walk_expressions-returns-in_err-walk_expression t c =
    rw (passed_on c.from_residual.ensures.1) (expr_refused c.in-Some.ensures.steps c.loop-at.invariant c.in_err-walk_expression.ensures)

pub walk_expressions-returns : goal.walk_expressions-returns
walk_expressions-returns t c =
    exprs_walked c.in-None.ensures.steps c.loop-at.invariant

pub walk_branch-returns-in_err-walk_block : goal.walk_branch-returns-in_err-walk_block
walk_branch-returns-in_err-walk_block t c =
    let d = rw (c.children.ensures.bytes, c.children.ensures.at, c.children.ensures.end) at c.in_err-walk_block.ensures in
    rw (passed_on c.from_residual.ensures.1) (record { walks = branch_walks c.args.place refl d.walks (done_stays d.walks.ready); same = d.same })

pub walk_branch-returns : goal.walk_branch-returns
walk_branch-returns t c =
    let d = rw (c.children.ensures.bytes, c.children.ensures.at, c.children.ensures.end) at c.in_ok-walk_block.ensures in
    let e = c.drop_pop.ensures in
    record { walks = branch_walks c.args.place refl d.walks e.done; same = rw e.same d.same }

pub walk_call-count_fields-n-requires : goal.walk_call-count_fields-n-requires
walk_call-count_fields-n-requires t c =
    exprs_in_row (call_args (rw (c.first-callee.ensures.bytes, c.first-callee.ensures.at) at c.after.ensures.is) c.after-2.ensures.is c.requires.some)

pub walk_call-returns-in_err-walk_expression : goal.walk_call-returns-in_err-walk_expression
walk_call-returns-in_err-walk_expression t c =
    let d = rw (c.first-callee.ensures.bytes, c.first-callee.ensures.at) at c.in_err-walk_expression.ensures in
    rw (passed_on c.from_residual.ensures.1) (record { walks = call_walks (rw (c.first-callee.ensures.bytes, c.first-callee.ensures.at) at c.after.ensures.is) c.after-2.ensures.is d.walks (walk_stays d.walks.ready); same = d.same })

pub walk_call-returns-then-n-gt-ARGUMENTS_LIMIT : goal.walk_call-returns-then-n-gt-ARGUMENTS_LIMIT
walk_call-returns-then-n-gt-ARGUMENTS_LIMIT t c =
    let d = rw (c.first-callee.ensures.bytes, c.first-callee.ensures.at) at c.in_ok-walk_expression.ensures in
    record {
      walks = call_walks (rw (c.first-callee.ensures.bytes, c.first-callee.ensures.at) at c.after.ensures.is) c.after-2.ensures.is d.walks (many_walks c.args.field.at c.count_fields-n.ensures c.if-n-gt-ARGUMENTS_LIMIT.true d.walks.fine (done_refuses d.walks.ready.area c.refused.ensures));
      same = d.same;
    }

pub walk_call-returns-in_err-walk_expressions : goal.walk_call-returns-in_err-walk_expressions
walk_call-returns-in_err-walk_expressions t c =
    let d = rw (c.first-callee.ensures.bytes, c.first-callee.ensures.at) at c.in_ok-walk_expression.ensures in
    let e = c.in_err-walk_expressions.ensures in
    rw (passed_on c.from_residual-in_err-walk_expressions.ensures.1) (record {
      walks = call_walks (rw (c.first-callee.ensures.bytes, c.first-callee.ensures.at) at c.after.ensures.is) c.after-2.ensures.is d.walks (few_walks c.args.field.at c.count_fields-n.ensures c.if-n-gt-ARGUMENTS_LIMIT.false e.walks (done_stays e.walks.ready));
      same = e.same ∙ d.same;
    })

pub walk_call-returns : goal.walk_call-returns
walk_call-returns t c =
    let d = rw (c.first-callee.ensures.bytes, c.first-callee.ensures.at) at c.in_ok-walk_expression.ensures in
    let e = c.in_ok-walk_expressions.ensures in
    let f = c.emit_operand.ensures in
    record {
      walks = call_walks (rw (c.first-callee.ensures.bytes, c.first-callee.ensures.at) at c.after.ensures.is) c.after-2.ensures.is d.walks (few_walks c.args.field.at c.count_fields-n.ensures c.if-n-gt-ARGUMENTS_LIMIT.false e.walks f.done);
      same = rw f.same (e.same ∙ d.same);
    }

pub walk_expression-walk_prefix-requires : goal.walk_expression-walk_prefix-requires
walk_expression-walk_prefix-requires t c =
    (search rules, (expr_here tag_prefix c.in-33.is c.requires.some, search rules))

pub walk_expression-returns-in-33 : goal.walk_expression-returns-in-33
walk_expression-returns-in-33 t c =
    record { walks = expr_walks tag_prefix c.in-33.is c.walk_prefix.ensures.walks; same = c.walk_prefix.ensures.same }

pub walk_expression-walk_infix-requires : goal.walk_expression-walk_infix-requires
walk_expression-walk_infix-requires t c =
    (search rules, (expr_here tag_infix c.in-34.is c.requires.some, search rules))

pub walk_expression-returns-in-34 : goal.walk_expression-returns-in-34
walk_expression-returns-in-34 t c =
    record { walks = expr_walks tag_infix c.in-34.is c.walk_infix.ensures.walks; same = c.walk_infix.ensures.same }

pub walk_expression-walk_if-requires : goal.walk_expression-walk_if-requires
walk_expression-walk_if-requires t c =
    (search rules, (expr_here tag_if c.in-35.is c.requires.some, search rules))

pub walk_expression-returns-in-35 : goal.walk_expression-returns-in-35
walk_expression-returns-in-35 t c =
    record { walks = expr_walks tag_if c.in-35.is c.walk_if.ensures.walks; same = c.walk_if.ensures.same }

pub walk_expression-walk_function-requires : goal.walk_expression-walk_function-requires
walk_expression-walk_function-requires t c =
    (search rules, (expr_here tag_function c.in-36.is c.requires.some, search rules))

pub walk_expression-returns-in-36 : goal.walk_expression-returns-in-36
walk_expression-returns-in-36 t c =
    record { walks = expr_walks tag_function c.in-36.is c.walk_function.ensures.walks; same = c.walk_function.ensures.same }

pub walk_expression-walk_call-requires : goal.walk_expression-walk_call-requires
walk_expression-walk_call-requires t c =
    (search rules, (expr_here tag_call c.in-37.is c.requires.some, search rules))

pub walk_expression-returns-in-37 : goal.walk_expression-returns-in-37
walk_expression-returns-in-37 t c =
    record { walks = expr_walks tag_call c.in-37.is c.walk_call.ensures.walks; same = c.walk_call.ensures.same }

pub walk_expression-walk_index-requires : goal.walk_expression-walk_index-requires
walk_expression-walk_index-requires t c =
    (search rules, (expr_here tag_index c.in-42.is c.requires.some, search rules))

pub walk_expression-returns-in-42 : goal.walk_expression-returns-in-42
walk_expression-returns-in-42 t c =
    record { walks = expr_walks tag_index c.in-42.is c.walk_index.ensures.walks; same = c.walk_index.ensures.same }

pub walk_expression-walk_list-requires : goal.walk_expression-walk_list-requires
walk_expression-walk_list-requires t c =
    (search rules, (list_items refl (expr_here tag_array c.in-41.is c.requires.some), search rules))

pub walk_expression-returns-in-41 : goal.walk_expression-returns-in-41
walk_expression-returns-in-41 t c =
    record { walks = array_walks c.in-41.is c.walk_list.ensures.walks; same = c.walk_list.ensures.same }

pub walk_expression-walk_list-requires-in-43 : goal.walk_expression-walk_list-requires-in-43
walk_expression-walk_list-requires-in-43 t c =
    (search rules, (list_items refl (expr_here tag_hash c.in-43.is c.requires.some), search rules))

pub walk_expression-returns-in-43 : goal.walk_expression-returns-in-43
walk_expression-returns-in-43 t c =
    record { walks = hash_walks c.in-43.is c.walk_list-in-43.ensures.walks; same = c.walk_list-in-43.ensures.same }

pub walk_expression-bounds-field-field-in-39 : goal.walk_expression-bounds-field-field-in-39
walk_expression-bounds-field-field-in-39 t c =
    boolean_byte c.in-39.is c.requires.some

pub walk_expression-returns-in-32 : goal.walk_expression-returns-in-32
walk_expression-returns-in-32 t c =
    record { walks = identifier_walks c.in-32.is c.load.ensures.steps; same = rw c.load.ensures.same refl }

pub walk_expression-returns-in-38 : goal.walk_expression-returns-in-38
walk_expression-returns-in-38 t c =
    let d = c.literal.ensures in
    record { walks = integer_walks c.in-38.is (d.beside.steps _ c.requires.standing.fine); same = rw d.same refl }

pub walk_expression-returns-in-40 : goal.walk_expression-returns-in-40
walk_expression-returns-in-40 t c =
    let d = c.literal-in-40.ensures in
    record { walks = string_walks c.in-40.is (d.beside.steps _ c.requires.standing.fine); same = rw d.same refl }

pub walk_expression-returns-in-39 : goal.walk_expression-returns-in-39
walk_expression-returns-in-39 t c =
    let d = c.boolean.ensures in
    record { walks = boolean_walks c.in-39.is c.requires.standing.fine d.done; same = rw d.same refl }

pub walk_expression-returns-in_default : goal.walk_expression-returns-in_default
walk_expression-returns-in_default t c =
    let no = c.in_default.in_default-own.rest in
    record { walks = macro_walks (macro-tag no.0.0.0.0.0.0.0.0.0.0.0.1 no.0.0.0.0.0.0.0.0.0.0.1 no.0.0.0.0.0.0.0.0.0.1 no.0.0.0.0.0.0.0.0.1 no.0.0.0.0.0.0.0.1 no.0.0.0.0.0.0.1 no.0.0.0.0.0.1 no.0.0.0.0.1 no.0.0.0.1 no.0.0.1 no.0.1 no.1 c.requires.some) c.requires.standing.fine (done_refuses c.args.self.now.scope.now.area c.refused.ensures); same = refl }

pub walk_function-count_fields-n-requires : goal.walk_function-count_fields-n-requires
walk_function-count_fields-n-requires t c =
    rw (c.children.ensures.bytes, c.children.ensures.at, c.children.ensures.end, c.next-params.ensures.bytes, c.first.ensures.bytes) (names_in_row (function_params (rw (c.first.ensures.bytes, c.first.ensures.at) at c.next-params.ensures.at) refl c.requires.some))

pub walk_function-returns-in_err-enter : goal.walk_function-returns-in_err-enter
walk_function-returns-in_err-enter t c =
    let i = c.in_err-enter.ensures in
    let e = i.enters _ c.requires.standing.fine in
    let k = rw (c.children.ensures.bytes, c.children.ensures.at, c.children.ensures.end, c.next-params.ensures.bytes, c.first.ensures.bytes) at c.count_fields-n.ensures in
    rw (passed_on c.from_residual.ensures.1) (record { walks = rw i.code (function_walks (rw (c.first.ensures.bytes, c.first.ensures.at) at c.next-params.ensures.at) refl refl k e (walk_stays e.ready) (leaves_stays e.ready)); same = rw i.same refl })

pub walk_function-returns-in_err-walk_block : goal.walk_function-returns-in_err-walk_block
walk_function-returns-in_err-walk_block t c =
    let i = c.in_ok-enter.ensures in
    let k = rw (c.children.ensures.bytes, c.children.ensures.at, c.children.ensures.end, c.next-params.ensures.bytes, c.first.ensures.bytes) at c.count_fields-n.ensures in
    let d = rw (c.children-2.ensures.bytes, c.children-2.ensures.at, c.children-2.ensures.end, c.next-body.ensures.bytes, c.next-body.ensures.at, c.next-params.ensures.bytes, c.first.ensures.bytes) at c.in_err-walk_block.ensures in
    rw (passed_on c.from_residual-in_err-walk_block.ensures.1) (record { walks = function_walks (rw (c.first.ensures.bytes, c.first.ensures.at) at c.next-params.ensures.at) refl refl k (i.enters _ c.requires.standing.fine) (rw (← i.code) d.walks) (leaves_stays d.walks.ready); same = rw (← i.same) d.same })

pub walk_function-leave-requires-clause-deeper : goal.walk_function-leave-requires-clause-deeper
walk_function-leave-requires-clause-deeper t c =
    let d = c.in_ok-walk_block.ensures.walks in
    inside_walked (c.in_ok-enter.ensures.enters _ c.requires.standing.fine).inside d.keeps

pub walk_function-returns : goal.walk_function-returns
walk_function-returns t c =
    let i = c.in_ok-enter.ensures in
    let k = rw (c.children.ensures.bytes, c.children.ensures.at, c.children.ensures.end, c.next-params.ensures.bytes, c.first.ensures.bytes) at c.count_fields-n.ensures in
    let d = rw (c.children-2.ensures.bytes, c.children-2.ensures.at, c.children-2.ensures.end, c.next-body.ensures.bytes, c.next-body.ensures.at, c.next-params.ensures.bytes, c.first.ensures.bytes) at c.in_ok-walk_block.ensures in
    let l = c.leave.ensures.closed in
    record { walks = function_walks (rw (c.first.ensures.bytes, c.first.ensures.at) at c.next-params.ensures.at) refl refl k (i.enters _ c.requires.standing.fine) (rw (← i.code) d.walks) (l.leaves _ d.walks.fine); same = rw (l.same, ← i.same) d.same }

pub walk_index-returns-in_err-walk_expression : goal.walk_index-returns-in_err-walk_expression
walk_index-returns-in_err-walk_expression t c =
    let d = rw (c.first-left.ensures.bytes, c.first-left.ensures.at) at c.in_err-walk_expression.ensures in
    rw (passed_on c.from_residual.ensures.1) (record { walks = index_walks refl d.walks (walk_stays d.walks.ready) (done_stays d.walks.ready); same = d.same })

pub walk_index-returns-in_err-walk_expression-2 : goal.walk_index-returns-in_err-walk_expression-2
walk_index-returns-in_err-walk_expression-2 t c =
    let d = rw (c.first-left.ensures.bytes, c.first-left.ensures.at) at c.in_ok-walk_expression.ensures in
    let e = rw (c.next.ensures.bytes, c.next.ensures.at, c.first-left.ensures.bytes, c.first-left.ensures.at) at c.in_err-walk_expression-2.ensures in
    rw (passed_on c.from_residual-in_err-walk_expression-2.ensures.1) (record { walks = index_walks refl d.walks e.walks (done_stays e.walks.ready); same = e.same ∙ d.same })

pub walk_index-returns : goal.walk_index-returns
walk_index-returns t c =
    let d = rw (c.first-left.ensures.bytes, c.first-left.ensures.at) at c.in_ok-walk_expression.ensures in
    let e = rw (c.next.ensures.bytes, c.next.ensures.at, c.first-left.ensures.bytes, c.first-left.ensures.at) at c.in_ok-walk_expression-2.ensures in
    let f = c.emit.ensures in
    record { walks = index_walks refl d.walks e.walks f.done; same = rw f.same (e.same ∙ d.same) }

pub walk_infix-returns-in_err-walk_expression : goal.walk_infix-returns-in_err-walk_expression
walk_infix-returns-in_err-walk_expression t c =
    let d = c.in_err-walk_expression.ensures in
    rw (passed_on c.from_residual.ensures.1) (record { walks = less_walks (rw (c.first-left.ensures.bytes, c.first-left.ensures.at) at c.next-op.ensures.at) c.if-o-eq-LESS_THAN.true d.walks (walk_stays d.walks.ready) (done_stays d.walks.ready); same = d.same })

pub walk_infix-returns-in_err-walk_expression-2 : goal.walk_infix-returns-in_err-walk_expression-2
walk_infix-returns-in_err-walk_expression-2 t c =
    let d = c.in_ok-walk_expression.ensures in
    let e = (rw (c.first-left.ensures.bytes, c.first-left.ensures.at) at c.in_err-walk_expression-2.ensures) in
    rw (passed_on c.from_residual-in_err-walk_expression-2.ensures.1) (record { walks = less_walks (rw (c.first-left.ensures.bytes, c.first-left.ensures.at) at c.next-op.ensures.at) c.if-o-eq-LESS_THAN.true d.walks e.walks (done_stays e.walks.ready); same = e.same ∙ d.same })

pub walk_infix-returns-in_err-walk_expression-3 : goal.walk_infix-returns-in_err-walk_expression-3
walk_infix-returns-in_err-walk_expression-3 t c =
    let d = (rw (c.first-left.ensures.bytes, c.first-left.ensures.at) at c.in_err-walk_expression-3.ensures) in
    rw (passed_on c.from_residual-in_err-walk_expression-3.ensures.1) (record { walks = infix_walks (rw (c.first-left.ensures.bytes, c.first-left.ensures.at) at c.next-op.ensures.at) c.if-o-eq-LESS_THAN.false d.walks (walk_stays d.walks.ready) (done_stays d.walks.ready); same = d.same })

pub walk_infix-returns-in_err-walk_expression-4 : goal.walk_infix-returns-in_err-walk_expression-4
walk_infix-returns-in_err-walk_expression-4 t c =
    let d = (rw (c.first-left.ensures.bytes, c.first-left.ensures.at) at c.in_ok-walk_expression-3.ensures) in
    let e = c.in_err-walk_expression-4.ensures in
    rw (passed_on c.from_residual-in_err-walk_expression-4.ensures.1) (record { walks = infix_walks (rw (c.first-left.ensures.bytes, c.first-left.ensures.at) at c.next-op.ensures.at) c.if-o-eq-LESS_THAN.false d.walks e.walks (done_stays e.walks.ready); same = e.same ∙ d.same })

pub walk_infix-returns : goal.walk_infix-returns
walk_infix-returns t c =
    let tree = c.args.field.bytes.now in
    let op = c.next-op.result.at in
    let e = c.infix_operator.ensures in
    elim c.if-o-eq-LESS_THAN.branch [
      | walk_infix-then-o-eq-LESS_THAN+in_ok-walk_expression+in_ok-walk_expression-2 w ↦
          let d = w.in_ok-walk_expression.ensures in
          let u = subst (λ y. Compiles tree (ReadsExpr tree (c.args.field.at + 3)) (walk_expr machine) w.walk_expression.new.self y (Ok tt)) (sym w.self-is) (rw (c.first-left.ensures.bytes, c.first-left.ensures.at) at w.in_ok-walk_expression-2.ensures) in
          record { walks = less_walks (rw (c.first-left.ensures.bytes, c.first-left.ensures.at) at c.next-op.ensures.at) w.if-o-eq-LESS_THAN.true d.walks u.walks e.done; same = rw e.same (u.same ∙ d.same) }
      | walk_infix-else-o-eq-LESS_THAN+in_ok-walk_expression-3+in_ok-walk_expression-4 w ↦
          let d = (rw (c.first-left.ensures.bytes, c.first-left.ensures.at) at w.in_ok-walk_expression-3.ensures) in
          let u = subst (λ y. Compiles tree (ReadsExpr tree (op + 4)) (walk_expr machine) w.walk_expression-else-o-eq-LESS_THAN.new.self y (Ok tt)) (sym w.self-is) w.in_ok-walk_expression-4.ensures in
          record { walks = infix_walks (rw (c.first-left.ensures.bytes, c.first-left.ensures.at) at c.next-op.ensures.at) w.if-o-eq-LESS_THAN.false d.walks u.walks e.done; same = rw e.same (u.same ∙ d.same) }
    ]

pub walk_let-returns-in_err-setting : goal.walk_let-returns-in_err-setting
walk_let-returns-in_err-setting t c =
    let d = c.in_err-setting.ensures.defines _ _ c.requires.standing.fine in
    rw (passed_on c.from_residual.ensures.1) (record { walks = let_refused c.args.self.now.scope.now.area d; same = refl })

pub walk_let-walk_expression-requires : goal.walk_let-walk_expression-requires
walk_let-walk_expression-requires t c =
    let q = (rw (c.first.ensures.bytes, c.first.ensures.at) at c.next-value.ensures.at) in
    let d = c.in_ok-setting.ensures.defines c.args.self.now.scope.now.code.now _ c.requires.standing.fine in
    rw (c.next-value.ensures.bytes, c.first.ensures.bytes) (omega (arith, inside_at q (let_inside c.requires.some.1).1, c.decreases), (let_value q c.requires.some, record { fine = d.fine; short = c.requires.standing.short }))

pub walk_let-returns-in_err-walk_expression : goal.walk_let-returns-in_err-walk_expression
walk_let-returns-in_err-walk_expression t c =
    let d = c.in_ok-setting.ensures.defines _ _ c.requires.standing.fine in
    let e = rw (c.next-value.ensures.bytes, c.next-value.ensures.at, c.first.ensures.bytes, c.first.ensures.at) at c.in_err-walk_expression.ensures in
    rw (passed_on c.from_residual-in_err-walk_expression.ensures.1) (record { walks = let_walks refl d e.walks (done_stays e.walks.ready); same = e.same })

pub walk_let-returns : goal.walk_let-returns
walk_let-returns t c =
    let d = c.in_ok-setting.ensures.defines _ _ c.requires.standing.fine in
    let e = rw (c.next-value.ensures.bytes, c.next-value.ensures.at, c.first.ensures.bytes, c.first.ensures.at) at c.in_ok-walk_expression.ensures in
    let f = c.emit_operand.ensures in
    record { walks = let_walks refl d e.walks f.done; same = rw f.same e.same }

pub walk_list-count_fields-n-requires : goal.walk_list-count_fields-n-requires
walk_list-count_fields-n-requires t c =
    rw (c.children-items.ensures.bytes, c.children-items.ensures.at, c.children-items.ensures.end) (exprs_in_row c.requires.some)

pub walk_list-returns-in_err-walk_expressions : goal.walk_list-returns-in_err-walk_expressions
walk_list-returns-in_err-walk_expressions t c =
    let d = rw (c.children-items.ensures.bytes, c.children-items.ensures.at, c.children-items.ensures.end) at c.in_err-walk_expressions.ensures in
    rw (passed_on c.from_residual.ensures.1) (record { walks = list_walks _ _ refl (rw (c.children-items.ensures.bytes, c.children-items.ensures.at, c.children-items.ensures.end) at c.count_fields-n.ensures) d.walks (done_stays d.walks.ready); same = d.same })

pub walk_list-returns : goal.walk_list-returns
walk_list-returns t c =
    let d = rw (c.children-items.ensures.bytes, c.children-items.ensures.at, c.children-items.ensures.end) at c.in_ok-walk_expressions.ensures in
    let e = c.emit_operand.ensures in
    record { walks = list_walks _ _ refl (rw (c.children-items.ensures.bytes, c.children-items.ensures.at, c.children-items.ensures.end) at c.count_fields-n.ensures) d.walks e.done; same = rw e.same d.same }

pub walk_prefix-returns-in_err-walk_expression : goal.walk_prefix-returns-in_err-walk_expression
walk_prefix-returns-in_err-walk_expression t c =
    let d = c.in_err-walk_expression.ensures in
    rw (passed_on c.from_residual.ensures.1) (record { walks = prefix_walks d.walks (done_stays d.walks.ready); same = d.same })

pub walk_prefix-returns : goal.walk_prefix-returns
walk_prefix-returns t c =
    let d = c.in_ok-walk_expression.ensures in
    let e = c.prefix_operator.ensures in
    record { walks = prefix_walks d.walks e.done; same = rw e.same d.same }

pub walk_statement-first-requires : goal.walk_statement-first-requires
walk_statement-first-requires t c =
    let here = stmt_here tag_expr_stmt c.in-17.is c.requires.some in
    (value_expr here).1.field.whole

pub walk_statement-walk_expression-requires : goal.walk_statement-walk_expression-requires
walk_statement-walk_expression-requires t c =
    let here = stmt_here tag_expr_stmt c.in-17.is c.requires.some in
    rw (c.first.ensures.bytes, c.first.ensures.at) (omega (arith, value-inside here.1), (value_expr here, search rules))

pub walk_statement-returns-in_err-walk_expression-in-17 : goal.walk_statement-returns-in_err-walk_expression-in-17
walk_statement-returns-in_err-walk_expression-in-17 t c =
    let d = rw (c.first.ensures.bytes, c.first.ensures.at) at c.in_err-walk_expression-in-17.ensures in
    rw (passed_on c.from_residual.ensures.1) (record { walks = expr_stmt_walks c.in-17.is d.walks (done_stays d.walks.ready); same = d.same })

pub walk_statement-returns-in_ok-walk_expression-in-17 : goal.walk_statement-returns-in_ok-walk_expression-in-17
walk_statement-returns-in_ok-walk_expression-in-17 t c =
    let d = rw (c.first.ensures.bytes, c.first.ensures.at) at c.in_ok-walk_expression-in-17.ensures in
    let e = c.emit.ensures in
    record { walks = expr_stmt_walks c.in-17.is d.walks e.done; same = rw e.same d.same }

pub walk_statement-walk_block-requires : goal.walk_statement-walk_block-requires
walk_statement-walk_block-requires t c =
    rw (c.children.ensures.bytes, c.children.ensures.at, c.children.ensures.end) (search rules, (block_body refl (stmt_here tag_block c.in-18.is c.requires.some), search rules))

pub walk_statement-returns-in-18 : goal.walk_statement-returns-in-18
walk_statement-returns-in-18 t c =
    let d = rw (c.children.ensures.bytes, c.children.ensures.at, c.children.ensures.end) at c.walk_block.ensures in
    record { walks = block_walks c.in-18.is refl d.walks; same = d.same }

pub walk_statement-walk_let-requires : goal.walk_statement-walk_let-requires
walk_statement-walk_let-requires t c =
    (search rules, (stmt_here tag_let c.in-19.is c.requires.some, search rules))

pub walk_statement-returns-in-19 : goal.walk_statement-returns-in-19
walk_statement-returns-in-19 t c =
    record { walks = stmt_walks tag_let c.in-19.is c.walk_let.ensures.walks; same = c.walk_let.ensures.same }

pub walk_statement-first-requires-in_default : goal.walk_statement-first-requires-in_default
walk_statement-first-requires-in_default t c =
    let no = c.in_default.in_default-own.rest in
    let h = return-tag no.0.0.1 no.0.1 no.1 c.requires.some in
    let here = stmt_here tag_return h c.requires.some in
    (value_expr here).1.field.whole

pub walk_statement-walk_expression-requires-in_default : goal.walk_statement-walk_expression-requires-in_default
walk_statement-walk_expression-requires-in_default t c =
    let no = c.in_default.in_default-own.rest in
    let h = return-tag no.0.0.1 no.0.1 no.1 c.requires.some in
    let here = stmt_here tag_return h c.requires.some in
    rw (c.first-in_default.ensures.bytes, c.first-in_default.ensures.at) (omega (arith, value-inside here.1), (value_expr here, search rules))

pub walk_statement-returns-in_err-walk_expression-in_default : goal.walk_statement-returns-in_err-walk_expression-in_default
walk_statement-returns-in_err-walk_expression-in_default t c =
    let no = c.in_default.in_default-own.rest in
    let h = return-tag no.0.0.1 no.0.1 no.1 c.requires.some in
    let d = rw (c.first-in_default.ensures.bytes, c.first-in_default.ensures.at) at c.in_err-walk_expression-in_default.ensures in
    rw (passed_on c.from_residual-in_err-walk_expression-in_default.ensures.1) (record { walks = return_walks h d.walks (done_stays d.walks.ready); same = d.same })

pub walk_statement-returns-in_ok-walk_expression-in_default : goal.walk_statement-returns-in_ok-walk_expression-in_default
walk_statement-returns-in_ok-walk_expression-in_default t c =
    let no = c.in_default.in_default-own.rest in
    let h = return-tag no.0.0.1 no.0.1 no.1 c.requires.some in
    let d = rw (c.first-in_default.ensures.bytes, c.first-in_default.ensures.at) at c.in_ok-walk_expression-in_default.ensures in
    let e = c.emit-in_default.ensures in
    record { walks = return_walks h d.walks e.done; same = rw e.same d.same }

pub walk_if-returns-in_err-walk_expression : goal.walk_if-returns-in_err-walk_expression
walk_if-returns-in_err-walk_expression t c =
    let d = rw (c.first.ensures.bytes, c.first.ensures.at) at c.in_err-walk_expression.ensures in
    rw (passed_on c.from_residual.ensures.1) (record { walks = if_walks d.walks (walk_stays d.walks.ready); same = d.same })

pub walk_if-returns-in_err-skip : goal.walk_if-returns-in_err-skip
walk_if-returns-in_err-skip t c =
    let d = rw (c.first.ensures.bytes, c.first.ensures.at) at c.in_ok-walk_expression.ensures in
    let j = c.in_err-skip.ensures in
    rw (passed_on c.from_residual-in_err-skip.ensures.1) (record { walks = if_walks d.walks (jump_refused (walk_branches c.args.field.at) d.walks.fine j.jumped); same = rw j.same d.same })

pub walk_if-returns-in_err-walk_branch : goal.walk_if-returns-in_err-walk_branch
walk_if-returns-in_err-walk_branch t c =
    let d = rw (c.first.ensures.bytes, c.first.ensures.at) at c.in_ok-walk_expression.ensures in
    let j = c.in_ok-skip.ensures in
    let b = rw (c.next-branch.ensures.bytes, c.next-branch.ensures.at, c.first-2.ensures.bytes, c.first-2.ensures.at) at c.in_err-walk_branch.ensures in
    rw (passed_on c.from_residual-in_err-walk_branch.ensures.1) (record {
      walks = if_walks d.walks (jump_walk (walk_branches c.args.field.at) d.walks.fine j.jumped (branches_walks _ refl b.walks (walk_stays b.walks.ready)));
      same = b.same ∙ rw j.same d.same;
    })

pub walk_if-returns-in_err-away : goal.walk_if-returns-in_err-away
walk_if-returns-in_err-away t c =
    let d = rw (c.first.ensures.bytes, c.first.ensures.at) at c.in_ok-walk_expression.ensures in
    let j = c.in_ok-skip.ensures in
    let b = rw (c.next-branch.ensures.bytes, c.next-branch.ensures.at, c.first-2.ensures.bytes, c.first-2.ensures.at) at c.in_ok-walk_branch.ensures in
    let a = c.in_err-away.ensures in
    rw (passed_on c.from_residual-in_err-away.ensures.1) (record { walks = other_walks d.walks j.jumped b.walks (behind_refused _ b.walks.fine a.jumped); same = rw a.same (b.same ∙ rw j.same d.same) })

pub walk_if-returns-in_err-walk_branch-2 : goal.walk_if-returns-in_err-walk_branch-2
walk_if-returns-in_err-walk_branch-2 t c =
    let d = rw (c.first.ensures.bytes, c.first.ensures.at) at c.in_ok-walk_expression.ensures in
    let j = c.in_ok-skip.ensures in
    let b = rw (c.next-branch.ensures.bytes, c.next-branch.ensures.at, c.first-2.ensures.bytes, c.first-2.ensures.at) at c.in_ok-walk_branch.ensures in
    let a = c.in_ok-away.ensures in
    let e = rw (c.next.ensures.bytes, c.next.ensures.at, c.next-branch.ensures.bytes, c.first-2.ensures.bytes) at c.in_err-walk_branch-2.ensures in
    let q = rw (c.first-2.ensures.bytes, c.first-2.ensures.at) at c.next-branch.ensures.at in
    let p = rw (c.next-branch.ensures.bytes, c.first-2.ensures.bytes) at c.after-at.ensures.is in
    let o = else_walks q refl c.after-end.ensures.is (rw p at c.if-at-end.true) e.walks in
    rw (passed_on c.from_residual-in_err-walk_branch-2.ensures.1) (record {
      walks = other_walks d.walks j.jumped b.walks (behind_walks _ b.walks.fine a.jumped o (done_stays e.walks.ready));
      same = e.same ∙ rw a.same (b.same ∙ rw j.same d.same);
    })

pub walk_if-returns-in_err-emit : goal.walk_if-returns-in_err-emit
walk_if-returns-in_err-emit t c =
    let d = rw (c.first.ensures.bytes, c.first.ensures.at) at c.in_ok-walk_expression.ensures in
    let j = c.in_ok-skip.ensures in
    let b = rw (c.next-branch.ensures.bytes, c.next-branch.ensures.at, c.first-2.ensures.bytes, c.first-2.ensures.at) at c.in_ok-walk_branch.ensures in
    let a = c.in_ok-away.ensures in
    let e = c.in_err-emit.ensures in
    let q = rw (c.first-2.ensures.bytes, c.first-2.ensures.at) at c.next-branch.ensures.at in
    let p = rw (c.next-branch.ensures.bytes, c.first-2.ensures.bytes) at c.after-at.ensures.is in
    let o = null_walks q p c.after-end.ensures.is c.if-at-end.false (jumped_fine a.jumped b.walks.fine) e.done in
    rw (passed_on c.from_residual-in_err-emit.ensures.1) (record {
      walks = other_walks d.walks j.jumped b.walks (behind_walks _ b.walks.fine a.jumped o (done_stays o.ready));
      same = rw (e.same, a.same) (b.same ∙ rw j.same d.same);
    })

pub walk_if-returns : goal.walk_if-returns
walk_if-returns t c =
    let d = rw (c.first.ensures.bytes, c.first.ensures.at) at c.in_ok-walk_expression.ensures in
    let j = c.in_ok-skip.ensures in
    let b = rw (c.next-branch.ensures.bytes, c.next-branch.ensures.at, c.first-2.ensures.bytes, c.first-2.ensures.at) at c.in_ok-walk_branch.ensures in
    let a = c.in_ok-away.ensures in
    let q = rw (c.first-2.ensures.bytes, c.first-2.ensures.at) at c.next-branch.ensures.at in
    let p = rw (c.next-branch.ensures.bytes, c.first-2.ensures.bytes) at c.after-at.ensures.is in
    elim c.if-at-end.branch [
      | walk_if-then-at-end+in_ok-walk_branch-2 w ↦
          let e = rw (w.next.ensures.bytes, w.next.ensures.at, c.next-branch.ensures.bytes, c.first-2.ensures.bytes) at w.in_ok-walk_branch-2.ensures in
          let o = else_walks q refl c.after-end.ensures.is (rw p at w.if-at-end.true) e.walks in
          let f = rw w.self-is at c.patch.ensures in
          rw w.self-is (record { walks = other_walks d.walks j.jumped b.walks (behind_walks _ b.walks.fine a.jumped o f.done); same = rw f.same (e.same ∙ rw a.same (b.same ∙ rw j.same d.same)) })
      | walk_if-else-at-end+in_ok-emit w ↦
          let e = w.in_ok-emit.ensures in
          let o = null_walks q p c.after-end.ensures.is w.if-at-end.false (jumped_fine a.jumped b.walks.fine) e.done in
          let f = rw w.self-is at c.patch.ensures in
          rw w.self-is (record { walks = other_walks d.walks j.jumped b.walks (behind_walks _ b.walks.fine a.jumped o f.done); same = rw (f.same, e.same, a.same) (b.same ∙ rw j.same d.same) })
    ]
