-- The goals of the cycle, function by function.
use Rattle.trace.proofs.Function.{params_row, body_stands, body_fits, nested_passes, many_passes, inside_stands, function_whole}
use Rattle.trace.proofs.Passing.{let_here, function_here, infix_here, row_here, identifier_stands, silent_passes, identifier_passes, let_passes, function_passes, infix_passes, row_passes, left_stands, right_stands, right_at, operands_fit, infix-row, less_passes, infix_whole, let-row, defined_stands, let_whole}
use Rattle.trace.proofs.Sequence.{within, onward, row_first, row_fit}
use Rattle.trace.proofs.Loop.{nodes_to, loop_holds, turn_at, loop_again, loop_ends, named_as}
use Rattle.field.proofs.EachField.{begins_there, can_begin, is_before}
use Rattle.tree.proofs.Children.{function_params}
use Rattle.tree.proofs.Rows.{names_in_row}
use mathlib.Core.Path.{refl, sym, ◌∙◌}
use borrow.Author.Rules.{rules}
use native.Mathlib.Omega.{arith}
use Rattle.trace.proofs.pass.Namer.+pass.Goals as goal
use Rattle.trace.proofs.pass.Namer.+pass.Goals.{name_function-then-level-ge-NESTING_LIMIT-via-then-level-ge-NESTING_LIMIT, name_function-then-level-ge-NESTING_LIMIT-via-else-level-ge-NESTING_LIMIT+then-k-gt-ARGUMENTS_LIMIT}

pub name_field-log_identifier-requires : goal.name_field-log_identifier-requires
name_field-log_identifier-requires t c = record { standing = identifier_stands c.in-32.is c.requires.some c.requires.standing }

pub name_field-returns-in-32 : goal.name_field-returns-in-32
name_field-returns-in-32 t c = named_as (identifier_passes c.in-32.is c.requires.some) c.log_identifier.ensures

pub name_field-name_let-requires : goal.name_field-name_let-requires
name_field-name_let-requires t c = (omega (arith, c.decreases), (let_here c.in-19.is c.requires.some, c.requires.standing))

pub name_field-returns-in-19 : goal.name_field-returns-in-19
name_field-returns-in-19 t c = named_as (let_passes c.in-19.is) c.name_let.ensures

pub name_field-name_function-requires : goal.name_field-name_function-requires
name_field-name_function-requires t c = (omega (arith, c.decreases), (function_here c.in-36.is c.requires.some, c.requires.standing))

pub name_field-returns-in-36 : goal.name_field-returns-in-36
name_field-returns-in-36 t c = named_as (function_passes c.in-36.is) c.name_function.ensures

pub name_field-name_infix-requires : goal.name_field-name_infix-requires
name_field-name_infix-requires t c = (omega (arith, c.decreases), (infix_here c.in-34.is c.requires.some, c.requires.standing))

pub name_field-returns-in-34 : goal.name_field-returns-in-34
name_field-returns-in-34 t c = named_as (infix_passes c.in-34.is) c.name_infix.ensures

pub name_field-name_row-requires : goal.name_field-name_row-requires
name_field-name_row-requires t c = rw (c.children.ensures.bytes, c.children.ensures.at, c.children.ensures.end) (omega (arith, c.decreases), (row_here (sym c.has_children.ensures ∙ c.if-has_children.true) refl c.requires.some, within (omega arith) c.requires.standing))

pub name_field-returns-in_default : goal.name_field-returns-in_default
name_field-returns-in_default t c = named_as (row_passes (sym c.has_children.ensures ∙ c.if-has_children.true) refl) (rw (c.children.ensures.bytes, c.children.ensures.at, c.children.ensures.end) at c.name_row.ensures)

pub name_field-returns-else-has_children : goal.name_field-returns-else-has_children
name_field-returns-else-has_children t c = record { passes = silent_passes (search rules) (search rules) (search rules) (search rules) (sym c.has_children.ensures ∙ c.if-has_children.false) c.requires.standing; table = refl; log = refl; same = refl }

pub name_function-count_fields-k-requires : goal.name_function-count_fields-k-requires
name_function-count_fields-k-requires t c =
    let q = rw (c.first-name.ensures.bytes, c.first-name.ensures.at) at c.next-params.ensures.at in
    rw (c.children-row.ensures.bytes, c.children-row.ensures.at, c.children-row.ensures.end, c.next-params.ensures.bytes, c.first-name.ensures.bytes) (names_in_row (function_params q refl c.requires.some))

pub name_function-returns-then-level-ge-NESTING_LIMIT : goal.name_function-returns-then-level-ge-NESTING_LIMIT
name_function-returns-then-level-ge-NESTING_LIMIT t c =
    let q = rw (c.first-name.ensures.bytes, c.first-name.ensures.at) at c.next-params.ensures.at in
    let k = rw (c.children-row.ensures.bytes, c.children-row.ensures.at, c.children-row.ensures.end, c.next-params.ensures.bytes, c.first-name.ensures.bytes) at c.count_fields-k.ensures in
    elim c.then-level-ge-NESTING_LIMIT.branch [
      | name_function-then-level-ge-NESTING_LIMIT-via-then-level-ge-NESTING_LIMIT w ↦ record { passes = nested_passes q refl k c.requires.standing w.if-level-ge-NESTING_LIMIT.true; table = refl; log = refl; same = refl }
      | name_function-then-level-ge-NESTING_LIMIT-via-else-level-ge-NESTING_LIMIT+then-k-gt-ARGUMENTS_LIMIT w ↦ record { passes = many_passes q refl k c.requires.standing w.if-level-ge-NESTING_LIMIT.false w.if-k-gt-ARGUMENTS_LIMIT.true; table = refl; log = refl; same = refl }
    ]

pub name_function-enter-requires-clause-params : goal.name_function-enter-requires-clause-params
name_function-enter-requires-clause-params t c =
    let q = rw (c.first-name.ensures.bytes, c.first-name.ensures.at) at c.next-params.ensures.at in
    let k = rw (c.children-row.ensures.bytes, c.children-row.ensures.at, c.children-row.ensures.end, c.next-params.ensures.bytes, c.first-name.ensures.bytes) at c.count_fields-k.ensures in
    rw (c.new-key.ensures.tree, c.children-row.ensures.at, c.children-row.ensures.end, c.next-params.ensures.bytes, c.first-name.ensures.bytes) (params_row q refl k c.requires.some c.if-k-gt-ARGUMENTS_LIMIT.false)

pub name_function-name_field-requires : goal.name_function-name_field-requires
name_function-name_field-requires t c =
    let q = rw (c.first-name.ensures.bytes, c.first-name.ensures.at) at c.next-params.ensures.at in
    let k = rw (c.children-row.ensures.bytes, c.children-row.ensures.at, c.children-row.ensures.end, c.next-params.ensures.bytes, c.first-name.ensures.bytes) at c.count_fields-k.ensures in
    let e = rw (c.new-key.ensures.tree, c.new-key.ensures.at, c.children-row.ensures.at, c.children-row.ensures.end, c.next-params.ensures.bytes, c.first-name.ensures.bytes, c.first-name.ensures.at) at c.enter.ensures in
    rw (c.next-body.ensures.bytes, c.next-body.ensures.at, c.next-params.ensures.bytes, c.first-name.ensures.bytes) (
      omega (arith, c.decreases, body_fits q refl k c.requires.some),
      (body_stands q refl k c.requires.some, inside_stands q refl k c.requires.standing c.if-level-ge-NESTING_LIMIT.false c.if-k-gt-ARGUMENTS_LIMIT.false e c.requires.some c.enter.auto.table),
    )

pub name_function-returns : goal.name_function-returns
name_function-returns t c =
    let q = rw (c.first-name.ensures.bytes, c.first-name.ensures.at) at c.next-params.ensures.at in
    let k = rw (c.children-row.ensures.bytes, c.children-row.ensures.at, c.children-row.ensures.end, c.next-params.ensures.bytes, c.first-name.ensures.bytes) at c.count_fields-k.ensures in
    let e = rw (c.new-key.ensures.tree, c.new-key.ensures.at, c.children-row.ensures.at, c.children-row.ensures.end, c.next-params.ensures.bytes, c.first-name.ensures.bytes, c.first-name.ensures.at) at c.enter.ensures in
    let inside = rw (c.next-body.ensures.bytes, c.next-body.ensures.at, c.next-params.ensures.bytes, c.first-name.ensures.bytes) at c.name_field.ensures in
    record {
      passes = function_whole q refl k c.requires.standing c.if-level-ge-NESTING_LIMIT.false c.if-k-gt-ARGUMENTS_LIMIT.false e c.requires.some inside.passes;
      table = inside.table ∙ c.enter.auto.table;
      log = inside.log;
      same = inside.same;
    }

pub name_infix-name_field-requires : goal.name_infix-name_field-requires
name_infix-name_field-requires t c =
    let q = rw (c.first-left.ensures.bytes, c.first-left.ensures.at) at c.next-op.ensures.at in
    let fit = operands_fit q c.requires.some in
    rw (c.next.ensures.bytes, c.next.ensures.at, c.next-op.ensures.bytes, c.first-left.ensures.bytes, right_at q c.requires.some) (
      omega (arith, c.decreases, fit),
      (right_stands q c.requires.some, within (omega (arith, fit)) c.requires.standing),
    )

pub name_infix-name_field-requires-then-field-op-eq-LESS_THAN : goal.name_infix-name_field-requires-then-field-op-eq-LESS_THAN
name_infix-name_field-requires-then-field-op-eq-LESS_THAN t c =
    let q = rw (c.first-left.ensures.bytes, c.first-left.ensures.at) at c.next-op.ensures.at in
    let fit = operands_fit q c.requires.some in
    let right = rw (c.next.ensures.bytes, c.next.ensures.at, c.next-op.ensures.bytes, c.first-left.ensures.bytes, right_at q c.requires.some) at c.name_field.ensures in
    rw (c.first-left.ensures.bytes, c.first-left.ensures.at) (omega (arith, c.decreases, fit), (left_stands q c.requires.some, onward c.requires.standing right.table right.log fit right.passes))

pub name_infix-returns-then-field-op-eq-LESS_THAN : goal.name_infix-returns-then-field-op-eq-LESS_THAN
name_infix-returns-then-field-op-eq-LESS_THAN t c =
    let q = rw (c.first-left.ensures.bytes, c.first-left.ensures.at) at c.next-op.ensures.at in
    let right = rw (c.next.ensures.bytes, c.next.ensures.at, c.next-op.ensures.bytes, c.first-left.ensures.bytes, right_at q c.requires.some) at c.name_field.ensures in
    let left = rw (c.first-left.ensures.bytes, c.first-left.ensures.at) at c.name_field-then-field-op-eq-LESS_THAN.ensures in
    record {
      passes = less_passes q c.requires.some c.if-field-op-eq-LESS_THAN.true right.passes left.passes;
      table = left.table ∙ right.table;
      log = left.log ∙ right.log;
      same = left.same ∙ right.same;
    }

pub name_infix-name_row-requires : goal.name_infix-name_row-requires
name_infix-name_row-requires t c =
    let q = rw (c.first-left.ensures.bytes, c.first-left.ensures.at) at c.next-op.ensures.at in
    rw (c.children.ensures.bytes, c.children.ensures.at, c.children.ensures.end) (omega (arith, c.decreases), (infix-row q c.if-field-op-eq-LESS_THAN.false refl c.requires.some, within (omega arith) c.requires.standing))

pub name_infix-returns : goal.name_infix-returns
name_infix-returns t c =
    let q = rw (c.first-left.ensures.bytes, c.first-left.ensures.at) at c.next-op.ensures.at in
    named_as (infix_whole q c.if-field-op-eq-LESS_THAN.false refl) (rw (c.children.ensures.bytes, c.children.ensures.at, c.children.ensures.end) at c.name_row.ensures)

pub name_let-define-requires-clause-good : goal.name_let-define-requires-clause-good
name_let-define-requires-clause-good t c = rw (c.new.ensures.tree, c.first-name.ensures.bytes) (_, c.requires.standing.symbols)

pub name_let-name_row-requires : goal.name_let-name_row-requires
name_let-name_row-requires t c =
    let d = rw (c.new.ensures.tree, c.new.ensures.at, c.first-name.ensures.bytes, c.first-name.ensures.at) at c.define.ensures in
    rw (c.children.ensures.bytes, c.children.ensures.at, c.children.ensures.end) (omega (arith, c.decreases), (let-row refl c.requires.some, defined_stands _ refl c.define.auto.table c.requires.standing d))

pub name_let-returns : goal.name_let-returns
name_let-returns t c =
    let d = rw (c.new.ensures.tree, c.new.ensures.at, c.first-name.ensures.bytes, c.first-name.ensures.at) at c.define.ensures in
    let value = rw (c.children.ensures.bytes, c.children.ensures.at, c.children.ensures.end) at c.name_row.ensures in
    record {
      passes = let_whole refl d value.passes;
      table = value.table ∙ c.define.auto.table;
      log = value.log;
      same = value.same;
    }

pub name_row-loop-at-init : goal.name_row-loop-at-init
name_row-loop-at-init t c =
    let e = c.into_iter-at-iterator.ensures.into_iter_gives in
    let n = begins_there c.args.fields in
    record { can = can_begin e n (nodes_to c.requires.some); loop = loop_holds e n c.requires.some c.requires.standing }

pub name_row-name_field-requires : goal.name_row-name_field-requires
name_row-name_field-requires t c =
    let n = c.in-Some.ensures.steps in
    let l = c.loop-at.invariant.loop in
    let turn = turn_at l n in
    let before = is_before l.over n in
    (omega (arith, c.decreases, turn.onward, row_fit before turn.left), (row_first before turn.left, within (omega (arith, row_fit before turn.left)) turn.standing))

pub name_row-loop-at-preserved : goal.name_row-loop-at-preserved
name_row-loop-at-preserved t c =
    let n = c.in-Some.ensures.steps in
    record { can = c.in-Some.ensures.goes.keeps; loop = loop_again c.loop-at.invariant.loop n c.name_field.ensures }

pub name_row-returns : goal.name_row-returns
name_row-returns t c = loop_ends c.loop-at.invariant.loop c.in-None.ensures.steps
