-- The measures: the length of the field, or what is left of a row, with a rank; and what each member is given at the measure t and asked below t.
use Prim.Native.Nat.{ℕ, ◌+◌, ◌*◌, ◌-◌}
use Rattle.definition.specs.Walk.{walk_stmts, walk_exprs}
use Rattle.field.specs.Layout.{len}
use Rattle.scope.specs.Machine.{machine}
use Rattle.tree.specs.Reads.{ReadsStmts, ReadsExprs}
use Rattle.walk.proofs.Compiled.{LoopTurn}
use mathlib.Core.List.{List}
use Rattle.walk.proofs.Compiler.+walk.Given as goal

-- the length of the field at an offset, doubled, so that there is room for ranks: a function that calls another on the same field has the higher one
abbrev field : List ℕ → ℕ → ℕ
field tree at = 2 * (3 + len tree at)

abbrev pub decreases-walk_block : goal.decreases-walk_block
decreases-walk_block l = 2 * (l.fields.end - l.fields.at) + 2

abbrev pub decreases-walk_branch : goal.decreases-walk_branch
decreases-walk_branch l = field l.field.bytes.now l.field.at

abbrev pub decreases-walk_call : goal.decreases-walk_call
decreases-walk_call l = field l.field.bytes.now l.field.at

abbrev pub decreases-walk_expression : goal.decreases-walk_expression
decreases-walk_expression l = field l.field.bytes.now l.field.at + 1

abbrev pub decreases-walk_expressions : goal.decreases-walk_expressions
decreases-walk_expressions l = 2 * (l.fields.end - l.fields.at) + 2

abbrev pub decreases-walk_function : goal.decreases-walk_function
decreases-walk_function l = field l.field.bytes.now l.field.at

abbrev pub decreases-walk_if : goal.decreases-walk_if
decreases-walk_if l = field l.field.bytes.now l.field.at

abbrev pub decreases-walk_index : goal.decreases-walk_index
decreases-walk_index l = field l.field.bytes.now l.field.at

abbrev pub decreases-walk_infix : goal.decreases-walk_infix
decreases-walk_infix l = field l.field.bytes.now l.field.at

abbrev pub decreases-walk_let : goal.decreases-walk_let
decreases-walk_let l = field l.field.bytes.now l.field.at

abbrev pub decreases-walk_list : goal.decreases-walk_list
decreases-walk_list l = field l.field.bytes.now l.field.at

abbrev pub decreases-walk_prefix : goal.decreases-walk_prefix
decreases-walk_prefix l = field l.field.bytes.now l.field.at

abbrev pub decreases-walk_statement : goal.decreases-walk_statement
decreases-walk_statement l = field l.field.bytes.now l.field.at + 1

abbrev pub invariant-walk_block-loop-at : goal.invariant-walk_block-loop-at
invariant-walk_block-loop-at l = LoopTurn l.fields.bytes.now (ReadsStmts l.fields.bytes.now) (walk_stmts machine) l.fields.at l.fields.end l.initial.self l.at-iterator l.self

abbrev pub invariant-walk_expressions-loop-at : goal.invariant-walk_expressions-loop-at
invariant-walk_expressions-loop-at l = LoopTurn l.fields.bytes.now (ReadsExprs l.fields.bytes.now) (walk_exprs machine) l.fields.at l.fields.end l.initial.self l.at-iterator l.self
