-- `series::compile_slices` meets its contract: a call an iteration; what is left decides.
use Rattle.compiler.specs.Stage.{lent_of}
use Rattle.series.proofs.Row.{row-begins, row-turns, row_ends}
use Rattle.series.proofs.compile_slices.Goals as goal
use mathlib.Core.Path.{◌∙◌}

pub loop-tree-init : goal.loop-tree-init
loop-tree-init c = row-begins _ _

pub loop-tree-preserved : goal.loop-tree-preserved
loop-tree-preserved c =
    let compile = c.compile-answer in
    row-turns c.args.trees.now c.loop-tree.invariant c.loop-tree-test.true compile.ensures compile.auto.session compile.auto.output compile.auto.code compile.auto.table

pub shape_of-session : goal.shape_of-session
shape_of-session c = c.loop-tree.invariant.session ∙ c.make_session-answer.auto.session

pub shape_of-output : goal.shape_of-output
shape_of-output c = c.loop-tree.invariant.output

pub shape_of-code : goal.shape_of-code
shape_of-code c = c.loop-tree.invariant.code

pub shape_of-table : goal.shape_of-table
shape_of-table c = c.loop-tree.invariant.table

pub returns : goal.returns
returns c =
    let lent = lent_of c.args.session.now c.args.output.now c.args.code.now c.args.table.now in
    row_ends c.args.trees.now lent c.make_session-answer.ensures c.loop-tree.invariant c.loop-tree-test.false
