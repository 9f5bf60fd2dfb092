-- `series::compile_row` meets its contract: a call an iteration; what is left decides.
use Rattle.compiler.specs.Stage.{lent_of}
use Rattle.series.proofs.Lengths.{lengths_end}
use Rattle.series.proofs.compile_row.Goals as goal

pub returns : goal.returns
returns c =
    let lent = lent_of c.args.session.now c.args.output.now c.args.code.now c.args.table.now in
    lengths_end c.args.trees.now c.args.lengths.now lent c.make_session-answer.ensures c.loop-length.invariant c.loop-length-test.false
