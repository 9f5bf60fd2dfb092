-- `bytecode::code::decodes` meets its contract: one byte a turn, from the end; four bits say what was found behind it.
use mathlib.Core.Path.{◌∙◌}
use Rattle.definition.specs.Basic.{byte_at}
use Rattle.bytecode.proofs.Backward.{back_begins, back_again, back_ends}
use Rattle.bytecode.proofs.code.decodes.Goals as goal

pub loop-at-init : goal.loop-at-init
loop-at-init c = back_begins (byte_at c.args.code.span.bytes.now) c.args.code.span.end c.args.code.within.order

pub loop-at-preserved : goal.loop-at-preserved
loop-at-preserved c =
    back_again (byte_at c.args.code.span.bytes.now) c.args.code.span.end c.loop-at.invariant c.loop-at-test.true (c.wide-behind.ensures.is ∙ c.width.ensures)

pub returns : goal.returns
returns c = search back_ends
