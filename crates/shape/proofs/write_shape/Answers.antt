-- `shape::write_shape` meets its contract: the check, the room, then the copy with its literals zeroed.
use Rattle.std.proofs.Common.{◌∙◌}
use Rattle.shape.proofs.Writes.{is_read, does_short}
use Rattle.shape.proofs.write_shape.Goals as goal

pub returns-then-output-n : goal.returns-then-output-n
returns-then-output-n c =
    let facts = does_short (is_read c.args.tree.now c.check.ensures c.in_ok-check.was) c.args.output.now c.if-output-n.true in
    record { answer = c.refused.ensures ∙ facts.0; output = facts.1 }
