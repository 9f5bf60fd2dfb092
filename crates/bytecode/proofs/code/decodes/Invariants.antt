-- `bytecode::code::decodes` meets its contract: one byte a turn, from the end; four bits say what was found behind it.
use Rattle.definition.specs.Basic.{byte_at}
use Rattle.bytecode.proofs.Backward.{BackLoop}
use Rattle.bytecode.proofs.code.decodes.Given as goal

abbrev pub invariant-loop-at : goal.invariant-loop-at
invariant-loop-at l = BackLoop (byte_at l.code.span.bytes.now) l.code.span.end l.code.span.start l.at l.good
