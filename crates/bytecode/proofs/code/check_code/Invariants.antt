-- `bytecode::code::check_code` meets its contract: code that decodes goes up to the end; else one instruction a turn, and what is left decides.
use Rattle.std.proofs.Common.{◌≡◌}
use Rattle.definition.specs.Basic.{byte_at}
use Rattle.opcode.proofs.EachInstruction.{Over}
use Rattle.bytecode.proofs.Instructions.{CodeLoop}
use Rattle.bytecode.proofs.code.check_code.Given as goal

abbrev pub invariant-loop-next : goal.invariant-loop-next
invariant-loop-next l = record { over : Over l.code.span.bytes.now l.code.span.end l.next-iterator; so_far : CodeLoop (byte_at l.code.span.bytes.now) l.code.span.start l.code.span.end l.reached; here : l.reached ≡ l.next-iterator.at }
