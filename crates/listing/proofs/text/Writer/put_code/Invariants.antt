-- `listing::text::Writer::put_code` meets its contract: a line a turn; what is left decides.
use Rattle.opcode.proofs.EachInstruction.{Over}
use Rattle.listing.proofs.Lines.{CodeLoop}
use Rattle.listing.proofs.text.Writer.put_code.Given as goal

abbrev pub invariant-loop-place : goal.invariant-loop-place
invariant-loop-place l = record { over : Over l.code.bytes.now l.code.end l.place-iterator; so_far : CodeLoop l.code.bytes.now l.code.start l.code.end l.initial.self l.self l.place-iterator.at }
