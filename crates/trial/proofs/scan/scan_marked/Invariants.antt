-- `trial::scan::scan_marked` meets its contract: an instruction a turn.
use Rattle.opcode.proofs.EachInstruction.{Over}
use Rattle.trial.proofs.CodeLoop.{Sound, main_code}
use Rattle.trial.proofs.Scanning.{ScanLoop}
use Rattle.trial.proofs.scan.scan_marked.Given as goal

abbrev pub invariant-loop-at : goal.invariant-loop-at
invariant-loop-at l =
    record {
      over : Over l.program.parts.code.bytes.now l.program.parts.code.end l.at-iterator;
      so_far : (h : Sound l.program.parts.code.bytes.now l.program.parts.code.end) → ScanLoop l.program.parts.code.bytes.now l.program.parts.code.end l.marks h.image (main_code l.program.parts.code.bytes.now h.reads h.ends) l.at-iterator.at l.names;
    }
