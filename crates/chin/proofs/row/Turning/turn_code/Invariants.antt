-- `chin::row::Turning::turn_code` meets its contract: one instruction a turn; what is left decides.
use Rattle.opcode.proofs.EachInstruction.{Over}
use Rattle.chin.specs.Rows.{jump_of}
use Rattle.chin.specs.Lent.{Keeps}
use Rattle.chin.proofs.Chunks.{CodeLoop}
use Rattle.chin.proofs.row.Turning.turn_code.Given as goal

abbrev pub invariant-loop-at : goal.invariant-loop-at
invariant-loop-at l =
    let s = l.initial.self in
    record {
      over : Over s.image.now l.end l.at-iterator;
      so_far : CodeLoop (jump_of s.from) s.image.now l.start l.end s.output.now l.at-iterator.at l.self.output.now;
      lent : Keeps s l.self;
    }
