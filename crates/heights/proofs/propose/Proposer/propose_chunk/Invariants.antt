-- `propose_chunk` meets its contract: an instruction a turn.
use Rattle.opcode.proofs.EachInstruction.{Over}
use Rattle.heights.specs.Lent.{Lends}
use Rattle.heights.proofs.Flows.{FlowLoop}
use Rattle.heights.proofs.propose.Proposer.propose_chunk.Given as goal

abbrev pub invariant-loop-at : goal.invariant-loop-at
invariant-loop-at l =
    record {
      over : Over l.code.bytes.now l.code.end l.at-iterator;
      so_far : FlowLoop l.code.bytes.now l.code.start l.code.end l.initial.self.count l.initial.self.heights.now l.initial.self.marks.now l.self.heights.now l.self.marks.now l.at-iterator.at l.self.count;
      lent : Lends l.initial.self l.self;
    }
