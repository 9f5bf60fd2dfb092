-- `go` meets its contract: an instruction a turn; the marks are those of the pass so far.
use Rattle.opcode.proofs.EachInstruction.{Over}
use Rattle.heights.specs.Lent.{Keeps}
use Rattle.heights.proofs.Loops.{PassLoop}
use Rattle.heights.proofs.chunk.Marks.go.Given as goal

abbrev pub invariant-loop-at : goal.invariant-loop-at
invariant-loop-at l =
    let s = l.initial.self in
    record {
      over : Over s.code.bytes.now s.code.end l.at-iterator;
      so_far : PassLoop s.code.bytes.now s.code.start s.code.end l.heights s.levels.now l.self.levels.now l.at-iterator.at l.rest l.top;
      lent : Keeps s l.self;
    }
