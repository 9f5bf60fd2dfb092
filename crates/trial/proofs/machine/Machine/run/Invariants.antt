-- `trial::machine::Machine::run` meets its contract: an instruction a turn.
use Rattle.opcode.proofs.EachInstruction.{Over}
use Rattle.trial.specs.Machine.{Stays, SafeToRun}
use Rattle.trial.proofs.CodeLoop.{Sound, main_code}
use Rattle.trial.proofs.Running.{RunLoop}
use Rattle.trial.proofs.machine.Machine.run.Given as goal

abbrev pub invariant-loop-at : goal.invariant-loop-at
invariant-loop-at l =
    let s = l.initial.self in
    let p = s.program.parts.code in
    record {
      over : Over p.bytes.now p.end l.at-iterator;
      so_far : (h : Sound p.bytes.now p.end) (r : SafeToRun p.bytes.now) → RunLoop p.bytes.now p.end h.image (main_code p.bytes.now h.reads h.ends) (r.safe h.image h.reads) l.self.work.now l.at-iterator.at l.self.state;
      lent : Stays s l.self;
    }
