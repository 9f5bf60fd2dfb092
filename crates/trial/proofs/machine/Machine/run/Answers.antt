-- `trial::machine::Machine::run` meets its contract: an instruction a turn.
use Rattle.std.specs.Prelude.{Ok}
use Rattle.trial.specs.Run.{trial}
use Rattle.trial.specs.Machine.{EndsAs}
use Rattle.std.proofs.Common.{refl, ap, subst, sym, ◌∙◌, arith}
use Rattle.definition.proofs.Basic.{passed_on}
use Rattle.opcode.proofs.EachInstruction.{over_new, starts_at, over_again, read_at, all_read}
use Rattle.trial.proofs.CodeLoop.{sound, pools, one_image, main_code, not_refused}
use Rattle.trial.proofs.Machines.{stays_on, pools_in}
use Rattle.trial.proofs.Running.{for_image, run-begins, same, run_ends, run-over, run_again, run_returns, run_stops, run_next, step_ready}
use Rattle.trial.proofs.machine.Machine.run.Goals as goal

pub loop-at-init : goal.loop-at-init
loop-at-init c =
    let s = c.args.self.now in
    let p = s.program.parts.code in
    let n = c.instructions-at-items.ensures in
    let e = c.into_iter-at-iterator.ensures.into_iter_gives in
    record {
      over = over_new e n.code n.end;
      so_far = λ h r. rw c.requires.state (same (run-begins p.bytes.now p.end h.image (main_code p.bytes.now h.reads h.ends) (r.safe h.image h.reads) c.requires.unset) (starts_at e (n.at ∙ s.program.divides.first)));
      lent = record { program = refl; same = refl };
    }

pub execute-requires : goal.execute-requires
execute-requires c =
    let s = c.args.self.now in
    let h = sound s.program in
    let q = main_code s.program.parts.code.bytes.now h.reads h.ends in
    let n = c.in-Some.ensures.steps in
    step_ready (same (c.loop-at.invariant.so_far h c.requires.safe) (sym n.here)) (read_at c.loop-at.invariant.over n) c.if-at-self.true (omega (arith, q.within, h.short))

pub returns-in-Break-clause-ends : goal.returns-in-Break-clause-ends
returns-in-Break-clause-ends c =
    let s = c.args.self.now in
    let l = c.loop-at.invariant in
    let h = sound s.program in
    let n = c.in-Some.ensures.steps in
    let r = read_at l.over n in
    let p = same (l.so_far h c.requires.safe) (sym n.here) in
    let k = c.execute.ensures in
    let x = k.runs h.image.pool p.frame (pools_in l.lent (pools s.program h.reads)) p.framed (run_next p r c.if-at-self.true) in
    λ m j. for_image (one_image h.reads j) (run_returns p r c.if-at-self.true x (c.in_ok-steps.was ∙ ap Ok c.in-Break.is))

pub returns-in_err-steps-clause-ends : goal.returns-in_err-steps-clause-ends
returns-in_err-steps-clause-ends c =
    let s = c.args.self.now in
    let l = c.loop-at.invariant in
    let h = sound s.program in
    let n = c.in-Some.ensures.steps in
    let r = read_at l.over n in
    let p = same (l.so_far h c.requires.safe) (sym n.here) in
    let k = c.execute.ensures in
    let x = k.runs h.image.pool p.frame (pools_in l.lent (pools s.program h.reads)) p.framed (run_next p r c.if-at-self.true) in
    λ m j. subst (λ r. EndsAs c.execute.new.self.work.now r (trial m)) (sym (passed_on c.from_residual.ensures.1)) (for_image (one_image h.reads j) (run_stops p r c.if-at-self.true x c.in_err-steps.was))

pub loop-at-preserved-in_default : goal.loop-at-preserved-in_default
loop-at-preserved-in_default c =
    let s = c.args.self.now in
    let l = c.loop-at.invariant in
    let n = c.in-Some.ensures.steps in
    let r = read_at l.over n in
    let k = c.execute.ensures in
    record {
      over = over_again l.over n;
      so_far =
          λ h q.
          let p = same (l.so_far h q) (sym n.here) in
          let x = k.runs h.image.pool p.frame (pools_in l.lent (pools s.program h.reads)) p.framed (run_next p r c.if-at-self.true) in
          same (run_again p r c.if-at-self.true x (c.in_ok-steps.was ∙ ap Ok c.in_default.is)) (sym n.behind);
      lent = stays_on l.lent k.lent;
    }

pub loop-at-preserved : goal.loop-at-preserved
loop-at-preserved c =
    let l = c.loop-at.invariant in
    let n = c.in-Some.ensures.steps in
    let r = read_at l.over n in
    record {
      over = over_again l.over n;
      so_far = λ h k. same (run-over (same (l.so_far h k) (sym n.here)) r c.if-at-self.false) (sym n.behind);
      lent = l.lent;
    }

pub returns-clause-ends : goal.returns-clause-ends
returns-clause-ends c =
    let l = c.loop-at.invariant in
    let h = sound c.args.self.now.program in
    let p = l.so_far h c.requires.safe in
    let e = all_read l.over c.in-None.ensures.steps (λ l x t. not_refused p.behind l t) in
    λ m j. for_image (one_image h.reads j) (run_ends p e)
