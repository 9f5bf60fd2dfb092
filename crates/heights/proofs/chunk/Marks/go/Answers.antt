-- `go` meets its contract: an instruction a turn; the marks are those of the pass so far.
use Rattle.std.proofs.Common.{ap, ◌∙◌, refl, sym, subst, get_or, arith}
use Rattle.opcode.specs.Decoding.{instr_of}
use Rattle.heights.specs.Pass.{greater as greatest}
use Rattle.heights.specs.Marks.{Spot, Stepped}
use Rattle.opcode.proofs.EachInstruction.{over_new, starts_at, over_again, read_at, all_read}
use Rattle.heights.proofs.Lent.{keeps_on}
use Rattle.heights.proofs.Loops.{apart, pass_at, loop_begins, loop_ends, not_refused, spot, too_few, step_fails, step-on}
use Rattle.heights.proofs.Stepping.{max_greater}
use Rattle.heights.proofs.chunk.Marks.go.Goals as goal

pub loop-at-init : goal.loop-at-init
loop-at-init c =
    let a = c.args in
    let s = a.self.now in
    let n = c.instructions-at-items.ensures in
    let e = c.into_iter-at-iterator.ensures.into_iter_gives in
    record {
      over = over_new e n.code n.end;
      so_far = pass_at (loop_begins s.code.bytes.now s.code.start s.code.end a.heights.now s.levels.now c.requires) (starts_at e n.at);
      lent = record { levels = refl; code = refl; same = refl };
    }

pub returns-in_default-clause-passes : goal.returns-in_default-clause-passes
returns-in_default-clause-passes c =
    let a = c.args in
    let s = a.self.now in
    let l = c.loop-at in
    let n = c.in-Some.ensures.steps in
    let r = read_at l.invariant.over n in
    let p = pass_at l.invariant.so_far (sym n.here) in
    too_few s.code.bytes.now s.code.start s.code.end a.heights.now p c.requires r.before refl r.read (omega (arith, c.in_default.len_below))

pub step-requires : goal.step-requires
step-requires c =
    let a = c.args in
    let s = a.self.now in
    let l = c.loop-at in
    let n = c.in-Some.ensures.steps in
    let r = read_at l.invariant.over n in
    let p = pass_at l.invariant.so_far (sym n.here) in
    subst (λ k. Spot l.self.levels.now k.start k.end c.in-Some.at c.in-Some.next (instr_of c.in-Some.i)) (sym l.invariant.lent.code) (spot s.code.bytes.now s.code.start s.code.end a.heights.now p c.requires r.before refl r.read)

pub returns-then-not-step : goal.returns-then-not-step
returns-then-not-step c =
    let a = c.args in
    let s = a.self.now in
    let l = c.loop-at in
    let n = c.in-Some.ensures.steps in
    let r = read_at l.invariant.over n in
    let p = pass_at l.invariant.so_far (sym n.here) in
    let t = subst (λ k. Stepped l.self.levels.now k.start k.end c.in-Some.at (get_or l.rest.now 0 0) (instr_of c.in-Some.i) c.step.result c.step.new.self.levels.now) l.invariant.lent.code c.step.ensures.steps in
    record {
      passes = step_fails s.code.bytes.now s.code.start s.code.end a.heights.now p c.requires r.before refl r.read (apart l.rest.now c.in-len1-up.len_at_least) t c.if-not-step.true;
      same = c.step.ensures.lent.same ∙ l.invariant.lent.same;
    }

pub loop-at-preserved : goal.loop-at-preserved
loop-at-preserved c =
    let a = c.args in
    let s = a.self.now in
    let l = c.loop-at in
    let n = c.in-Some.ensures.steps in
    let r = read_at l.invariant.over n in
    let p = pass_at l.invariant.so_far (sym n.here) in
    let t = subst (λ k. Stepped l.self.levels.now k.start k.end c.in-Some.at (get_or l.rest.now 0 0) (instr_of c.in-Some.i) c.step.result c.step.new.self.levels.now) l.invariant.lent.code c.step.ensures.steps in
    let q = step-on s.code.bytes.now s.code.start s.code.end a.heights.now p c.requires r.before refl r.read (apart l.rest.now c.in-len1-up.len_at_least) t c.if-not-step.false c.step.ensures.lent.levels (c.max-top.ensures ∙ max_greater _ _ ∙ ap (greatest _) c.height.ensures) in
    record {
      over = over_again l.invariant.over n;
      so_far = pass_at q (sym n.behind);
      lent = keeps_on l.invariant.lent c.step.ensures.lent;
    }

pub returns : goal.returns
returns c =
    let a = c.args in
    let s = a.self.now in
    let l = c.loop-at in
    let e = all_read l.invariant.over c.in-None.ensures.steps (λ h q t. not_refused s.code.bytes.now s.code.start s.code.end a.heights.now l.invariant.so_far c.requires h refl t) in
    record { passes = λ d k. loop_ends s.code.bytes.now s.code.start s.code.end a.heights.now l.invariant.so_far e d k refl refl; same = l.invariant.lent.same }
