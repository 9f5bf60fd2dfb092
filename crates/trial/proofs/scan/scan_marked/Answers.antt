-- `trial::scan::scan_marked` meets its contract: an instruction a turn.
use Rattle.std.proofs.Common.{sym, ap, ◌∙◌}
use Rattle.opcode.proofs.EachInstruction.{over_new, starts_at, over_again, read_at, all_read}
use Rattle.trial.proofs.CodeLoop.{sound, pools, one_image, main_code, not_refused}
use Rattle.trial.proofs.Scanning.{scanned, scan_begins, same, scan_ends, not-runnable, too_high, scan_again}
use Rattle.trial.proofs.scan.scan_marked.Goals as goal
use Rattle.trial.proofs.scan.scan_marked.Goals.{then-not-runnable-via-then-not-runnable, then-not-runnable-via-else-not-runnable+then-marks-at}

pub loop-at-init : goal.loop-at-init
loop-at-init c =
    let a = c.args in
    let p = a.program.parts.code in
    let n = c.instructions-at-items.ensures in
    let e = c.into_iter-at-iterator.ensures.into_iter_gives in
    record {
      over = over_new e n.code n.end;
      so_far = λ h. same (scan_begins p.bytes.now p.end a.marks.now h.image (main_code p.bytes.now h.reads h.ends)) (starts_at e (n.at ∙ a.program.divides.first));
    }

pub returns-then-not-runnable : goal.returns-then-not-runnable
returns-then-not-runnable c =
    let h = sound c.args.program in
    let n = c.in-Some.ensures.steps in
    let r = read_at c.loop-at.invariant.over n in
    let p = same (c.loop-at.invariant.so_far h) (sym n.here) in
    let x = c.runnable.ensures h.image.pool (pools c.args.program h.reads) in
    rw c.refused.ensures (elim c.then-not-runnable.branch [
      | then-not-runnable-via-then-not-runnable w ↦ λ m j. not-runnable p r (sym x ∙ w.if-not-runnable.true) ∙ ap (scanned c.args.marks.now) (one_image h.reads j)
      | then-not-runnable-via-else-not-runnable+then-marks-at w ↦ λ m j. too_high p r (sym x ∙ w.if-not-runnable.false) w.if-marks-at.true ∙ ap (scanned c.args.marks.now) (one_image h.reads j)
    ])

pub loop-at-preserved : goal.loop-at-preserved
loop-at-preserved c =
    let n = c.in-Some.ensures.steps in
    let r = read_at c.loop-at.invariant.over n in
    record {
      over = over_again c.loop-at.invariant.over n;
      so_far =
          λ h.
          let p = same (c.loop-at.invariant.so_far h) (sym n.here) in
          same (scan_again p r (sym (c.runnable.ensures h.image.pool (pools c.args.program h.reads)) ∙ c.if-not-runnable.false) c.if-marks-at.false c.named-names.ensures) (sym n.behind);
    }

pub returns : goal.returns
returns c =
    let p = c.loop-at.invariant.so_far (sound c.args.program) in
    let e = all_read c.loop-at.invariant.over c.in-None.ensures.steps (λ l x t. not_refused p.behind l t) in
    λ m j. scan_ends p e ∙ ap (scanned c.args.marks.now) (one_image (sound c.args.program).reads j)
