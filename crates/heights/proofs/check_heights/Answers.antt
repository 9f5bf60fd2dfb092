-- `heights::check_heights` meets its contract: the check, the chunks, then the output.
use Rattle.definition.proofs.Basic.{passed_on}
use native.Mathlib.Omega.{arith}
use mathlib.Core.Path.{◌∙◌, ap, subst}
use lib.ListN.{length}
use Rattle.listing.proofs.Images.{is_sound}
use Rattle.heights.specs.Chunks.{PoolJudges}
use Rattle.heights.proofs.Answers.{empty-part, sound, fails, long, written}
use Rattle.heights.proofs.check_heights.Goals as goal

pub invariant_of-image : goal.invariant_of-image
invariant_of-image c = record { sound = is_sound c.args.image.now (sound c.args.image.now c.check_image.ensures c.in_ok-check_image.was).is }

pub returns-in_err-count : goal.returns-in_err-count
returns-in_err-count c =
    let a = c.args in
    let h = sound a.image.now c.check_image.ensures c.in_ok-check_image.was in
    let j = c.judge in
    let k = fails a.image.now h.is a.heights.now a.output.now (j.ensures h.image h.is) c.in_err-count.was in
    record {
      answer = passed_on c.from_residual-in_err-count.ensures.1 ∙ k.0;
      output = empty-part j.new.output a.output.now j.auto.output ∙ k.1;
    }

pub returns-then-output-count : goal.returns-then-output-count
returns-then-output-count c =
    let a = c.args in
    let h = sound a.image.now c.check_image.ensures c.in_ok-check_image.was in
    let j = c.judge in
    let k = long a.image.now h.is a.heights.now a.output.now (j.ensures h.image h.is) c.in_ok-count.was (omega (arith, c.if-output-count.true, ap length (empty-part j.new.output a.output.now j.auto.output))) in
    record {
      answer = c.refused.ensures ∙ k.0;
      output = empty-part j.new.output a.output.now j.auto.output ∙ k.1;
    }

pub returns : goal.returns
returns c =
    let a = c.args in
    let h = sound a.image.now c.check_image.ensures c.in_ok-check_image.was in
    let j = c.judge in
    let g = c.judge-2 in
    let e = empty-part j.new.output a.output.now j.auto.output in
    let facts = written a.image.now h.is a.heights.now a.output.now (j.ensures h.image h.is) c.in_ok-count.was (omega (arith, c.if-output-count.false, ap length e))
    (subst (λ o. PoolJudges a.heights.now h.image h.image.pool o g.result g.new.output) e (g.ensures h.image h.is)) in
    record { answer = facts.0; output = facts.1 }
