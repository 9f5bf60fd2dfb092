-- `trial::run_image` meets its contract: 17, 25, then main.
use Rattle.definition.proofs.Basic.{passed_on}
use Rattle.std.proofs.Common.{length, sym, ap, ◌∙◌}
use Rattle.heights.proofs.Answers.{sound}
use Rattle.listing.proofs.Images.{is_sound}
use Rattle.trial.specs.Call.{outcome_answer, outcome_into}
use Rattle.trial.proofs.Calling.{chunk_failing, all_passing, taken-image}
use Rattle.trial.proofs.run_image.Goals as goal

pub invariant_of-sound : goal.invariant_of-sound
invariant_of-sound c = record { sound = is_sound c.args.image.now (sound c.args.image.now c.check_image.ensures c.in_ok-check_image.was).is }

pub run_chunk-requires : goal.run_chunk-requires
run_chunk-requires c =
    let h = sound c.args.image.now c.check_image.ensures c.in_ok-check_image.was in
    let t = all_passing c.args.image.now h.is c.args.heights.now 0 (c.judge.ensures h.image h.is).answers c.in_ok-judge.was in
    (record { image = h.image; reads = h.is; tops = t.0; passes = t.1 }, c.requires)

pub returns-in_err-judge : goal.returns-in_err-judge
returns-in_err-judge c =
    let h = sound c.args.image.now c.check_image.ensures c.in_ok-check_image.was in
    let o = chunk_failing c.args.image.now h.is c.args.heights.now (length c.args.output.now) (c.judge.ensures h.image h.is).answers c.in_err-judge.was in
    record {
      answers = passed_on c.from_residual-in_err-judge.ensures.1 ∙ sym (ap outcome_answer o);
      writes = sym (ap (λ o. outcome_into o c.args.output.now) o);
    }

pub returns : goal.returns
returns c =
    let h = sound c.args.image.now c.check_image.ensures c.in_ok-check_image.was in
    let o = taken-image c.args.image.now h.is c.args.heights.now (length c.args.output.now) (c.judge.ensures h.image h.is).answers c.in_ok-judge.was in
    record {
      answers = c.run_chunk.ensures.answers h.image h.is ∙ sym (ap outcome_answer o);
      writes = c.run_chunk.ensures.writes h.image h.is ∙ sym (ap (λ o. outcome_into o c.args.output.now) o);
    }
