-- `trial::run` meets its contract: the work area's length, then the rest.
use Rattle.std.proofs.Common.{◌≤◌, length, sym, ap, ◌∙◌, rules}
use Rattle.trial.specs.Call.{outcome_answer, outcome_into}
use Rattle.trial.proofs.Calling.{work_long, work_cleared}
use Rattle.trial.proofs.run.Goals as goal

pub returns-in-Some : goal.returns-in-Some
returns-in-Some c =
    let l : 4096 ≤ length c.args.work.now = search rules in
    let o = work_long c.args.image.now c.args.heights.now (length c.args.work.now) (length c.args.output.now) l in
    record {
      answer = c.run_in.ensures.answers ∙ sym (ap outcome_answer o);
      output = c.run_in.ensures.writes ∙ sym (ap (λ o. outcome_into o c.args.output.now) o);
      work = work_cleared c.args.work.now l c.run_in.ensures.clears;
    }
