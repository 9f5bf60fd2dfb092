-- What a trial run promises: answer, work area and output are the definition's.
use Rattle.std.specs.Prelude.{ℕ, List, ◌≡◌, length, Result}
use Rattle.definition.specs.Basic.{Bytes}
use Rattle.definition.specs.declared.reason.Refusal.{Refusal}
use Rattle.trial.specs.declared.Ran.{Ran}
use Rattle.trial.specs.Call.{run_outcome, outcome_answer, outcome_into, work_after}

-- running main of an image with the heights offered for it, in a work area, into an output
pub record TrialRuns (image : Bytes) (hs w : List ℕ) (o : Bytes) (r : Result Ran Refusal) (w' : List ℕ) (o' : Bytes) : Type 0 where
  pub answer : r ≡ outcome_answer (run_outcome image hs (length w) (length o))
  pub work : w' ≡ work_after w
  pub output : o' ≡ outcome_into (run_outcome image hs (length w) (length o)) o
