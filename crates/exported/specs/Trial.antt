-- What the exported trial run promises.
use Rattle.std.specs.Prelude.{ℕ, ◌%◌, List, ◌≡◌, length, Ok, Err, Result}
use Rattle.definition.specs.Basic.{Bytes}
use Rattle.definition.specs.Answer.{Answer}
use Rattle.trial.specs.Value.{Globals}
use Rattle.trial.specs.Call.{Outcome, run_outcome, outcome_answer, outcome_into, work_after}
use Rattle.definition.specs.declared.reason.Refusal.{Refusal}
use Rattle.trial.specs.declared.Ran.{Ran}
use Rattle.exported.specs.Packed.{half_bound, Packs}
use Rattle.exported.specs.Framed.{paired, Pairs}

-- the globals written and the steps in one length
abbrev pub ran_answer : Result Ran Refusal → Answer
ran_answer (Ok a) = Ok (paired a.globals a.steps)
ran_answer (Err r) = Err r

-- a trial run: answer, work area and output are the definition's, and the low half is the globals and the steps
pub record RunsPacked (image : Bytes) (hs w : List ℕ) (o : Bytes) (r : ℕ) (w' : List ℕ) (o' : Bytes) : Type 0 where
  pub answer : Packs (ran_answer (outcome_answer (run_outcome image hs (length w) (length o)))) r
  pub parts : (n : ℕ) (g : Globals) (k : ℕ) → run_outcome image hs (length w) (length o) ≡ Outcome.ran n g k → Pairs n k (r % half_bound)
  pub work : w' ≡ work_after w
  pub output : o' ≡ outcome_into (run_outcome image hs (length w) (length o)) o
