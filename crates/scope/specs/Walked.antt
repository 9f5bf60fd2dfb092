-- The walk so far: it goes on in a state, or has stopped at a refusal, in the state where it stopped.
use Rattle.std.specs.Prelude.{Result, Ok, Err}
use Rattle.definition.specs.declared.reason.Refusal.{Refusal}
use Rattle.scope.specs.declared.State.{State}

-- where a walk has stopped: the refusal, and the state then
pub record Stopped : Type 0 where
  pub refusal : Refusal
  pub state : State

abbrev pub Walked : Type 0
Walked = Result State Stopped

abbrev pub stopped : Refusal → State → Stopped
stopped r s = record { refusal = r; state = s }

-- the walk after a step that answered this, and left this state
abbrev pub walked : {A : Type 0} → Result A Refusal → State → Walked
walked (Ok a) s = Ok s
walked (Err r) s = Err (stopped r s)
