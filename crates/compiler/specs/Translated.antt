-- Before and after the walk.
use Rattle.std.specs.Prelude.{ℕ, ◌+◌, ◌-◌, ◌≤◌, ◌≡◌, List, length, replicate, Ok, Err}
use Rattle.std.proofs.lemmas.List.Edits.{sets}
use Rattle.definition.specs.Basic.{Bytes}
use Rattle.definition.specs.Limit.{session_size, code_size, constants_limit}
use Rattle.definition.specs.Session.{Session, session_bytes}
use Rattle.definition.specs.Valid.{ValidSession}
use Rattle.definition.specs.Walk.{on}
use Rattle.definition.specs.Compiler.{State}
use Rattle.definition.specs.Compile as Definition
use Rattle.definition.specs.declared.reason.Refusal.{Refusal}
use Rattle.scope.specs.View.{view}
use Rattle.scope.specs.Machine.{chunk}
use Rattle.scope.specs.declared.State as Memory
use Rattle.scope.specs.Walked.{Walked}
use Rattle.refinement.specs.Relation.{Compiled}
use Rattle.bytecode.specs.declared.SessionLayout.{SessionLayout}
use Rattle.step.specs.Memory.{rest, symbols_of, FineState}
use Rattle.compiler.specs.Result.{Result, refused_result, step_result, call_result}
use Rattle.compiler.specs.Stage.{layout_at}

-- the numbers of a layout are within the limits, so that the compiler's state holds them
pub record Small (l : SessionLayout) : Type 0 where
  pub constants : l.constants ≤ constants_limit
  pub names : l.names_end ≤ session_size
  pub pool : l.pool_end ≤ session_size

-- the compiler's state as the walk starts: an empty chunk
abbrev pub start_state : SessionLayout → Memory.State
start_state l = record { chunk = chunk 0 0 0 0; level = 0; constants = l.constants; names_end = l.names_end; pool_end = l.pool_end }

-- the length of the image, from where main code and pool end
abbrev pub image_length : SessionLayout → Memory.State → ℕ
image_length l s = 6 + s.chunk.len + (s.pool_end - (l.names_end + 3))

-- the walk went through: what code area, session and table area hold, for a session and a state of the definition
pub record Translated (tree c b : Bytes) (t : List ℕ) (l : SessionLayout) (s : Memory.State) : Type 0 where
  pub session : Session
  pub state : State
  pub valid : ValidSession session
  pub layout : l ≡ layout_at session
  pub compiled : Compiled session (session_bytes session) code_size state (view c b (symbols_of tree (rest b t) s) s)
  pub fine : FineState tree (rest b t) s
  pub level : s.level ≡ 0

-- the result that the definition gives at the walk's end, for an output
abbrev pub final_result : {tree c b : Bytes} {t : List ℕ} {l : SessionLayout} {s : Memory.State} → Translated tree c b t l s → Bytes → Result
final_result p o = step_result (session_bytes p.session) o (Definition.finish (length o) p.session (on tt p.state))

-- the walk went through: what is there, and what the call's result is
pub record Through (tree e c' e' : Bytes) (t' : List ℕ) (l : SessionLayout) (s : Memory.State) : Type 0 where
  pub translated : Translated tree c' e' t' l s
  pub same : (o : Bytes) → call_result tree e o ≡ final_result translated o

-- the walk stopped: zeros restore the session, and the refusal is the call's result
pub record Halted (tree e e' : Bytes) (l : SessionLayout) (q : Refusal) (s : Memory.State) : Type 0 where
  pub low : l.pool_end ≤ s.pool_end
  pub high : s.pool_end ≤ session_size
  pub restores : sets e' l.pool_end (replicate (s.pool_end - l.pool_end) 0) ≡ e
  pub same : (o : Bytes) → call_result tree e o ≡ refused_result e o q

-- how the walk ended
abbrev pub WalkEnded : Bytes → Bytes → Bytes → Bytes → List ℕ → SessionLayout → Walked → Type 0
WalkEnded tree e c' e' t' l (Ok s) = Through tree e c' e' t' l s
WalkEnded tree e c' e' t' l (Err z) = Halted tree e e' l z.refusal z.state
