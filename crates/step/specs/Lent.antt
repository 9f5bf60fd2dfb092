-- What the steps promise of the code area and the state that are lent as one.
use Rattle.std.specs.Prelude.{ℕ, ◌≡◌, List, Ok, Result}
use Rattle.definition.specs.Basic.{Bytes}
use Rattle.definition.specs.Walk.{Res, Go}
use Rattle.definition.specs.declared.reason.Refusal.{Refusal}
use Rattle.field.specs.Layout.{content}
use Rattle.scope.specs.View.{View}
use Rattle.scope.specs.Machine.{load}
use Rattle.scope.specs.Walked.{walked}
use Rattle.scope.specs.declared.State.{State}
use Rattle.scope.specs.declared.lent.Scope.{Scope}
use Rattle.step.specs.Memory.{Rest, rest, FineState}
use Rattle.step.specs.Contract.{Steps, StepsBeside, Adds, Enters, Leaves, Closed}

-- a step on code and session, whatever table area stands well beside them
pub record StepsOn (tree : Bytes) (k : Go View) (s t : Scope) (e e' : Bytes) (r : Result (Unit {0}) Refusal) : Type 0 where
  pub beside : StepsBeside tree k s.code.now t.code.now e e' (Ok s.state) (walked r t.state)
  pub same : t.code.ghost_name ≡ s.code.ghost_name

-- a constant more in the session, and its index, where the code stays
pub record AddsOn (k : View → Res View ℕ) (s t : Scope) (e e' : Bytes) (r : Result ℕ Refusal) : Type 0 where
  pub adds : Adds k e e' s.state t.state r
  pub code : t.code.now ≡ s.code.now
  pub same : t.code.ghost_name ≡ s.code.ghost_name

-- a lookup, and a load
pub record LoadsOn (tree : Bytes) (p : ℕ) (s t : Scope) (m m' : Rest) (r : Result (Unit {0}) Refusal) : Type 0 where
  pub steps : Steps tree (load p (content tree p)) s.code.now t.code.now m m' (Ok s.state) (walked r t.state)
  pub same : t.code.ghost_name ≡ s.code.ghost_name

-- a function is entered, whatever session stands beside the table area
pub record EntersOn (tree : Bytes) (p : ℕ) (x x' : List ℕ) (s t : Scope) (r : Result (Unit {0}) Refusal) : Type 0 where
  pub enters : (e : Bytes) → FineState tree (rest e x) s.state → Enters tree p s.code.now (rest e x) (rest e x') (Ok s.state) (walked r t.state)
  pub code : t.code.now ≡ s.code.now
  pub same : t.code.ghost_name ≡ s.code.ghost_name

-- the function whose chunk is in work is left, whatever tree the table area stands well for; `o` is the state before it was entered
pub record LeavesOn (p n : ℕ) (s t : Scope) (e e' : Bytes) (x : List ℕ) (o : State) (r : Result (Unit {0}) Refusal) : Type 0 where
  pub leaves : (tree : Bytes) → FineState tree (rest e x) s.state → Leaves tree p n s.code.now t.code.now (rest e x) (rest e' x) o (Ok s.state) (walked r t.state)
  pub same : t.code.ghost_name ≡ s.code.ghost_name

-- a function whose code is complete is closed
pub record Closes (p n : ℕ) (s t : Scope) (e e' : Bytes) (x : List ℕ) (o : State) (r : Result (Unit {0}) Refusal) : Type 0 where
  pub closed : Closed p n s.code.now t.code.now e e' x o s.state (walked r t.state)
  pub same : t.code.ghost_name ≡ s.code.ghost_name
