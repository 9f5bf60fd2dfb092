-- What the methods of a scope do to the code area and the state that are lent to them.
use Rattle.std.specs.Prelude.{ℕ, ◌≡◌, Result, Ok}
use Rattle.definition.specs.declared.reason.Refusal.{Refusal}
use Rattle.definition.specs.Walk.{Res, on, Go}
use Rattle.scope.specs.Machine.{patch}
use Rattle.scope.specs.View.{View, Done, Jumped}
use Rattle.scope.specs.Walked.{walked}
use Rattle.scope.specs.declared.lent.Scope.{Scope}

-- a step, which goes on in the state that it leaves, or is refused in it
pub record Emits (s t : Scope) (r : Result (Unit {0}) Refusal) (k : Go View) : Type 0 where
  pub done : Done s.code.now t.code.now (Ok s.state) (walked r t.state) k
  pub same : t.code.ghost_name ≡ s.code.ghost_name

-- a jump, which answers its position
pub record Jumps (s t : Scope) (r : Result ℕ Refusal) (k : View → Res View ℕ) : Type 0 where
  pub jumped : Jumped s.code.now t.code.now (Ok s.state) r t.state k
  pub same : t.code.ghost_name ≡ s.code.ghost_name

-- the jump at a position is patched, which can't be refused
abbrev pub Patches : ℕ → Scope → Scope → Type 0
Patches at s t = Emits s t (Ok tt) (λ v. on tt (patch at v))
