-- What the methods of the walk ask of the memory lent to them, and what they do to it.
use Rattle.std.specs.Prelude.{ℕ, ◌≡◌, Ok, Result}
use Rattle.definition.specs.Basic.{Bytes}
use Rattle.definition.specs.Walk.{Go}
use Rattle.definition.specs.declared.reason.Refusal.{Refusal}
use Rattle.field.specs.declared.Field.{Field}
use Rattle.field.specs.declared.fields.Fields.{Fields}
use Rattle.scope.specs.View.{View}
use Rattle.scope.specs.Walked.{walked}
use Rattle.step.specs.Memory.{Rest, rest, Walks}
use Rattle.walk.specs.Parts.{Standing}
use Rattle.walk.specs.declared.Compiler.{Compiler}

-- the slices beside the code area
abbrev pub beside : Compiler → Rest
beside c = rest c.session.now c.table.now

-- all stands well for a walk on from its state
abbrev pub Stands : Bytes → Compiler → Type 0
Stands tree c = Standing tree (beside c) c.scope.now.state

-- which memory is lent
abbrev pub names : Compiler → ℕ × ℕ × ℕ × ℕ
names c = (c.session.ghost_name, c.table.ghost_name, c.scope.ghost_name, c.scope.now.code.ghost_name)

-- what was done is the machine's step, on the same memory
pub record Compiles {A : Type 0} (tree : Bytes) (R : A → Type 0) (k : A → Go View) (c c' : Compiler) (r : Result (Unit {0}) Refusal) : Type 0 where
  pub walks : Walks tree R k c.scope.now.code.now c'.scope.now.code.now (beside c) (beside c') (Ok c.scope.now.state) (walked r c'.scope.now.state)
  pub same : names c' ≡ names c

-- what was done at a field: R says what stands there
abbrev pub CompilesAt : {A : Type 0} → Field → (Bytes → ℕ → A → Type 0) → (A → Go View) → Compiler → Compiler → Result (Unit {0}) Refusal → Type 0
CompilesAt f R = Compiles f.bytes.now (R f.bytes.now f.at)

-- what was done over fields in a row
abbrev pub CompilesRow : {A : Type 0} → Fields → (Bytes → ℕ → ℕ → A → Type 0) → (A → Go View) → Compiler → Compiler → Result (Unit {0}) Refusal → Type 0
CompilesRow f R = Compiles f.bytes.now (R f.bytes.now f.at f.end)
