-- What the methods of the pass ask of what they are lent, and what they do to it.
use Rattle.std.specs.Prelude.{ℕ, ◌+◌, ◌-◌, ◌≡◌, length}
use Rattle.definition.specs.Basic.{Bytes}
use Rattle.definition.specs.Walk.{Go}
use Rattle.records.specs.Naming as naming
use Rattle.records.specs.Naming.{look_up}
use Rattle.field.specs.Layout.{len, content}
use Rattle.field.specs.declared.Field.{Field}
use Rattle.field.specs.declared.fields.Fields.{Fields}
use Rattle.trace.specs.Pass.{Standing, Passes, Anything, ReadsNodes, walk_nodes}
use Rattle.trace.specs.declared.pass.Namer.{Namer}

-- all stands well, and the log has room for so many bytes of the tree
abbrev pub Stands : Bytes → Bytes → ℕ → Namer → ℕ → Type 0
Stands tree before level s size = Standing tree before level s.table.now s.log.now s.count size

-- and for those of a field
abbrev pub StandsAt : Field → Bytes → ℕ → Namer → Type 0
StandsAt f before level s = Stands f.bytes.now before level s (3 + len f.bytes.now f.at)

-- which slices are lent
abbrev pub slices : Namer → ℕ × ℕ
slices s = (s.table.ghost_name, s.log.ghost_name)

-- what was done is the names' walk, in the same slices
pub record Names {A : Type 0} (tree before : Bytes) (level : ℕ) (R : A → Type 0) (k : A → Go naming.Names) (size : ℕ) (s s' : Namer) : Type 0 where
  pub passes : Passes tree before level R k size s.table.now s'.table.now s.log.now s'.log.now s.count s'.count
  pub table : length s'.table.now ≡ length s.table.now
  pub log : length s'.log.now ≡ length s.log.now
  pub same : slices s' ≡ slices s

-- what was done at a field: R says what stands there, k is its walk
abbrev pub NamesAt : {A : Type 0} → Field → (Bytes → ℕ → A → Type 0) → (A → Go naming.Names) → Bytes → ℕ → Namer → Namer → Type 0
NamesAt f R k before level = Names f.bytes.now before level (R f.bytes.now f.at) k (3 + len f.bytes.now f.at)

-- what was done at an Identifier: it was looked up, whatever stands there
abbrev pub LogsAt : Field → Bytes → ℕ → Namer → Namer → Type 0
LogsAt f before level = Names f.bytes.now before level Anything (λ _. look_up f.at (content f.bytes.now f.at)) 4

-- what was done over fields in a row
abbrev pub NamesRow : Fields → Bytes → ℕ → Namer → Namer → Type 0
NamesRow f before level = Names f.bytes.now before level (ReadsNodes f.bytes.now f.at f.end) walk_nodes (f.end - f.at)
