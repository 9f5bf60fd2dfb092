-- What going over a chunk, judging and proposing keep of what they are lent.
use Rattle.std.specs.Prelude.{ℕ, ◌≡◌, length}
use Rattle.heights.specs.declared.chunk.Marks.{Marks}
use Rattle.heights.specs.declared.image.Judging.{Judging}
use Rattle.heights.specs.declared.propose.Proposer.{Proposer}

-- which slices are lent
abbrev pub slices : Judging → ℕ × ℕ
slices s = (s.output.ghost_name, s.marks.ghost_name)

-- the slices stay as long as they are
pub record Lent (s s' : Judging) : Type 0 where
  pub output : length s'.output.now ≡ length s.output.now
  pub marks : length s'.marks.now ≡ length s.marks.now
  pub same : slices s' ≡ slices s

-- a proposer's
abbrev pub lists : Proposer → ℕ × ℕ
lists s = (s.heights.ghost_name, s.marks.ghost_name)

pub record Lends (s s' : Proposer) : Type 0 where
  pub heights : length s'.heights.now ≡ length s.heights.now
  pub marks : length s'.marks.now ≡ length s.marks.now
  pub same : lists s' ≡ lists s

-- the marks of a chunk
pub record Keeps (s s' : Marks) : Type 0 where
  pub levels : length s'.levels.now ≡ length s.levels.now
  pub code : s'.code ≡ s.code
  pub same : s'.levels.ghost_name ≡ s.levels.ghost_name
