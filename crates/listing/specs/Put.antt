-- Text put into an output at an offset: stored where there is room.
use Rattle.std.specs.Prelude.{ℕ, ◌+◌, ◌≤◌, ◌≡◌, length}
use Rattle.std.proofs.lemmas.List.Edits.{sets}
use Rattle.definition.specs.Basic.{Bytes}
use Rattle.listing.specs.declared.text.Writer.{Writer}

-- more than the text of each byte of an image
abbrev pub per_byte : ℕ
per_byte = 512

-- a text was put: what does not fit is cut off, and the output is full then
pub record Puts (s s' : Writer) (text : Bytes) : Type 0 where
  pub stored : s'.output.now ≡ sets s.output.now s.at text
  pub fits : s.at + length text ≤ length s.output.now → s'.at ≡ s.at + length text
  pub full : length s.output.now ≤ s.at + length text → s'.at ≡ length s.output.now
  pub same : s'.output.ghost_name ≡ s.output.ghost_name
