-- The fields in some bytes, by their offsets.
use Rattle.std.specs.Prelude.{ℕ, ◌+◌, ◌≤◌, length, take, drop, Option, Some, None}
use Rattle.definition.specs.Basic.{Bytes, byte_at, pick}
use Rattle.definition.specs.Field.{head, fits}

-- the tag of the field at an offset
abbrev pub tag : Bytes → ℕ → ℕ
tag tree at = byte_at tree at

-- the length of its content
abbrev pub len : Bytes → ℕ → ℕ
len tree at = (head (byte_at tree) at).len

-- and of a field that stands whole before an end
abbrev pub len_before : Bytes → ℕ → ℕ → Option ℕ
len_before tree at end = pick (fits at end (head (byte_at tree) at)) (Some (len tree at)) None

-- the offset after it
abbrev pub after : Bytes → ℕ → ℕ
after tree at = at + 3 + len tree at

-- its content
abbrev pub content : Bytes → ℕ → Bytes
content tree at = take (len tree at) (drop (at + 3) tree)

-- a whole field stands there
pub record Whole (tree : Bytes) (at : ℕ) : Type 0 where
  pub fits : after tree at ≤ length tree
