-- The fields of a tree one behind the other: a field with children is entered behind its head, one without is passed.
use Rattle.std.specs.Prelude.{ℕ, ◌+◌, Bool, leb}
use Rattle.definition.specs.Basic.{pick, both}
use Rattle.definition.specs.Tag.{tag_integer, tag_string}
use Rattle.definition.specs.Field.{head}
use Rattle.tree.specs.Grammar.{is_leaf}

-- the tags of literals: an integer, a boolean, a string
abbrev pub is_literal : ℕ → Bool
is_literal t = both (leb tag_integer t) (leb t tag_string)

module _ (byte : ℕ → ℕ) where
  -- the offset after the bytes that are the field's own: its head, and its content where it has no children
  abbrev pub own_end : ℕ → ℕ
  own_end at = pick (is_leaf (byte at)) (at + 3 + (head byte at).len) (at + 3)

  -- which of them are a literal's content
  abbrev pub own_literal : ℕ → ℕ → Bool
  own_literal at i = both (is_literal (byte at)) (leb (at + 3) i)
