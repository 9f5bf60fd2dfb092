-- A field: a one-byte tag, a two-byte length, then its content. Numbers are big-endian.
use Rattle.std.specs.Prelude.{ℕ, zero, suc, ◌+◌, ◌*◌, ◌/◌, ◌%◌, Bool, [], ◌∷◌, length, leb, eqb}
use Rattle.definition.specs.Basic.{Bytes, both}
use Rattle.definition.specs.Limit.{name_limit}
use Rattle.definition.specs.Tag.{tag_name}

-- a field of a tag and a content
abbrev pub field : ℕ → Bytes → Bytes
field t c = t ∷ length c / 256 % 256 ∷ length c % 256 ∷ c

-- a field's first three bytes
pub record Head : Type 0 where
  pub tag : ℕ
  pub len : ℕ

abbrev pub tagged : ℕ → Head → Bool
tagged t h = eqb h.tag t

-- the head of a name of at least so many bytes
abbrev pub name_head : ℕ → Head → Bool
name_head least h = both (tagged tag_name h) (both (leb least h.len) (leb h.len name_limit))

-- a whole field of that head, at an offset before `end`
abbrev pub fits : ℕ → ℕ → Head → Bool
fits at end h = both (leb (at + 3) end) (leb (at + 3 + h.len) end)

module _ (byte : ℕ → ℕ) where
  -- so many bytes from an offset on
  abbrev pub bytes : ℕ → ℕ → Bytes
  bytes at zero = []
  bytes at (suc n) = byte at ∷ bytes (at + 1) n

  -- the head at an offset
  abbrev pub head : ℕ → Head
  head at = record { tag = byte at; len = byte (at + 1) * 256 + byte (at + 2) }
