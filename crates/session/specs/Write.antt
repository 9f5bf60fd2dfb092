-- What is written into lent bytes.
use Rattle.std.specs.Prelude.{ℕ, ◌+◌, ◌-◌, ◌/◌, ◌%◌, [], ◌∷◌, ◌++◌, length, take}
use Rattle.std.proofs.lemmas.List.Edits.{sets}
use Rattle.definition.specs.Basic.{Bytes}
use Rattle.definition.specs.Field.{field}
use Rattle.definition.specs.SymbolTable.{builtins}
use Rattle.definition.specs.Session.{Words, six, listed, words_field}
use Rattle.definition.specs.Tag.{tag_names, tag_pool}

-- a field's first three bytes, of its tag and the length of its content
abbrev pub heading : ℕ → ℕ → Bytes
heading t n = t ∷ n / 256 % 256 ∷ n % 256 ∷ []

-- a session with the head of the names, which begin and end at these offsets, and the pool behind them
abbrev pub finished : ℕ → ℕ → Bytes → Bytes → Bytes
finished start end pool s = sets (sets s start (heading tag_names (end - (start + 3)))) end (field tag_pool pool)

-- the field of the six words in front of the bytes before an offset
abbrev pub raised : ℕ → Bytes → Bytes
raised end s = sets s 0 (words_field (listed builtins) ++ take end s)

-- a session of these words that is written back with three fields: the names end at an offset, and the pool is behind them
abbrev pub written_back : Words → ℕ → Bytes → Bytes → Bytes
written_back six end pool s = finished 45 (end + 45) pool (raised end s)
written_back (listed ws) end pool s = finished (length (words_field (listed ws))) end pool s
