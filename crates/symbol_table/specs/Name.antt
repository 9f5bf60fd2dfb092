-- Names as fields: a name is known by the offset of its field in some bytes.
use Rattle.std.specs.Prelude.{ℕ, ◌+◌, ◌*◌, ◌%◌, ◌≤◌, [], ◌∷◌, length}
use Rattle.definition.specs.Basic.{Bytes}
use Rattle.field.specs.Layout.{after}

-- a whole field stands at an offset
abbrev pub Stands : Bytes → ℕ → Type 0
Stands b at = after b at ≤ length b

-- hashes are below this
abbrev pub hash_bound : ℕ
hash_bound = 4294967296

-- a name's bucket is its hash modulo this
abbrev pub buckets : ℕ
buckets = 1024

-- a name's hash, from that of the bytes before
unfoldable pub hash_from : ℕ → Bytes → ℕ
hash_from h [] = h
hash_from h (b ∷ bs) = hash_from ((h * 2654440485 + b) % hash_bound) bs

abbrev pub hash_of : Bytes → ℕ
hash_of n = hash_from 0 n
