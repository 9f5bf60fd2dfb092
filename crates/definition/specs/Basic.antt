-- What every other definition is written with.
use Rattle.std.specs.Prelude.{ℕ, Bool, true, false, List, get_or}

-- the bytes of a record, a name or a literal
abbrev pub Bytes : Type 0
Bytes = List ℕ

-- the byte at an offset, 0 past the end
abbrev pub byte_at : Bytes → ℕ → ℕ
byte_at b i = get_or b i 0

-- a choice by a test
abbrev pub pick : {A : Type 0} → Bool → A → A → A
pick true x y = x
pick false x y = y

-- both tests
abbrev pub both : Bool → Bool → Bool
both true b = b
both false b = false
