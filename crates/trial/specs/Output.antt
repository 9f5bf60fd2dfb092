-- What a trial run writes: nine bytes for each global up to the highest index that main names.
use Rattle.std.specs.Prelude.{ℕ, zero, suc, ◌-◌, ◌/◌, ◌%◌, ◌^◌, true, false, [], ◌∷◌, ◌++◌, ℤ, pos, negsuc, nat_lt, slice_index_or, Option, Some as some, None as none}
use Rattle.std.specs.Prelude.{Option, Some as some, None as none}
use Rattle.definition.specs.Basic.{Bytes, pick}
use Rattle.definition.specs.Bytecode.{Code}
use Rattle.trial.specs.Value.{Value, integer, boolean, null, Globals}
use Rattle.trial.specs.Run.{Action, push, combine, change, constant, pop, jump_not_truthy, jump, get_global, set_global, return_value, other, action_of}

-- an integer as a number below 2 to the 64th, in two's complement
abbrev pub word_of : ℤ → ℕ
word_of (pos n) = n
word_of (negsuc n) = 2 ^ 64 - 1 - n

-- a number in so many bytes
unfoldable pub bytes_in : ℕ → ℕ → Bytes
bytes_in zero n = []
bytes_in (suc k) n = bytes_in k (n / 256) ++ (n % 256 ∷ [])

-- a kind and a value
abbrev pub cell : ℕ → ℕ → Bytes
cell kind n = kind ∷ bytes_in 8 n

-- 0 unset, 1 integer, 2 boolean, 3 null
abbrev pub cell_of : Option Value → Bytes
cell_of none = cell 0 0
cell_of (some (integer z)) = cell 1 (word_of z)
cell_of (some (boolean true)) = cell 2 1
cell_of (some (boolean false)) = cell 2 0
cell_of (some null) = cell 3 0

-- as many globals as an instruction's action and operand name, and no fewer than before
abbrev pub names_as : ℕ → ℕ → Action → ℕ
names_as n k (push v) = n
names_as n k (combine o) = n
names_as n k (change o) = n
names_as n k constant = n
names_as n k pop = n
names_as n k jump_not_truthy = n
names_as n k jump = n
names_as n k get_global = pick (nat_lt k n) n (suc k)
names_as n k set_global = pick (nat_lt k n) n (suc k)
names_as n k return_value = n
names_as n k other = n

-- one more than the highest index that code names, 0 if it names none
unfoldable pub named_globals : Code → ℕ
named_globals [] = 0
named_globals (i ∷ c) = names_as (named_globals c) i.a (action_of i)

-- the first so many globals
unfoldable pub shown : ℕ → Globals → Bytes
shown zero g = []
shown (suc n) g = shown n g ++ cell_of (slice_index_or g n none)
