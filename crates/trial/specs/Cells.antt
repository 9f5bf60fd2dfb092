-- Values as the work area keeps them: a kind and a word each.
use Rattle.std.specs.Prelude.{◌≡◌, ℕ, suc, ◌+◌, ◌^◌, ◌<◌, true, false, List, [], ◌∷◌, length, slice_index, slice_index_or, Option, Some as some, None as none}
use Rattle.std.specs.Prelude.{Option, Some as some, None as none}
use Rattle.definition.specs.Limit.{globals_limit}
use Rattle.trial.specs.Value.{Value, integer, boolean, null, Globals, signed_of}

-- a kind and a word keep a value; 0 and 0: none
pub data Keeps : ℕ → ℕ → Option Value → Type 0 where
  nothing : Keeps 0 0 none
  number : {w : ℕ} → w < 2 ^ 64 → Keeps 1 w (some (integer (signed_of w)))
  yes : Keeps 2 1 (some (boolean true))
  no : Keeps 2 0 (some (boolean false))
  empty : Keeps 3 0 (some null)

-- where the parts of the work area start: the globals' values, their kinds, the stack's values, their kinds
abbrev pub kinds_at : ℕ
kinds_at = 1024

abbrev pub stack_at : ℕ
stack_at = 2048

abbrev pub stack_kinds_at : ℕ
stack_kinds_at = 3072

-- the numbers of a work area
abbrev pub work_size : ℕ
work_size = 4096

-- the values on a stack
abbrev pub stack_limit : ℕ
stack_limit = 1024

-- a work area keeps a stack of some height
pub data Stacked (w : List ℕ) : ℕ → List Value → Type 0 where
  bottom : Stacked w 0 []
  more : {n : ℕ} {v : Value} {st : List Value} → Keeps (slice_index w (stack_kinds_at + n)) (slice_index w (stack_at + n)) (some v) → Stacked w n st → Stacked w (suc n) (v ∷ st)

-- and the globals
pub record Keeping (w : List ℕ) (g : Globals) : Type 0 where
  pub long : length w ≡ work_size
  pub many : length g ≡ globals_limit
  pub each : (k : ℕ) → k < globals_limit → Keeps (slice_index w (kinds_at + k)) (slice_index w k) (slice_index_or g k none)

pub record KeepsGlobals (w : List ℕ) : Type 0 where
  pub globals : Globals
  pub keeping : Keeping w globals
