-- The names that a tree defines, as the table area has them behind those of the session, and their fields as they are stored.
use Rattle.std.specs.Prelude.{ℕ, ◌+◌, ◌-◌, ◌≤◌, ◌<◌, ◌≡◌, List, length, get_or, take}
use Rattle.std.proofs.lemmas.List.Edits.{sets}
use Rattle.definition.specs.Basic.{Bytes}
use Rattle.definition.specs.Session.{names_bytes}
use Rattle.symbol_table.specs.Layout.{back, global_name, GlobalStands}

-- bytes are stored at an offset, and the offset behind them comes back
pub record Appends (xs : Bytes) (at : ℕ) (e e' : Bytes) (r : ℕ) : Type 0 where
  pub session : e' ≡ sets e at xs
  pub end : r ≡ at + length xs

-- a global's number stands for a name, of the session's own or of the tree, and behind the session's own there is room for it
pub record HasName (tree e : Bytes) (at v : ℕ) : Type 0 where
  pub names : ℕ
  pub behind : names ≤ at
  pub stands : GlobalStands tree (take names e) v
  pub room : at + (3 + length (global_name tree (take names e) v)) ≤ length e

-- the names of n globals from the k-th on, the latest first; `names` are the session's bytes up to the end of its own
abbrev pub later_names : Bytes → Bytes → List ℕ → ℕ → ℕ → List Bytes
later_names tree names t k n = back (global_name tree names) t (1 + k) n

-- the fields of the globals from an index up to another, the first one first
abbrev pub later_fields : Bytes → Bytes → List ℕ → ℕ → ℕ → Bytes
later_fields tree names t from to = names_bytes (later_names tree names t from (to - from))

-- these globals have whole names
pub record LaterNames (tree names : Bytes) (t : List ℕ) (from to : ℕ) : Type 0 where
  pub order : from ≤ to
  pub within : to < length t
  pub each : (k : ℕ) → from ≤ k → k < to → GlobalStands tree names (get_or t (1 + k) 0)
