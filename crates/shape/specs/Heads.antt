-- What going over the fields of a tree in the order of their heads gives.
use Rattle.std.specs.Prelude.{ℕ, ◌≡◌, ◌+◌, ◌≤◌, ◌<◌, length, Option, MatchOption}
use Rattle.definition.specs.Basic.{byte_at}
use Rattle.shape.specs.Fields.{own_end}
use Rattle.shape.specs.declared.heads.Heads.{Heads}

-- the next field: at its offset, its head in the tree; the one behind its own bytes is next
pub record NextIs (s : Heads) (at : ℕ) (t : Heads) : Type 0 where
  pub here : at ≡ s.at
  pub head : s.at + 3 ≤ length s.tree.now
  pub behind : t.at ≡ own_end (byte_at s.tree.now) s.at
  pub tree : t.tree.now ≡ s.tree.now

-- none: less than a head is left
pub record Ended (s : Heads) : Type 0 where
  pub short : length s.tree.now < s.at + 3

-- the state before a call, what it gives, and the state after
abbrev pub Gives : Heads → Option ℕ → Heads → Type 0
Gives s r t = MatchOption r (Ended s) (λ at. NextIs s at t)
