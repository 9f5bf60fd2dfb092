-- Text put into an output at an offset: stored where there is room, counted always.
use Rattle.std.specs.Prelude.{ℕ, ◌+◌, ◌≤◌, ◌≡◌, length}
use Rattle.std.proofs.lemmas.List.Edits.{sets}
use Rattle.definition.specs.Basic.{Bytes}

-- a bound on every text, so that its length can be counted
abbrev pub text_limit : ℕ
text_limit = 1099511627776

-- so many bytes more can be counted
abbrev pub Room : ℕ → ℕ → Type 0
Room most at = at + most ≤ text_limit

-- a text was put, of at most so many bytes: stores past the end of the output do nothing
pub record PutsAt (most : ℕ) (before after : Bytes) (at next : ℕ) (text : Bytes) : Type 0 where
  pub stored : after ≡ sets before at text
  pub counted : next ≡ at + length text
  pub short : next ≤ at + most
