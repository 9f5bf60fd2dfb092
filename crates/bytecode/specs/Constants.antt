-- What going over the constants of a pool gives.
use Rattle.std.specs.Prelude.{ℕ, ◌≡◌, ◌+◌, ◌<◌, Option, MatchOption, length}
use Rattle.definition.specs.Basic.{byte_at}
use Rattle.definition.specs.Field.{head}
use Rattle.bytecode.specs.declared.constants.Constants.{Constants}
use Rattle.bytecode.specs.declared.constants.PoolConstants.{PoolConstants}
use Rattle.bytecode.specs.declared.span.Span.{Span}

-- the next constant: at its offset, and the one behind it is next
pub record NextIs (s : Constants) (at after : ℕ) (t : Constants) : Type 0 where
  pub here : at ≡ s.at
  pub before : s.at < s.end
  pub sized : after ≡ s.at + 3 + (head (byte_at s.image.now) s.at).len
  pub behind : t.at ≡ after
  pub image : t.image.now ≡ s.image.now
  pub end : t.end ≡ s.end

-- none: at the end, or before less than a head
pub record Ended (s : Constants) : Type 0 where
  pub short : s.at < s.end → length s.image.now < s.at + 3

-- the state before a call, what it gives, and the state after
abbrev pub Gives : Constants → Option (ℕ × ℕ) → Constants → Type 0
Gives s r t = MatchOption r (Ended s) (λ x. NextIs s x.0 x.1 t)

-- the next constant, as a part of the bytes
pub record SpanIs (s : PoolConstants) (x : Span) (t : PoolConstants) : Type 0 where
  pub bytes : x.bytes.now ≡ s.constants.image.now
  pub is : NextIs s.constants x.start x.end t.constants

-- and what a pool gives
abbrev pub GivesSpan : PoolConstants → Option Span → PoolConstants → Type 0
GivesSpan s r t = MatchOption r (Ended s.constants) (λ x. SpanIs s x t)
