-- What going over the tokens of a text gives.
use Rattle.std.specs.Prelude.{[], ◌≡◌, Option, MatchOption, Err, length}
use Rattle.definition.specs.Basic.{byte_at}
use Rattle.text.specs.Kind.{number_of}
use Rattle.text.specs.Token.{token}
use Rattle.text.specs.Scan.{found, next_at}
use Rattle.text.specs.Seen.{ahead, next_of}
use Rattle.text.specs.declared.scan.Token as piece
use Rattle.text.specs.declared.scan.Stop.{Stop}
use Rattle.text.specs.declared.tokens.Tokens.{Tokens}

-- the next token, and the others behind it
pub record NextIs (s : Tokens) (x : piece.Token) (t : Tokens) : Type 0 where
  pub is : found x.start x.end (token (number_of x.kind) []) ≡ ahead (next_at (byte_at s.text.now) (length s.text.now) s.at)
  pub at : t.at ≡ x.end
  pub text : t.text.now ≡ s.text.now

-- none is next
pub record Stopped (s : Tokens) : Type 0 where
  pub why : Stop
  pub is : next_of (Err why) ≡ ahead (next_at (byte_at s.text.now) (length s.text.now) s.at)

-- a call that gives none changes nothing
pub record Ended (s t : Tokens) : Type 0 where
  pub stopped : Stopped s
  pub same : t ≡ s

-- the tokens before a call, what it gives, and the tokens after
abbrev pub Gives : Tokens → Option piece.Token → Tokens → Type 0
Gives s r t = MatchOption r (Ended s t) (λ x. NextIs s x t)
