-- Going over the tokens of a text: each ends behind where it was looked for, and one that is none ends it.
use Prim.Native.Nat.{ℕ, ◌≤◌, ◌<◌}
use native.Mathlib.Omega.{arith}
use mathlib.Core.List.{[]}
use mathlib.Core.Path.{◌≡◌, refl, subst}
use lib.ListN.{length}
use Rattle.std.specs.Prelude.{Option, Some, Result, Ok, Err}
use Rattle.std.specs.Result.{result_ok}
use Rattle.definition.specs.Basic.{Bytes, byte_at}
use Rattle.text.specs.Kind.{number_of}
use Rattle.text.specs.Token.{token}
use Rattle.text.specs.Scan.{Next, found, next_at, text_limit}
use Rattle.text.specs.Seen.{ahead, next_of}
use Rattle.text.specs.declared.scan.Token as piece
use Rattle.text.specs.declared.scan.Stop.{Stop}
use Rattle.text.specs.declared.tokens.Tokens.{Tokens}
use Rattle.text.specs.declared.kind.Kind.TheVariants as kinds
use Rattle.text.specs.Parts.{end_of, Sees}
use Rattle.text.specs.Tokens.{NextIs, Ended}
use Rattle.text.proofs.RowAt.{sees_found, sees_ended}
use Rattle.text.proofs.Enough.{never, Moves, moves_next}

-- where a token that is next ends
pub record Ends (at n : ℕ) (t : piece.Token) : Type 0 where
  pub behind : at < t.end
  pub inside : t.end ≤ n
  pub early : t.end ≤ text_limit

pub token_ends : {at n : ℕ} {x : Next} {t : piece.Token} → Moves at n x → found t.start t.end (token (number_of t.kind) []) ≡ ahead x → Ends at n t
token_ends {t = t} (Moves.found {start = start} {end = end} {t = token j b} p q l) e = let g : end ≡ t.end = cc in record { behind = omega arith; inside = omega arith; early = omega arith }
token_ends (Moves.large {start} {b}) e = never (cc)
token_ends (Moves.broken {start}) e = never (cc)
token_ends (Moves.finished {end}) e = never (cc)

-- what `ok` leaves of an answer
pub is_next : (r : Result piece.Token Stop) {o : Option piece.Token} {t : piece.Token} (x : Next) → next_of r ≡ ahead x → o ≡ result_ok r → o ≡ Some t → found t.start t.end (token (number_of t.kind) []) ≡ ahead x
is_next (Ok u) x e o p = cc
is_next (Err z) x e o p = never (cc)

-- where it ends
pub next_ends : (text : Bytes) (at : ℕ) → at ≤ length text → (r : Result piece.Token Stop) {o : Option piece.Token} {t : piece.Token} → next_of r ≡ ahead (next_at (byte_at text) (length text) at) → o ≡ result_ok r → o ≡ Some t → Ends at (length text) t
next_ends text at h r e o p = token_ends (moves_next (byte_at text) (length text) at h) (is_next r _ e o p)

-- a token that was given is next in the text
module _ {text : Bytes} {s t : Tokens} (w : s.text.now ≡ text) where
  pub given : {x : piece.Token} → NextIs s x t → next_of (Ok x) ≡ ahead (next_at (byte_at text) (length text) s.at)
  given {x} n = subst (λ u. next_of (Ok x) ≡ ahead (next_at (byte_at u) (length u) s.at)) w n.is

  -- what the writing sees of it, and of the text's end
  pub given_seen : {at : ℕ} {x : piece.Token} → s.at ≡ at → at ≤ end_of text → NextIs s x t → Sees text at x
  given_seen {at} {x} a h n = sees_found text at h (subst (λ i. next_of (Ok x) ≡ ahead (next_at (byte_at text) (length text) i)) a (given n)) refl

  pub end_seen : {at : ℕ} → s.at ≡ at → at ≤ end_of text → Ended s t → Sees text at (record { kind = kinds.Ended; start = end_of text; end = end_of text })
  end_seen {at} a h e =
      sees_ended text at h {y = Err e.stopped.why}
      (subst (λ i. next_of (Err e.stopped.why) ≡ ahead (next_at (byte_at text) (length text) i)) a (subst (λ u. next_of (Err e.stopped.why) ≡ ahead (next_at (byte_at u) (length u) s.at)) w e.stopped.is))
      refl refl
