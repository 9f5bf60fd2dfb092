-- What the public functions promise, and what the three conditions say of any call and of any series of calls.
use Rattle.std.specs.Prelude.{ℕ, ◌≤◌, T, true, false, ◌↔◌, ◌≡◌, List, [], ◌∷◌, length, take, drop, Ok, Err}
use Rattle.definition.specs.Basic.{Bytes}
use Rattle.definition.specs.Limit.{session_size, code_size, table_size}
use Rattle.definition.specs.Number
use Rattle.definition.specs.Number.{refusal, is_one_of, lent_numbers, number_of}
use Rattle.definition.specs.Bytecode.{Image, image_bytes}
use Rattle.definition.specs.Session.{Words, six, Session, session_bytes}
use Rattle.definition.specs.Decode.{decoded, malformed, read_handed, read_session}
use Rattle.definition.specs.Valid.{AreBytes}
use Rattle.definition.specs.Compile.{Outcome, enough, compile}
use Rattle.definition.specs.Call.{Lent, Called, call, made, made_words, cleared, request}
use Rattle.definition.specs.Output.{over}
use Rattle.definition.specs.Series.{Call, session_after, lent}
use Rattle.definition.specs.declared.reason.Refusal.{Refusal}
use Rattle.definition.specs.Answer.{Answer}

-- compiling: answer and lent memory are the definition's
pub record Compiles (tree : Bytes) (l : Lent) (r : Answer) (l' : Lent) : Type 0 where
  pub answer : r ≡ (call tree l).answer
  pub lent : l' ≡ (call tree l).lent

-- making a session
pub record Makes (s : Bytes) (r : Answer) (s' : Bytes) : Type 0 where
  pub answer : r ≡ (made s).answer
  pub session : s' ≡ (made s).session

-- making a session with words
pub record MakesWords (s names : Bytes) (r : Answer) (s' : Bytes) : Type 0 where
  pub answer : r ≡ (made_words s names).answer
  pub session : s' ≡ (made_words s names).session

-- a buffer as a call that was not refused made a session in it, of these words
pub data MadeBy (s : Bytes) : Words → Type 0 where
  fresh : (a : Bytes) {r : Answer} → Makes a r s → r ≡ Ok session_size → MadeBy s six
  worded : (a names : Bytes) {r : Answer} {w : Words} {n : ℕ} → AreBytes names → MakesWords a names r s → r ≡ Ok session_size → read_handed names ≡ decoded w n → MadeBy s w

-- both work areas zeroed over their sizes, and as they were beyond
pub record Cleared (l l' : Lent) : Type 0 where
  pub code : l'.code ≡ cleared code_size l.code
  pub table : l'.table ≡ cleared table_size l.table

-- Condition 1 about a call: an answer, or a numbered refusal with its place that leaves session and output as they were
pub data Ended (l : Lent) : Answer → Lent → Type 0 where
  answered : {n : ℕ} {l' : Lent} → n ≤ length l.output → drop n l'.output ≡ drop n l.output → drop session_size l'.session ≡ drop session_size l.session → Cleared l l' → Ended l (Ok n) l'
  refused : {r : Refusal} {l' : Lent} → T (is_one_of lent_numbers (number_of r.reason)) → l'.session ≡ l.session → l'.output ≡ l.output → Cleared l l' → Ended l (Err r) l'
  short : {r : Refusal} {l' : Lent} → number_of r.reason ≡ number_of Number.short_buffer → r.place ≡ 0 → l' ≡ l → Ended l (Err r) l'

-- a series of compile calls that ran: each on the session that those before it left
pub data Ran : Bytes → List Call → List Called → Type 0 where
  none : {s : Bytes} → Ran s [] []
  more : {s : Bytes} {c : Call} {r : Answer} {l' : Lent} {cs : List Call} {xs : List Called} → Compiles c.tree (lent s c) r l' → Ran (session_after s l'.session) cs xs
      → Ran s (c ∷ cs) (record { answer = r; lent = l' } ∷ xs)

-- an image and a session that were written
pub record Wrote (m : Image) (z : Session) (l : Lent) (r : Answer) (l' : Lent) : Type 0 where
  pub length : r ≡ Ok (length (image_bytes m))
  pub output : l'.output ≡ over (image_bytes m) l.output
  pub session : l'.session ≡ over (session_bytes z) l.session

-- a call in a session that reads as z: image and session are the definition's, and a tree is refused exactly when the definition refuses it,
-- with its number and place
pub record ExactIn (tree : Bytes) (z : Session) (l : Lent) (r : Answer) (l' : Lent) : Type 0 where
  pub accepted : (m : Image) → (compile z (request l tree)).outcome ≡ Outcome.accepted m → Wrote m (compile z (request l tree)).session l r l'
  pub refused : (q : Refusal) → ((compile z (request l tree)).outcome ≡ Outcome.refused q) ↔ (r ≡ Err q)

-- no session stands in a buffer that has room for one
pub record NoSession (tree : Bytes) (l : Lent) : Type 0 where
  pub lent : enough (request l tree) ≡ true
  pub place : ℕ
  pub reads : read_session (take session_size l.session) ≡ malformed place

-- Condition 2 about a call: 1 exactly where a buffer is too short, 2 exactly where no session stands, and in a session as the definition says
pub record Exact (tree : Bytes) (l : Lent) (r : Answer) (l' : Lent) : Type 0 where
  pub short : (enough (request l tree) ≡ false) ↔ (r ≡ Err (refusal Number.short_buffer 0))
  pub broken : NoSession tree l ↔ (r ≡ Err (refusal Number.no_session 0))
  pub within : (z : Session) (n : ℕ) → enough (request l tree) ≡ true → read_session (take session_size l.session) ≡ decoded z n → ExactIn tree z l r l'
