-- Conditions 1 and 2 about a call of any kind.
use Rattle.std.specs.Prelude.{ℕ, ◌*◌, ◌/◌, ◌≤◌, true, false, List, ◌↔◌, ◌≡◌, length, take, drop, Err}
use Rattle.definition.specs.Basic.{Bytes}
use Rattle.definition.specs.Limit.{session_size}
use Rattle.definition.specs.Number
use Rattle.definition.specs.Number.{refusal}
use Rattle.definition.specs.Bytecode.{Image}
use Rattle.definition.specs.Session.{Session}
use Rattle.definition.specs.Decode.{decoded, read_session}
use Rattle.definition.specs.Compile.{Outcome, enough}
use Rattle.definition.specs.Call.{Lent, Called, request}
use Rattle.definition.specs.Series.{Call}
use Rattle.definition.specs.declared.reason.Refusal.{Refusal}
use Rattle.compiler.specs.Promise.{Cleared, Ended, Wrote, NoSession, Exact}
use Rattle.records.specs.Records.{compile_records}
use Rattle.records.specs.declared.Record.{Record}
use Rattle.names.specs.Rows.{rows_of}
use Rattle.promises.specs.Mixed.{AnyCall, AnyDone}

-- Condition 1 about a call with records: as a plain call ends; or 18 at 0, session and output as they were and the work areas zeroed
pub data EndedCall (l : Lent) : Called → Type 0 where
  as_plain : {x : Called} → Ended l x.answer x.lent → EndedCall l x
  few : {x : Called} → x.answer ≡ Err (refusal Number.few_records 0) → x.lent.session ≡ l.session → x.lent.output ≡ l.output
      → Cleared l x.lent → EndedCall l x

-- what is lent for records, in places of so many numbers each: written at the front, as it was behind, and as it was where the call is
-- refused
pub record Behind {A : Type 0} (size : ℕ) (before : List A) (x : Called) (count : ℕ) (after : List A) : Type 0 where
  pub room : size * count ≤ length before
  pub stays : drop (size * count) after ≡ drop (size * count) before
  pub refused : (q : Refusal) → x.answer ≡ Err q → (count ≡ 0) × (after ≡ before)

-- a call of any kind that was lent l
pub data EndedAny (l : Lent) : AnyCall → AnyDone → Type 0 where
  plain : {c : Call} {x : Called} → Ended l x.answer x.lent → EndedAny l (AnyCall.plain c) (AnyDone.plain x)
  records : {c : Call} {rs rs' : List Record} {x : Called} {n : ℕ} → EndedCall l x → Behind 1 rs x n rs'
      → EndedAny l (AnyCall.records c rs) (AnyDone.records x n rs')
  names : {c : Call} {xs xs' : List ℕ} {x : Called} {n : ℕ} → EndedCall l x → Behind 4 xs x n xs'
      → EndedAny l (AnyCall.names c xs) (AnyDone.names x n xs')

-- Condition 2 about a call with room for so many records, in a session that reads as z: image, session and the records written are the
-- definition's, and a tree is refused exactly when the definition refuses it, with its number and place
pub record ExactRecordsIn (tree : Bytes) (room : ℕ) (z : Session) (l : Lent) (x : Called) (n : ℕ) (written : List Record → Type 0) : Type 0 where
  pub accepted : (m : Image) → (compile_records room z (request l tree)).step.outcome ≡ Outcome.accepted m
      → Wrote m (compile_records room z (request l tree)).step.session l x.answer x.lent
  pub refused : (q : Refusal) → ((compile_records room z (request l tree)).step.outcome ≡ Outcome.refused q) ↔ (x.answer ≡ Err q)
  pub count : n ≡ length (compile_records room z (request l tree)).records
  pub records : written (compile_records room z (request l tree)).records

-- 1 exactly where a buffer is too short, 2 exactly where no session stands, and in a session as the definition says
pub record ExactRecords (tree : Bytes) (room : ℕ) (l : Lent) (x : Called) (n : ℕ) (written : List Record → Type 0) : Type 0 where
  pub short : (enough (request l tree) ≡ false) ↔ (x.answer ≡ Err (refusal Number.short_buffer 0))
  pub broken : NoSession tree l ↔ (x.answer ≡ Err (refusal Number.no_session 0))
  pub within : (z : Session) (k : ℕ) → enough (request l tree) ≡ true → read_session (take session_size l.session) ≡ decoded z k
      → ExactRecordsIn tree room z l x n written

-- a call of any kind that was lent l: the records, or the numbers, at the front are the definition's
pub data ExactAny (l : Lent) : AnyCall → AnyDone → Type 0 where
  plain : {c : Call} {x : Called} → Exact c.tree l x.answer x.lent → ExactAny l (AnyCall.plain c) (AnyDone.plain x)
  records : {c : Call} {rs rs' : List Record} {x : Called} {n : ℕ} → ExactRecords c.tree (length rs) l x n (λ new. take n rs' ≡ new)
      → ExactAny l (AnyCall.records c rs) (AnyDone.records x n rs')
  names : {c : Call} {xs xs' : List ℕ} {x : Called} {n : ℕ}
      → ExactRecords c.tree (length xs / 4) l x n (λ new. take (4 * n) xs' ≡ rows_of new)
      → ExactAny l (AnyCall.names c xs) (AnyDone.names x n xs')
