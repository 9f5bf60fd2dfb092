-- What a compile call with records gives before the records are filled: the answer, and the records in a log.
use Rattle.std.specs.Prelude.{ℕ, ◌+◌, ◌*◌, ◌≤◌, ◌≡◌, List, [], reverse, length, take, eqb, Result, Ok, Err}
use Rattle.definition.specs.Basic.{Bytes, pick}
use Rattle.definition.specs.Number
use Rattle.definition.specs.Number.{refusal, number_of}
use Rattle.definition.specs.Syntax.{Stmts}
use Rattle.definition.specs.Tree.{read_tree, Parsed}
use Rattle.definition.specs.Walk.{Res, on, stop, walk_stmts}
use Rattle.definition.specs.Session.{Session, word_list, names_bytes}
use Rattle.definition.specs.Decode.{decoded, read_session}
use Rattle.field.specs.Layout.{after, Whole}
use Rattle.symbol_table.specs.Contract.{HasWords, HasItems}
use Rattle.records.specs.Naming.{Names, names, naming}
use Rattle.definition.specs.Limit.{code_size}
use Rattle.definition.specs.Call.{Lent, cleared}
use Rattle.records.specs.Call.{over_records, call_records}
use Rattle.definition.specs.Answer.{Answer}
use Rattle.definition.specs.declared.reason.Refusal.{Refusal}
use Rattle.records.specs.declared.Record.{Record}
use Rattle.trace.specs.Log.{log_of}
use Rattle.trace.specs.declared.CallTrace.{CallTrace}
use Rattle.trace.specs.declared.Outlook.{Outlook}

-- what a call with records answers, and how many records it wrote
abbrev pub answer_of : Result CallTrace Refusal → Answer
answer_of (Ok t) = Ok t.length
answer_of (Err z) = Err z

abbrev pub count_of : Result CallTrace Refusal → ℕ
count_of (Ok t) = t.count
count_of (Err z) = 0

-- the code area once its log is cleared: after a refusal it has none
abbrev pub without_log : Answer → Bytes → Bytes
without_log (Ok n) c = cleared code_size c
without_log (Err r) c = c

-- the code area has room for it
abbrev pub LogFits : Answer → Bytes → Type 0
LogFits (Ok n) c = code_size ≤ length c
LogFits (Err r) c = Unit {0}

-- the answer to a call whose output was taken away since there are few records: the walk's refusal, or else 18
abbrev pub few_of : Answer → Answer
few_of (Ok n) = Err (refusal Number.few_records 0)
few_of (Err r) = pick (eqb (number_of r.reason) (number_of Number.output_short)) (Err (refusal Number.few_records 0)) (Err r)

-- the number of a walk's records, where it goes on
abbrev pub Counts : Res Names (Unit {0}) → ℕ → Type 0
Counts (on a s) n = n ≡ length s.records
Counts (stop r s) n = Unit {0}

-- where session and tree read: how many records the names' walk gives, and the length of the session's names
pub record LooksAhead (tree e : Bytes) (r : Outlook) : Type 0 where
  pub older : (z : Session) (m : ℕ) (b : Stmts) (k : ℕ) → read_session e ≡ decoded z m → read_tree tree ≡ Parsed.parsed b k → r.names ≡ length (names_bytes z.globals)
  pub count : (z : Session) (m : ℕ) (b : Stmts) (k : ℕ) → read_session e ≡ decoded z m → read_tree tree ≡ Parsed.parsed b k → Counts (walk_stmts naming b (names (word_list z.words) [] z.globals [])) r.count

-- the names of an earlier session, so many bytes of them, lie in front of a session's names
pub record HasOlder (e : Bytes) (n : ℕ) : Type 0 where
  pub whole : Whole e 0
  pub items : HasItems e (after e 0 + 3) (after e 0 + 3 + n)
  pub words : HasWords (take (after e 0 + 3 + n) e)

-- a work area that was used: its first so many are to be cleared
pub record Used (n : ℕ) (a a' : List ℕ) : Type 0 where
  pub size : length a' ≡ length a
  pub clears : cleared n a' ≡ cleared n a

-- A call with so many records, in which only the records and the code area are left to do: the log has the records to be written, and is still to be
-- cleared.
pub record Traces (tree : Bytes) (l : Lent) (room : ℕ) (r : Result CallTrace Refusal) (l' : Lent) : Type 0 where
  pub answer : (rs : List Record) → length rs ≡ room → answer_of r ≡ (call_records tree l rs).called.answer
  pub count : (rs : List Record) → length rs ≡ room → count_of r ≡ (call_records tree l rs).count
  pub session : (rs : List Record) → length rs ≡ room → l'.session ≡ (call_records tree l rs).called.lent.session
  pub output : (rs : List Record) → length rs ≡ room → l'.output ≡ (call_records tree l rs).called.lent.output
  pub code : (rs : List Record) → length rs ≡ room → without_log (answer_of r) l'.code ≡ (call_records tree l rs).called.lent.code
  pub table : (rs : List Record) → length rs ≡ room → l'.table ≡ (call_records tree l rs).called.lent.table
  pub records : (rs : List Record) → length rs ≡ room → over_records (reverse (log_of l'.code (count_of r))) rs ≡ (call_records tree l rs).records
  pub within : count_of r ≤ room
  pub long : LogFits (answer_of r) l'.code
  pub fits : 4 * count_of r ≤ length l'.code
  pub few : 4 * count_of r ≤ code_size
