-- A compile call with records whose caller lends numbers, four for each record; and what the function that does it promises.
use Rattle.std.specs.Prelude.{ℕ, ◌*◌, ◌/◌, ◌≤◌, ◌≡◌, List, ◌++◌, length, take, drop, replicate, Result}
use Rattle.definition.specs.Basic.{Bytes}
use Rattle.definition.specs.Limit.{code_size}
use Rattle.definition.specs.Call.{Lent, Called}
use Rattle.records.specs.Call.{Recorded, call_records}
use Rattle.records.specs.declared.Kind.TheVariants.{Global}
use Rattle.records.specs.declared.Record.{Record}
use Rattle.trace.specs.declared.CallTrace.{CallTrace}
use Rattle.trace.specs.Promise.{answer_of, count_of, without_log, Traces}
use Rattle.definition.specs.declared.reason.Refusal.{Refusal}
use Rattle.compiler.specs.Stage.{lent_of}
use Rattle.names.specs.Rows.{rows_of, filled_over}

-- what the call has: what the plain call has, the count, and the numbers afterwards
pub record Named : Type 0 where
  pub called : Called
  pub count : ℕ
  pub rows : List ℕ

-- so many records that say nothing
abbrev pub blanks : ℕ → List Record
blanks n = replicate n (record { offset = 0; kind = Global; index = 0; crossed = 0 })

-- the written records at the front of the numbers, the rest as it was
abbrev pub named : List ℕ → Recorded → Named
named xs c = record { called = c.called; count = c.count; rows = rows_of (take c.count c.records) ++ drop (4 * c.count) xs }

-- compiling a tree, with a row of four numbers for each record: a fourth as many records as numbers
unfoldable pub call_names : Bytes → Lent → List ℕ → Named
call_names tree l xs = named xs (call_records tree l (blanks (length xs / 4)))

-- answer, count, numbers and all lent memory are the definition's; the count is small
pub record Names (tree : Bytes) (l : Lent) (xs : List ℕ) (r : Result CallTrace Refusal) (l' : Lent) (xs' : List ℕ) : Type 0 where
  pub answer : answer_of r ≡ (call_names tree l xs).called.answer
  pub count : count_of r ≡ (call_names tree l xs).count
  pub lent : l' ≡ (call_names tree l xs).called.lent
  pub rows : xs' ≡ (call_names tree l xs).rows
  pub few : 4 * count_of r ≤ code_size

-- the same of a caller's records
pub record Records (tree : Bytes) (l : Lent) (rs : List Record) (r : Result CallTrace Refusal) (l' : Lent) (rs' : List Record) : Type 0 where
  pub answer : answer_of r ≡ (call_records tree l rs).called.answer
  pub count : count_of r ≡ (call_records tree l rs).count
  pub lent : l' ≡ (call_records tree l rs).called.lent
  pub records : rs' ≡ (call_records tree l rs).records

-- a call with records, put together: a call with a log, and so many slots to a record; its records are written over the slots, and the log is cleared
pub record Written {A : Type 0} (w : ℕ) (f : Record → List A) (tree : Bytes) (l : Lent) (xs : List A) (r : Result CallTrace Refusal) (l' : Lent) (xs' : List A) : Type 0 where
  pub log : Bytes
  pub traces : Traces tree l (length xs / w) r (lent_of l'.session l'.output log l'.table)
  pub slots : xs' ≡ filled_over w f log (count_of r) xs
  pub cleared : l'.code ≡ without_log (answer_of r) log
