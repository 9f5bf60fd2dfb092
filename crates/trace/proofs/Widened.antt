-- A call with records on the first parts of what is lent is the call on all of it, with the rest behind each part.
use Prim.Native.Nat.{ℕ, zero, suc, ◌*◌, ◌≤◌}
use native.Mathlib.Omega.{arith}
use mathlib.Core.Bool.{true}
use mathlib.Core.List.{List, [], ◌∷◌, ◌++◌, reverse}
use mathlib.Core.Path.{◌≡◌, refl, sym, ap, ◌∙◌}
use lib.ListN.{length, take, drop, replicate, length-append, get_or-append}
use lib.Seq.{drop_at}
use Rattle.std.proofs.lemmas.List.{take-append-drop, length-take-le}
use Rattle.std.proofs.Common.{append-nil}
use Rattle.definition.specs.Basic.{Bytes}
use Rattle.definition.specs.Limit.{session_size, code_size, table_size}
use Rattle.definition.specs.Number
use Rattle.definition.specs.Number.{refusal}
use Rattle.definition.specs.Tree.{read_tree}
use Rattle.definition.specs.Session.{Session, session_bytes}
use Rattle.definition.specs.Decode.{Decoded, decoded, malformed, read_session}
use Rattle.definition.specs.Compile.{Outcome, enough}
use Rattle.definition.specs.Output.{over}
use Rattle.definition.specs.Call.{Lent, Called, cleared, refused_call, answered, request}
use Rattle.definition.specs.declared.reason.Refusal.{Refusal}
use Rattle.std.specs.Prelude.{Result, Ok, Err}
use Rattle.compiler.specs.Stage.{lent_of, Long}
use Rattle.records.specs.Records.{translate_records}
use Rattle.records.specs.Call.{Recorded, over_records, in_session_records, call_records}
use Rattle.records.specs.declared.Record.{Record}
use Rattle.trace.specs.Log.{log_of}
use Rattle.trace.specs.Promise.{answer_of, count_of, without_log, LogFits, Traces}
use Rattle.trace.specs.declared.CallTrace.{CallTrace}
use Rattle.trace.proofs.Entries.{logs_same}
use Rattle.trace.proofs.Calls.{records_enough, compile-records}
use Rattle.trace.proofs.Tracing.{take_all, drop_all, all_long, long_big}

-- Lists

-- elements over a first part that are no more than it has
over_front : (n : ℕ) (xs l : List ℕ) → n ≤ length l → length (over xs (take n l)) ≡ n → over xs l ≡ over xs (take n l) ++ drop n l
over_front n [] l h k = sym (take-append-drop n l)
over_front zero (x ∷ xs) l h k = absurd (omega arith)
over_front (suc n) (x ∷ xs) [] h k = absurd (omega arith)
over_front (suc n) (x ∷ xs) (y ∷ l) h k = ap (λ r. x ∷ r) (over_front n xs l (omega arith) (omega arith))

-- a first part cleared
cleared_front : (n : ℕ) (l : List ℕ) → n ≤ length l → cleared n l ≡ cleared n (take n l) ++ drop n l
cleared_front n l h = rw (drop_all (take n l) (length-take-le n l h), append-nil {A = ℕ} (replicate n 0)) refl

-- a list of such a length cleared, with more behind it
cleared_more : (n : ℕ) (l rest : List ℕ) → length l ≡ n → cleared n (l ++ rest) ≡ cleared n l ++ rest
cleared_more n l rest h = rw (drop_at l rest n h, drop_all l h, append-nil {A = ℕ} (replicate n 0)) refl

-- What is lent, and its first parts

module _ (tree o e c : Bytes) (t : List ℕ) (long : Long e c t) where
  abbrev pub whole : Lent
  whole = lent_of e o c t

  abbrev pub front : Lent
  front = lent_of (take session_size e) o (take code_size c) (take table_size t)

  -- the first parts as a call left them, the rest behind each
  abbrev pub widened : Lent → Lent
  widened l = lent_of (l.session ++ drop session_size e) l.output (l.code ++ drop code_size c) (l.table ++ drop table_size t)

  whole_big : enough (request whole tree) ≡ true
  whole_big = long_big tree o long

  front_big : enough (request front tree) ≡ true
  front_big = long_big tree o (all_long (length-take-le session_size e long.session) (length-take-le code_size c long.code) (length-take-le table_size t long.table))

  -- a call on all of it beside the call on the first parts
  record Widens (x y : Called) : Type 0 where
    answer : x.answer ≡ y.answer
    output : x.lent.output ≡ y.lent.output
    session : length y.lent.session ≡ session_size → x.lent.session ≡ y.lent.session ++ drop session_size e
    code : x.lent.code ≡ y.lent.code ++ drop code_size c
    table : x.lent.table ≡ y.lent.table ++ drop table_size t

  refused_widens : (q : Refusal) → Widens (refused_call q whole) (refused_call q front)
  refused_widens q =
      record {
        answer = refl;
        output = refl;
        session = λ h. sym (take-append-drop session_size e);
        code = cleared_front code_size c long.code;
        table = cleared_front table_size t long.table;
      }

  answered_widens : (z : Session) (x : Outcome) → Widens (answered whole z x) (answered front z x)
  answered_widens z (Outcome.accepted m) =
      record {
        answer = refl;
        output = refl;
        session = over_front session_size (session_bytes z) e long.session;
        code = cleared_front code_size c long.code;
        table = cleared_front table_size t long.table;
      }
  answered_widens z (Outcome.refused q) = refused_widens q

  -- the same with records
  record WidensAll (x y : Recorded) : Type 0 where
    called : Widens x.called y.called
    count : x.count ≡ y.count
    records : x.records ≡ y.records

  decoded_widens : (rs : List Record) (d : Decoded Session) → WidensAll (in_session_records whole rs tree d) (in_session_records front rs tree d)
  decoded_widens rs (decoded z n) =
      rw (compile-records tree whole whole_big (length rs) z, compile-records tree front front_big (length rs) z)
      (let x = translate_records (length rs) (length o) z (read_tree tree) in
      record { called = answered_widens x.step.session x.step.outcome; count = refl; records = refl })
  decoded_widens rs (malformed p) = record { called = refused_widens (refusal Number.no_session 0); count = refl; records = refl }

  whole_widens : (rs : List Record) → WidensAll (call_records tree whole rs) (call_records tree front rs)
  whole_widens rs =
      rw (records_enough tree whole whole_big rs, records_enough tree front front_big rs, take_all (take session_size e) (length-take-le session_size e long.session))
      (decoded_widens rs (read_session (take session_size e)))

-- The promise of a call on the first parts is that of the call on all of it

more_log : (r : Result CallTrace Refusal) (l rest : Bytes) → 4 * count_of r ≤ length l → log_of (l ++ rest) (count_of r) ≡ log_of l (count_of r)
more_log r l rest h = logs_same l (l ++ rest) (count_of r) (λ i b. get_or-append l rest 0 i (omega arith))

more_cleared : (r : Result CallTrace Refusal) (l rest : Bytes) → length l ≡ code_size → without_log (answer_of r) (l ++ rest) ≡ without_log (answer_of r) l ++ rest
more_cleared (Ok x) l rest h = cleared_more code_size l rest h
more_cleared (Err q) l rest h = refl

more_fits : (r : Result CallTrace Refusal) (l rest : Bytes) → length l ≡ code_size → LogFits (answer_of r) (l ++ rest)
more_fits (Ok x) l rest h = omega (arith, length-append l rest)
more_fits (Err q) l rest h = tt

pub whole_traces : {tree o e c : Bytes} {t : List ℕ} {room : ℕ} {r : Result CallTrace Refusal} {l : Lent} (long : Long e c t)
    → Traces tree (front tree o e c t long) room r l → length l.session ≡ session_size → length l.code ≡ code_size → Traces tree (whole tree o e c t long) room r (widened tree o e c t long l)
whole_traces {tree} {o} {e} {c} {t} {r = r} {l} long x h k =
    let w : (rs : List Record) → WidensAll tree o e c t long (call_records tree (lent_of e o c t) rs) (call_records tree (front tree o e c t long) rs) = whole_widens tree o e c t long in
    record {
      answer = λ rs j. x.answer rs j ∙ sym (w rs).called.answer;
      count = λ rs j. x.count rs j ∙ sym (w rs).count;
      session = λ rs j. ap (λ s. s ++ drop session_size e) (x.session rs j) ∙ sym ((w rs).called.session (ap (λ s. length s) (sym (x.session rs j)) ∙ h));
      output = λ rs j. x.output rs j ∙ sym (w rs).called.output;
      code = λ rs j. more_cleared r l.code (drop code_size c) k ∙ ap (λ s. s ++ drop code_size c) (x.code rs j) ∙ sym (w rs).called.code;
      table = λ rs j. ap (λ s. s ++ drop table_size t) (x.table rs j) ∙ sym (w rs).called.table;
      records = λ rs j. ap (λ s. over_records (reverse s) rs) (more_log r l.code (drop code_size c) x.fits) ∙ x.records rs j ∙ sym (w rs).records;
      within = x.within;
      long = more_fits r l.code (drop code_size c) k;
      fits = omega (arith, x.fits, length-append l.code (drop code_size c));
      few = x.few;
    }
