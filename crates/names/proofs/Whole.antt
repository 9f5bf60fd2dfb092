-- The call with rows of numbers, put together from what its parts promise.
use Prim.Native.Nat.{ℕ, ◌*◌, ◌/◌, ◌≤◌}
use native.Mathlib.Omega.{arith}
use mathlib.Core.List.{List, ◌++◌, reverse}
use mathlib.Core.Path.{◌≡◌, refl, sym, ap, ◌∙◌}
use lib.ListN.{length, take, drop, length-reverse, length-replicate}
use lib.Seq.{take_at}
use Rattle.definition.specs.Basic.{Bytes}
use Rattle.definition.specs.Call.{Lent}
use Rattle.records.specs.Call.{over_records, call_records}
use Rattle.records.specs.declared.Record.{Record}
use Rattle.compiler.specs.Stage.{lent_of}
use Rattle.trace.specs.Log.{log_of}
use Rattle.std.specs.Prelude.{Result, Ok, Err}
use Rattle.std.specs.Result.{IsErrAnd}
use Rattle.definition.specs.Limit.{code_size}
use Rattle.definition.specs.Call.{cleared}
use Rattle.definition.specs.declared.reason.Refusal.{Refusal}
use Rattle.definition.proofs.Basic.{passed_on}
use Rattle.trace.specs.Promise.{answer_of, count_of, Traces, without_log}
use Rattle.trace.specs.declared.CallTrace.{CallTrace}
use Rattle.trace.proofs.Ahead.{log_length}
use Rattle.names.specs.Rows.{row_of, rows_of, alone, filled_over, filled, filled_records}
use Rattle.names.specs.Promise.{blanks, call_names, Written, Names, Records}
use Rattle.names.proofs.Rows.{filled-rows, filled-records, over_alone}

-- the numbers and the log have room for the records
rows_room : {tree : Bytes} {l : Lent} (xs : List ℕ) {t : Result CallTrace Refusal} {l' : Lent} → Traces tree l (length xs / 4) t l' → 4 * (count_of t) ≤ length xs
rows_room xs h = omega (arith, h.within)

-- the written records are the log's
written : (l : Bytes) (n : ℕ) (rs : List Record) → take n (over_records (reverse (log_of l n)) rs) ≡ reverse (log_of l n)
written l n rs = take_at (reverse (log_of l n)) _ n (length-reverse (log_of l n) ∙ log_length l n)

-- the call, the filled rows and the cleared log are the definition's call
pub named-call : {tree : Bytes} {l : Lent} {xs xs' : List ℕ} {t : Result CallTrace Refusal} {e o c t' : List ℕ} {c' : Bytes} → Traces tree l (length xs / 4) t (lent_of e o c t') → xs' ≡ filled c (count_of t) xs → c' ≡ without_log (answer_of t) c
    → Names tree l xs t (lent_of e o c' t') xs'
unfolding call_names
named-call {tree} {l} {xs} {xs'} {t} {e} {o} {c} {t'} {c'} h f g =
    let rs : List Record = blanks (length xs / 4) in
    let size : length rs ≡ length xs / 4 = length-replicate (length xs / 4) _ in
    let front : take (count_of t) (call_records tree l rs).records ≡ reverse (log_of c (count_of t)) = ap (take (count_of t)) (sym (h.records rs size)) ∙ written c (count_of t) rs in
    record {
      answer = h.answer rs size;
      count = h.count rs size;
      lent = λ i. lent_of (h.session rs size i) (h.output rs size i) ((g ∙ h.code rs size) i) (h.table rs size i);
      few = h.few;
      rows = f ∙ filled-rows c (count_of t) xs (rows_room xs h) ∙ (λ i. rows_of (sym front i) ++ drop (4 * (count_of t)) xs) ∙ (λ i. rows_of (take (h.count rs size i) (call_records tree l rs).records) ++ drop (4 * h.count rs size i) xs);
    }

-- the call, the filled records and the cleared log are the definition's call: what a caller of `compile_log`, `fill_records` and `clear_code` has
pub recorded-call : {tree : Bytes} {l : Lent} {rs rs' : List Record} {t : Result CallTrace Refusal} {e o c t' : List ℕ} {c' : Bytes} → Traces tree l (length rs) t (lent_of e o c t') → rs' ≡ filled_records c (count_of t) rs → c' ≡ without_log (answer_of t) c
    → Records tree l rs t (lent_of e o c' t') rs'
recorded-call {rs = rs} {t = t} {c = c} h f g =
    record {
      answer = h.answer rs refl;
      count = h.count rs refl;
      lent = λ i. lent_of (h.session rs refl i) (h.output rs refl i) ((g ∙ h.code rs refl) i) (h.table rs refl i);
      records = f ∙ filled-records c (count_of t) rs h.within ∙ h.records rs refl;
    }

-- As the code takes them: the call was accepted, and its records were written, or refused
module _ {A : Type 0} (w : ℕ) (f : Record → List A) {tree : Bytes} {l : Lent} {xs : List A} {t : Result CallTrace Refusal} {e o c t' : List ℕ} {v : ℕ} (s : v ≡ w) (h : Traces tree l (length xs / v) t (lent_of e o c t')) where
  pub written_on : {k : CallTrace} {xs' : List A} {c' : Bytes} → t ≡ Ok k → xs' ≡ filled_over w f c k.count xs → c' ≡ cleared code_size c → Written w f tree l xs (Ok k) (lent_of e o c' t') xs'
  written_on q g u = record { log = c; traces = rw s at (rw q at h); slots = g; cleared = u }

  pub written_stop : {r : Result CallTrace Refusal} {z : Refusal} → t ≡ Err z → IsErrAnd r (λ y. y ≡ z) → Written w f tree l xs r (lent_of e o c t') xs
  unfolding filled_over
  written_stop q u = rw (passed_on u) (record { log = c; traces = rw s at (rw q at h); slots = refl; cleared = refl })

-- over numbers, and over records
pub written_names : {tree : Bytes} {l : Lent} {xs : List ℕ} {r : Result CallTrace Refusal} {e o c t' : List ℕ} {xs' : List ℕ} → Written 4 row_of tree l xs r (lent_of e o c t') xs' → Names tree l xs r (lent_of e o c t') xs'
written_names w = named-call w.traces w.slots w.cleared

pub written_records : {tree : Bytes} {l : Lent} {rs : List Record} {r : Result CallTrace Refusal} {e o c t' : List ℕ} {rs' : List Record} → Written 1 alone tree l rs r (lent_of e o c t') rs' → Records tree l rs r (lent_of e o c t') rs'
written_records {rs = rs} {r = r} w =
    let one : length rs / 1 ≡ length rs = omega arith in
    recorded-call (rw one at w.traces) (w.slots ∙ over_alone w.log (count_of r) rs) w.cleared
