-- Condition 2 of a call of any kind: image, session and records are the definition's, and a tree is refused exactly when the definition
-- refuses it, with its number and place.
use Prim.Native.Nat.{ℕ, ◌*◌, ◌/◌}
use native.Mathlib.Omega.{arith}
use mathlib.Core.Bool.{true, false}
use mathlib.Core.List.{List}
use mathlib.Core.Path.{◌≡◌, refl, sym, ap, subst, ◌∙◌}
use lib.ListN.{length, take, length-replicate}
use lib.Seq.{take-append_seam}
use Rattle.std.specs.Prelude.{Ok, Err}
use Rattle.definition.specs.Basic.{Bytes}
use Rattle.definition.specs.Limit.{session_size}
use Rattle.definition.specs.Number
use Rattle.definition.specs.Number.{refusal, number_of}
use Rattle.definition.specs.Session.{Session}
use Rattle.definition.specs.Decode.{decoded, read_session}
use Rattle.definition.specs.Compile.{Outcome, enough}
use Rattle.definition.specs.Call.{Lent, Called, answered, request, call}
use Rattle.definition.specs.Series.{lent}
use Rattle.definition.specs.Valid.{AreBytes}
use Rattle.definition.specs.declared.reason.Refusal.{Refusal}
use Rattle.definition.specs.Answer.{Answer}
use Rattle.definition.specs.declared.reason.Reason.{Reason}
use Rattle.definition.proofs.Basic.{pick_true, pick_false}
use Rattle.compiler.specs.Promise.{Wrote, Exact}
use Rattle.compiler.proofs.Conditions.{compile_condition_2}
use Rattle.records.specs.Records.{Traced, compile_records}
use Rattle.records.specs.Call.{Recorded, unrecorded, recorded, in_session_records, call_records, turn}
use Rattle.records.specs.declared.Record.{Record}
use Rattle.records.proofs.Logged.{CallAgrees, call_agrees}
use Rattle.names.specs.Rows.{rows_of}
use Rattle.names.specs.Promise.{blanks, named}
use Rattle.promises.specs.Mixed.{AnyCall, AnyDone, call_of, turn_of, Kept}
use Rattle.promises.specs.Ended.{ExactRecordsIn, ExactRecords, ExactAny}
use Rattle.promises.proofs.Mixed.{done_of, Gives, kept_done, rows_front}

-- the plain call
plain_exact : (tree : Bytes) (l : Lent) → AreBytes (take session_size l.session) → Exact tree l (call tree l).answer (call tree l).lent
plain_exact tree l a = compile_condition_2 tree l (call tree l).answer (call tree l).lent a (record { answer = refl; lent = refl })

module _ (tree : Bytes) (l : Lent) (rs : List Record) where
  -- what the call is, by the two tests
  pub when_short : enough (request l tree) ≡ false → call_records tree l rs ≡ unrecorded rs (record { answer = Err (refusal Number.short_buffer 0); lent = l })
  unfolding call_records
  when_short e =
      pick_false (in_session_records l rs tree (read_session (take session_size l.session))) (unrecorded rs (record { answer = Err (refusal Number.short_buffer 0); lent = l })) e

  -- where all that is lent is long enough
  pub when_enough : enough (request l tree) ≡ true
      → call_records tree l rs ≡ in_session_records l rs tree (read_session (take session_size l.session))
  unfolding call_records
  when_enough e =
      pick_true (in_session_records l rs tree (read_session (take session_size l.session))) (unrecorded rs (record { answer = Err (refusal Number.short_buffer 0); lent = l })) e

  -- a refusal that is not 18 is the plain call's
  as-plain : {x : Recorded} {y : Called} → CallAgrees tree l rs x y → (n : Reason) → (number_of Number.few_records ≡ number_of n → ⊥)
      → x.called.answer ≡ Err (refusal n 0) → y.answer ≡ Err (refusal n 0)
  as-plain (CallAgrees.refused r e) n k f = f
  as-plain (CallAgrees.accepted new e _ _) n k f = f
  as-plain (CallAgrees.few _) n k f =
      let z : refusal Number.few_records 0 ≡ refusal n 0 = cc in absurd (k (ap (λ (r : Refusal). number_of r.reason) z))

  -- in a session
  module _ (written : List Record → Type 0) (gives : (t : Traced) → call_records tree l rs ≡ recorded l rs t → written t.records) (z : Session) where
    abbrev next : Traced
    next = compile_records (length rs) z (request l tree)

    exact : call_records tree l rs ≡ recorded l rs next → (o : Outcome) → next.step.outcome ≡ o → {x : Called}
        → x ≡ answered l next.step.session o → (call_records tree l rs).count ≡ length next.records
        → ExactRecordsIn tree (length rs) z l x (call_records tree l rs).count written
    exact g (Outcome.accepted m) e {x} q c =
        record {
          accepted = λ k h. let same : m ≡ k = cc in
              subst (λ k. Wrote k next.step.session l x.answer x.lent) same (record { length = ap (λ (x : Called). x.answer) q; output = ap (λ (x : Called). x.lent.output) q; session = ap (λ (x : Called). x.lent.session) q });
          refused = λ r. (λ h. let w : ◌≡◌ {A = ℕ} 0 1 = cc in absurd (omega arith), λ h. never (sym (ap (λ (x : Called). x.answer) q) ∙ h));
          count = c;
          records = gives next g;
        }
      where
        never : {A : Type 0} {n : ℕ} {r : Refusal} → ◌≡◌ {A = Answer} (Ok n) (Err r) → A
        never e = let w : ◌≡◌ {A = ℕ} 0 1 = cc in absurd (omega arith)
    exact g (Outcome.refused r) e {x} q c =
        record {
          accepted = λ k h. let w : ◌≡◌ {A = ℕ} 0 1 = cc in absurd (omega arith);
          refused = λ p. (λ h. let same : r ≡ p = cc in ap (λ (x : Called). x.answer) q ∙ ap Err same, λ h. e ∙ ap Outcome.refused (again (sym (ap (λ (x : Called). x.answer) q) ∙ h)));
          count = c;
          records = gives next g;
        }
      where
        again : {p : Refusal} → ◌≡◌ {A = Answer} (Err r) (Err p) → r ≡ p
        again e = cc

    exact_in : (n : ℕ) → enough (request l tree) ≡ true → read_session (take session_size l.session) ≡ decoded z n
        → ExactRecordsIn tree (length rs) z l (call_records tree l rs).called (call_records tree l rs).count written
    exact_in n big reads =
        let g : call_records tree l rs ≡ recorded l rs next = when_enough big ∙ ap (in_session_records l rs tree) reads in
        exact g next.step.outcome refl (ap (λ (x : Recorded). x.called) g) (ap (λ (x : Recorded). x.count) g)

  -- on any bytes
  exact_records : AreBytes (take session_size l.session) → (written : List Record → Type 0)
      → ((t : Traced) → call_records tree l rs ≡ recorded l rs t → written t.records)
      → ExactRecords tree (length rs) l (call_records tree l rs).called (call_records tree l rs).count written
  exact_records a written gives =
      let p = plain_exact tree l a in
      let k = call_agrees tree l rs in
      record {
        short = (λ e. ap (λ (x : Recorded). x.called.answer) (when_short e), λ f. p.short.1 (as-plain k Number.short_buffer (λ h. omega arith) f));
        broken = (λ b. ap (λ (x : Recorded). x.called.answer) (when_enough b.lent ∙ ap (in_session_records l rs tree) b.reads), λ f. p.broken.1 (as-plain k Number.no_session (λ h. omega arith) f));
        within = λ z n big reads. exact_in written gives z n big reads;
      }

  -- the records written stand at the front
  at_front : (t : Traced) → call_records tree l rs ≡ recorded l rs t
      → take (call_records tree l rs).count (call_records tree l rs).records ≡ t.records
  at_front t e = subst (λ (x : Recorded). take x.count x.records ≡ t.records) (sym e) (take-append_seam t.records _)

-- what the definition's turn gives
exact_done : (s : Bytes) (c : AnyCall) → AreBytes (take session_size (lent s (call_of c)).session)
    → ExactAny (lent s (call_of c)) c (done_of c (turn s (turn_of c)))
exact_done s (AnyCall.plain c) a = ExactAny.plain (plain_exact c.tree (lent s c) a)
exact_done s (AnyCall.records c rs) a =
    let x = call_records c.tree (lent s c) rs in
    ExactAny.records (exact_records c.tree (lent s c) rs a (λ new. take x.count x.records ≡ new) (at_front c.tree (lent s c) rs))
exact_done s (AnyCall.names c xs) a =
    let rs = blanks (length xs / 4) in
    let x = call_records c.tree (lent s c) rs in
    ExactAny.names
    (subst (λ room. ExactRecords c.tree room (lent s c) x.called x.count (λ new. take (4 * x.count) (named xs x).rows ≡ rows_of new)) (length-replicate (length xs / 4) _)
    (exact_records c.tree (lent s c) rs a (λ new. take (4 * x.count) (named xs x).rows ≡ rows_of new)
    (λ t e. rows_front xs x.count x.records t.records (ap (λ (x : Recorded). x.count) e) (at_front c.tree (lent s c) rs t e))))

-- of any calls that give what the definition's turns give
pub any_condition_2 : {K : Bytes → AnyCall → AnyDone → Type 0} → Gives K → {s : Bytes} {c : AnyCall} {x : AnyDone}
    → AreBytes (take session_size (lent s (call_of c)).session) → K s c x → ExactAny (lent s (call_of c)) c x
any_condition_2 g {s} {c} {x} a k = subst (ExactAny (lent s (call_of c)) c) (sym (g s c x k)) (exact_done s c a)

-- Condition 2 of every call that keeps the promise of `compile`, `compile_with_records` or `compile_names`
pub mixed_condition_2 : {s : Bytes} {c : AnyCall} {x : AnyDone} → AreBytes (take session_size (lent s (call_of c)).session) → Kept s c x
    → ExactAny (lent s (call_of c)) c x
mixed_condition_2 a k = any_condition_2 kept_done a k
