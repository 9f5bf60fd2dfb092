-- A trial run refuses with 25 at a place exactly when its work area is long enough and the bytes read as an image whose first failing chunk
-- has this place.
use Prim.Native.Nat.{ℕ, ◌*◌, ◌≤◌}
use native.Mathlib.Omega.{arith}
use mathlib.Core.Bool.{Bool, true, false}
use mathlib.Core.List.{List}
use mathlib.Core.Logic.{◌↔◌}
use mathlib.Core.Path.{◌≡◌, refl, sym, ap, subst, ◌∙◌}
use lib.Dec.{leb, ltb}
use lib.ListN.{length}
use borrow.Author.Tests.{ltb-false}
use Rattle.std.specs.Prelude.{Option, None as none, Some as some, Result, Err}
use Rattle.definition.specs.Basic.{Bytes, pick}
use Rattle.definition.specs.Number.{refusal, number_of, short_buffer, bad_heights, output_short}
use Rattle.definition.specs.Bytecode.{Image}
use Rattle.definition.specs.Decode.{Decoded, decoded, malformed, read_image}
use Rattle.definition.specs.declared.reason.Refusal.{Refusal}
use Rattle.definition.specs.declared.reason.Reason.{Reason}
use Rattle.heights.specs.Judgement.{FirstFailing}
use Rattle.heights.specs.Pass.{Verdict, judged}
use Rattle.heights.proofs.Verdicts.{Right, judged_right}
use Rattle.trial.specs.Run.{Trial, trial}
use Rattle.trial.specs.Output.{named_globals}
use Rattle.trial.specs.Cells.{work_size}
use Rattle.trial.specs.Call.{refused_with, Outcome, trial_outcome, taken_outcome, judged_outcome, image_outcome, run_outcome, outcome_answer}
use Rattle.trial.specs.Promise.{TrialRuns}
use Rattle.trial.specs.declared.Ran.{Ran}
use Rattle.trial.proofs.Calling.{main_safe, work_long}
use Rattle.promises.specs.Refusals.{FailsAt}
use Rattle.promises.proofs.Number25.{failing_once, none_failing}
use Rattle.promises.proofs.Through.{StopNumber, trial_stops}

module _ (b : Bytes) (hs : List ℕ) (work room p : ℕ) where
  -- an outcome that is answered with 25 at the place
  abbrev Is25 : Outcome → Type 0
  Is25 o = outcome_answer o ≡ Err (refusal bad_heights p)

  -- another number
  other_number : {n : Reason} {k : ℕ} → ◌≡◌ {A = Result Ran Refusal} (Err (refusal n k)) (Err (refusal bad_heights p)) → number_of n ≡ number_of bad_heights
  other_number {n} {k} e = let z : refusal n k ≡ refusal bad_heights p = cc in ap (λ (r : Refusal). number_of r.reason) z

  -- no image that passes is refused so
  module _ (m : Image) {ns : List ℕ} (e : judged hs m m.pool ≡ Verdict.tops ns) where
    -- not by the run
    go_trial : refused_with hs m ≡ none → (t : Trial) → trial m ≡ t → Is25 (trial_outcome (named_globals m.code) t) → ⊥
    go_trial r (Trial.ran g k) q i = let z : ◌≡◌ {A = ℕ} 0 1 = cc in omega arith
    go_trial r (Trial.stopped k at) q i = never (trial_stops m (λ i p s. (main_safe hs m e r).runs s) q) (other_number i)
      where
        never : StopNumber k → number_of k ≡ number_of bad_heights → ⊥
        never (StopNumber.operand a) b = let e = ap number_of a in omega arith
        never (StopNumber.unset a) b = let e = ap number_of a in omega arith

    -- not by the output
    go_room : refused_with hs m ≡ none → (x : Bool)
        → Is25 (pick x (trial_outcome (named_globals m.code) (trial m)) (Outcome.refused (refusal output_short 0))) → ⊥
    go_room r true i = go_trial r (trial m) refl i
    go_room r false i = let z = other_number i in omega arith

    -- not by number 27
    go_taken : (o : Option ℕ) → refused_with hs m ≡ o → Is25 (taken_outcome o m room) → ⊥
    go_taken (some q) r i = let z = other_number i in omega arith
    go_taken none r i = go_room r (leb (9 * named_globals m.code) room) i

  -- by the verdict on the chunks
  go_judged : (m : Image) (n : ℕ) → read_image b ≡ decoded m n → (v : Verdict) → judged hs m m.pool ≡ v → Right hs m m.pool v
      → Is25 (judged_outcome v hs m room) → FailsAt b hs p
  go_judged m n reads (Verdict.tops ns) e r i = absurd (go_taken m e (refused_with hs m) refl i)
  go_judged m n reads (Verdict.fails at) e (Right.fails f) i =
      let z : refusal bad_heights at ≡ refusal bad_heights p = cc in
      record { image = m; end = n; reads = reads; failing = subst (FirstFailing hs m m.pool) (ap (λ (r : Refusal). r.place) z) f }

  -- by the image
  go_image : (d : Decoded Image) → read_image b ≡ d → Is25 (image_outcome d hs room) → FailsAt b hs p
  go_image (decoded m n) reads i = go_judged m n reads (judged hs m m.pool) refl (judged_right hs m m.pool) i
  go_image (malformed k) reads i = let z = other_number i in absurd (omega arith)

  -- by the work area
  go_work : (x : Bool) → ltb work work_size ≡ x
      → Is25 (pick x (Outcome.refused (refusal short_buffer 0)) (image_outcome (read_image b) hs room))
      → (work_size ≤ work) × FailsAt b hs p
  go_work true w i = let z = other_number i in absurd (omega arith)
  go_work false w i = (ltb-false work work_size w, go_image (read_image b) refl i)

  -- refused so
  fails : {m : Image} {v : Verdict} → FirstFailing hs m m.pool p → Right hs m m.pool v
      → judged_outcome v hs m room ≡ Outcome.refused (refusal bad_heights p)
  fails f (Right.tops a t) = absurd (none_failing a f)
  fails f (Right.fails g) = ap (λ k. Outcome.refused (refusal bad_heights k)) (failing_once g f)

  -- of the answer
  answered : Is25 (run_outcome b hs work room) ↔ ((work_size ≤ work) × FailsAt b hs p)
  answered = (
    λ i. go_work (ltb work work_size) refl i,
    λ k. ap outcome_answer
        (work_long b hs work room k.0 ∙ ap (λ d. image_outcome d hs room) k.1.reads ∙ fails k.1.failing (judged_right hs k.1.image k.1.image.pool)),
  )

-- Number 25, of any call that keeps the promise of `run`
pub number_25_run : {b : Bytes} {hs w w' : List ℕ} {o o' : Bytes} {r : Result Ran Refusal} → TrialRuns b hs w o r w' o' → (p : ℕ)
    → (r ≡ Err (refusal bad_heights p)) ↔ ((work_size ≤ length w) × FailsAt b hs p)
number_25_run {b} {hs} {w} {o = o} k p =
    let e = answered b hs (length w) (length o) p in (λ i. e.0 (sym k.answer ∙ i), λ f. k.answer ∙ e.1 f)
