-- Numbers 18, 25, 26 and 27 of the exported calls: the number's halves are the number and the place exactly when the plain words hold
-- there.
use Prim.Native.Nat.{ℕ, ◌/◌, ◌≤◌}
use native.Mathlib.Omega.{arith}
use mathlib.Core.List.{List}
use mathlib.Core.Logic.{◌↔◌}
use mathlib.Core.Path.{◌≡◌, refl, sym, ap, ◌∙◌}
use lib.ListN.{length, take}
use Rattle.std.specs.Prelude.{Result, Ok, Err}
use Rattle.definition.specs.Basic.{Bytes}
use Rattle.definition.specs.Limit.{session_size}
use Rattle.definition.specs.Number.{refusal, few_records, bad_heights, bad_jump}
use Rattle.definition.specs.Call.{Lent}
use Rattle.definition.specs.Valid.{AreBytes}
use Rattle.definition.specs.declared.reason.Refusal.{Refusal}
use Rattle.definition.specs.declared.reason.Reason.{Reason}
use Rattle.definition.specs.Answer.{Answer}
use Rattle.bytecode.specs.declared.Form.TheVariants.{Plain, Chin}
use Rattle.chin.specs.Chin.{to_chin, from_chin}
use Rattle.definition.specs.Number
use Rattle.trial.specs.Cells.{work_size}
use Rattle.trial.specs.Call.{run_outcome, outcome_answer}
use Rattle.trial.specs.Promise.{TrialRuns}
use Rattle.trial.specs.declared.Ran.{Ran}
use Rattle.exported.specs.Packed.{high, low, of_halves, Packs}
use Rattle.exported.specs.Named.{names_answer, NamesPacked}
use Rattle.exported.specs.Turned.{TurnsPacked}
use Rattle.exported.specs.Heights.{ChecksPacked}
use Rattle.exported.specs.Trial.{ran_answer, RunsPacked}
use Rattle.exported.proofs.Fits.{refusal-told, told}
use Rattle.promises.specs.Monkey.{Refuses}
use Rattle.promises.specs.Refusals.{TooFew, FailsAt, Backwards, TooFar, FirstJump, FirstNotRun}
use Rattle.promises.proofs.Number18.{names_18}
use Rattle.promises.proofs.Number25.{number_25}
use Rattle.promises.proofs.Number25Run.{number_25_run}
use Rattle.promises.proofs.Number26.{number_26, number_26_back}
use Rattle.promises.proofs.Number27.{number_27}
use Rattle.promises.proofs.MonkeyChin.{turns_of}
use Rattle.promises.proofs.MonkeyHeights.{checks_of}

-- it packs that refusal
pub refused_halves : {a : Answer} {r : ℕ} (n : Reason) (p : ℕ) → Packs a r → Refuses r n p ↔ (a ≡ Err (refusal n p))
refused_halves {a} {r} n p k = (
  λ h. sym (told a).back ∙ (λ i. of_halves ((sym k.number ∙ h.0) i) ((sym k.value ∙ h.1) i)) ∙ refusal-told n p,
  λ e. (k.number ∙ ap high e, k.value ∙ ap low e),
)

-- one equivalence behind another
pub both_ways : {A B C : Type 0} → A ↔ B → B ↔ C → A ↔ C
both_ways f g = (λ a. g.0 (f.0 a), λ c. f.1 (g.1 c))

-- a refusal with records is the plain call's answer
names-refused : {a : Answer} (n : ℕ) (q : Refusal) → (names_answer a n ≡ Err q) ↔ (a ≡ Err q)
names-refused {a} n q = (λ e. go a e, λ e. ap (λ a. names_answer a n) e)
  where
    go : (a : Answer) → names_answer a n ≡ Err q → a ≡ Err q
    go (Ok k) e = let z : ◌≡◌ {A = ℕ} 0 1 = cc in absurd (omega arith)
    go (Err r) e = e

-- 18
pub monkey_number_18 : {tree : Bytes} {l l' : Lent} {xs xs' : List ℕ} {r : ℕ} → AreBytes (take session_size l.session)
    → NamesPacked tree l xs r l' xs' → Refuses r few_records 0 ↔ TooFew tree (length xs / 4) l
monkey_number_18 {tree} {l} {xs =
    xs} a k = both_ways (both_ways (refused_halves few_records 0 k.answer) (names-refused _ (refusal few_records 0))) (names_18 tree l xs a)

-- 25
pub monkey_number_25 : {b : Bytes} {hs o o' : List ℕ} {r : ℕ} → ChecksPacked b hs o r o' → (p : ℕ)
    → Refuses r bad_heights p ↔ FailsAt b hs p
monkey_number_25 k p = both_ways (refused_halves bad_heights p k.answer) (number_25 (checks_of k) p)

-- 26
pub monkey_number_26 : {b o o' : Bytes} {r : ℕ} → TurnsPacked (to_chin b) o r o' → (p : ℕ)
    → Refuses r bad_jump p ↔ FirstJump Plain Backwards b p
monkey_number_26 k p = both_ways (refused_halves bad_jump p k.answer) (number_26 (turns_of k) p)

-- and back
pub monkey_number_26_back : {b o o' : Bytes} {r : ℕ} → TurnsPacked (from_chin b) o r o' → (p : ℕ)
    → Refuses r bad_jump p ↔ FirstJump Chin TooFar b p
monkey_number_26_back k p = both_ways (refused_halves bad_jump p k.answer) (number_26_back (turns_of k) p)

-- an answer of the run
ran-refused : {a : Result Ran Refusal} (q : Refusal) → (ran_answer a ≡ Err q) ↔ (a ≡ Err q)
ran-refused {a} q = (λ e. go a e, λ e. ap ran_answer e)
  where
    go : (a : Result Ran Refusal) → ran_answer a ≡ Err q → a ≡ Err q
    go (Ok x) e = let z : ◌≡◌ {A = ℕ} 0 1 = cc in absurd (omega arith)
    go (Err r) e = let z : r ≡ q = cc in ap Err z

-- the promise of `run` that an exported run keeps
runs_of : {b : Bytes} {hs w w' : List ℕ} {o o' : Bytes} {r : ℕ} → RunsPacked b hs w o r w' o'
    → TrialRuns b hs w o (outcome_answer (run_outcome b hs (length w) (length o))) w' o'
runs_of k = record { answer = refl; work = k.work; output = k.output }

-- 27
pub monkey_number_27 : {b : Bytes} {hs w w' : List ℕ} {o o' : Bytes} {r : ℕ} → RunsPacked b hs w o r w' o' → (p : ℕ)
    → Refuses r Number.not_runnable p ↔ FirstNotRun b hs (length w) p
monkey_number_27 k p =
    both_ways (both_ways (refused_halves Number.not_runnable p k.answer) (ran-refused (refusal Number.not_runnable p))) (number_27 (runs_of k) p)

-- and 25 there
pub monkey_number_25_run : {b : Bytes} {hs w w' : List ℕ} {o o' : Bytes} {r : ℕ} → RunsPacked b hs w o r w' o' → (p : ℕ)
    → Refuses r bad_heights p ↔ ((work_size ≤ length w) × FailsAt b hs p)
monkey_number_25_run k p =
    both_ways (both_ways (refused_halves bad_heights p k.answer) (ran-refused (refusal bad_heights p))) (number_25_run (runs_of k) p)
