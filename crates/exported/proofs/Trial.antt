-- The answer of a trial run fits an answer's halves, and the low half is the globals and the steps.
use Prim.Native.Nat.{ℕ, ◌%◌, ◌<◌}
use native.Mathlib.Omega.{arith}
use mathlib.Core.List.{List}
use mathlib.Core.Path.{◌≡◌, subst, ap, refl}
use lib.ListN.{length}
use Rattle.std.specs.Prelude.{Result}
use Rattle.definition.specs.declared.reason.Refusal.{Refusal}
use Rattle.definition.specs.Basic.{Bytes}
use Rattle.definition.specs.Valid.{AreBytes}
use Rattle.trial.specs.Value.{Globals}
use Rattle.trial.specs.Call.{Outcome, run_outcome, outcome_answer, outcome_into, work_after}
use Rattle.trial.specs.declared.Ran.{Ran}
use Rattle.trial.proofs.Bounds.{Small, run_small}
use Rattle.exported.specs.Packed.{half_bound, Fits, Packs}
use Rattle.exported.specs.Framed.{Pairs}
use Rattle.exported.specs.Trial.{ran_answer, RunsPacked}
use Rattle.exported.proofs.Mapped.{IsMapped, Says, says}
use Rattle.exported.proofs.Framed.{pairs}

run_fits : (b : Bytes) → AreBytes b → (hs : List ℕ) (work room : ℕ) → Fits (ran_answer (outcome_answer (run_outcome b hs work room)))
run_fits b a hs work room = go (run_small b a hs work room)
  where
    go : {o : Outcome} → Small o → Fits (ran_answer (outcome_answer o))
    go (Small.ran {n} {k = k} h l) = record { number = omega arith; value = omega arith }
    go (Small.refused {r} h l m) = record { number = omega arith; value = omega arith }

run-pairs : (b : Bytes) → AreBytes b → (hs : List ℕ) (work room : ℕ) {v : ℕ} → Packs (ran_answer (outcome_answer (run_outcome b hs work room))) v → (n : ℕ) (g : Globals) (k : ℕ) → run_outcome b hs work room ≡ Outcome.ran n g k
    → Pairs n k (v % half_bound)
run-pairs b a hs work room {v} p n g k e =
    let small = subst Small e (run_small b a hs work room) in
    let packed = subst (λ o. Packs (ran_answer (outcome_answer o)) v) e p in
    pairs (below small) packed.value
  where
    below : Small (Outcome.ran n g k) → k < 65536
    below (Small.ran h l) = l

-- globals and steps, and what is said of their number
abbrev run : Ran → ℕ × ℕ
run r = (r.globals, r.steps)

module _ {b : Bytes} (s : AreBytes b) (hs w : List ℕ) (o : Bytes) where
  pub runs : {P : Ran → ℕ × ℕ → Type 0} {a : Result Ran Refusal} {m : Result (ℕ × ℕ) Refusal} → ((x : Ran) (y : ℕ × ℕ) → P x y → y ≡ run x) → a ≡ outcome_answer (run_outcome b hs (length w) (length o)) → IsMapped P a m
      → Says (ran_answer (outcome_answer (run_outcome b hs (length w) (length o)))) m
  runs h e c = says run ran_answer (λ _. refl) (λ _. refl) h c (ap ran_answer e) (run_fits b s hs (length w) (length o))

  pub packs_run : {w' : List ℕ} {o' : Bytes} {v : ℕ} → w' ≡ work_after w → o' ≡ outcome_into (run_outcome b hs (length w) (length o)) o → Packs (ran_answer (outcome_answer (run_outcome b hs (length w) (length o)))) v → RunsPacked b hs w o v w' o'
  packs_run clears writes p = record { answer = p; parts = run-pairs b s hs (length w) (length o) p; work = clears; output = writes }
