-- Of exported calls: a trial run whose number is none of the refusals 1, 17, 25, 27 and 15 gives what evaluating the tree gives.
use Prim.Native.Nat.{ℕ}
use mathlib.Core.List.{List}
use mathlib.Core.Path.{◌≡◌, sym, ap, subst, ◌∙◌}
use lib.Dec.{T}
use lib.ListN.{length, take}
use Rattle.std.specs.Prelude.{Ok}
use Rattle.definition.specs.Basic.{Bytes}
use Rattle.definition.specs.Limit.{session_size}
use Rattle.definition.specs.Number.{is_one_of}
use Rattle.definition.specs.Session.{Words}
use Rattle.definition.specs.Tree.{read_tree}
use Rattle.trial.specs.Evaluate.{tree_end, trial_end}
use Rattle.trial.specs.Run.{Trial}
use Rattle.trial.specs.Call.{Outcome, trial_outcome, run_outcome, outcome_answer, outcome_into}
use Rattle.compiler.proofs.Conditions.{made-start}
use Rattle.exported.specs.Packed.{high, Packs, MadeByPacked}
use Rattle.exported.specs.Trial.{ran_answer, RunsPacked}
use Rattle.exported.proofs.Conditions.{made-unpacked}
use Rattle.promises.specs.Evaluated.{up_to15}
use Rattle.promises.specs.Mixed.{AnyCall, AnyDone, call_of, called_of}
use Rattle.promises.specs.Monkey.{KeptPacked, NotUpTo15Packed, EvaluatedPacked}
use Rattle.promises.proofs.Through.{Later}
use Rattle.promises.proofs.Evaluates.{any_ends}
use Rattle.promises.proofs.MonkeyMixed.{packed_done}

-- a number that is none of these refusals comes from such an outcome
later_outcome : (o : Outcome) {r : ℕ} → Packs (ran_answer (outcome_answer o)) r → NotUpTo15Packed r → Later o
later_outcome o p n =
    record { later = λ q f t. n.later (subst (λ k. T (is_one_of up_to15 k)) (sym (p.number ∙ ap (λ o. high (ran_answer (outcome_answer o))) f)) t) }

module _ {image : Bytes} {hs w : List ℕ} {o : Bytes} {r : ℕ} {w' : List ℕ} {o' : Bytes} (p : RunsPacked image hs w o r w' o') where
  -- what the run came to
  abbrev outcome : Outcome
  outcome = run_outcome image hs (length w) (length o)

  -- as a number and an output
  shows : (tree : Bytes) (n : ℕ) (t : Trial) → outcome ≡ trial_outcome n t → trial_end t ≡ tree_end (read_tree tree)
      → EvaluatedPacked tree o r o'
  shows tree n (Trial.ran g k) q e =
      subst (EvaluatedPacked tree o r) (sym (p.output ∙ ap (λ x. outcome_into x o) q))
      (EvaluatedPacked.globals (sym e) (p.answer.number ∙ ap (λ x. high (ran_answer (outcome_answer x))) q) (p.parts n g k q))
  shows tree n (Trial.stopped k i) q e =
      subst (EvaluatedPacked tree o r) (sym (p.output ∙ ap (λ x. outcome_into x o) q))
      (EvaluatedPacked.stop {k = k} (sym e) (p.answer.number ∙ ap (λ x. high (ran_answer (outcome_answer x))) q))

-- a first call of `monkey_compile` or `monkey_compile_names` in a session that was made accepted the tree; `monkey_run` on its image, any
-- heights, work area and output, gave a number that is none of these refusals
pub monkey_evaluates : {a : Bytes} {w : Words} → MadeByPacked a w → (c : AnyCall) {x : AnyDone} → KeptPacked (take session_size a) c x
    → (n : ℕ) → (called_of x).answer ≡ Ok n
    → (hs work : List ℕ) (o : Bytes) {r : ℕ} {work' : List ℕ} {o' : Bytes} → RunsPacked (take n (called_of x).lent.output) hs work o r work' o' → NotUpTo15Packed r → EvaluatedPacked (call_of c).tree o r o'
monkey_evaluates m c {x} k n e hs work o p later =
    let t = any_ends packed_done (made-start (made-unpacked m)) c k n e hs (length work) (length o) (later_outcome _ p.answer later) in
    shows p (call_of c).tree t.count t.run t.is t.evaluates
