-- Of a tree accepted in a fresh session, whose image a trial run refuses with no number up to 15, running gives the globals that evaluating
-- the tree gives, or a stop of the same number.
use Prim.Native.Nat.{ℕ, ◌/◌}
use native.Mathlib.Omega.{arith}
use mathlib.Core.List.{List}
use mathlib.Core.Path.{◌≡◌, refl, sym, ap, subst, subst₂, ◌∙◌}
use lib.ListN.{length, take}
use Rattle.std.specs.Prelude.{Result, Ok}
use Rattle.definition.specs.Basic.{Bytes}
use Rattle.definition.specs.Limit.{session_size}
use Rattle.definition.specs.Bytecode.{Image, image_bytes}
use Rattle.definition.specs.Session.{Words, begun}
use Rattle.definition.specs.Decode.{decoded, read_image}
use Rattle.definition.specs.Tree.{read_tree}
use Rattle.definition.specs.Compile as Compile
use Rattle.definition.specs.Compile.{compile}
use Rattle.definition.specs.Call.{Lent, Called, call, request}
use Rattle.definition.specs.Series.{Call, Start, lent}
use Rattle.definition.proofs.Series.{Gave, call_does, start_holds}
use Rattle.definition.proofs.Steps.{compile-valid}
use Rattle.definition.proofs.Images.{read-image}
use Rattle.compiler.specs.Promise.{MadeBy}
use Rattle.compiler.proofs.Conditions.{made-start}
use Rattle.records.specs.Call.{turn}
use Rattle.records.proofs.Logged.{accepted_plain}
use Rattle.names.specs.Promise.{blanks}
use Rattle.trial.specs.Evaluate.{tree_end, trial_end}
use Rattle.trial.specs.Output.{named_globals}
use Rattle.trial.specs.Run.{Trial, trial}
use Rattle.trial.specs.Call.{Outcome, trial_outcome, run_outcome, outcome_answer, outcome_into}
use Rattle.trial.specs.Promise.{TrialRuns}
use Rattle.trial.specs.declared.Ran.{Ran}
use Rattle.definition.specs.declared.reason.Refusal.{Refusal}
use Rattle.trial.proofs.Evaluates.{all_runnable}
use Rattle.trial.proofs.Trials.{call_agrees}
use Rattle.trial.proofs.Calling.{main_safe}
use Rattle.promises.specs.Evaluated.{NotUpTo15, EvaluatedAs}
use Rattle.promises.specs.Mixed.{AnyCall, AnyDone, call_of, called_of, turn_of, Kept}
use Rattle.promises.proofs.Mixed.{called_done, kept_done, Gives}
use Rattle.promises.proofs.Through.{Later, through}

-- an answer that is none of the refusals up to 15 comes from such an outcome
pub later_outcome : (o : Outcome) {r : Result Ran Refusal} → r ≡ outcome_answer o → NotUpTo15 r → Later o
later_outcome o {r} e n = record { later = λ q f t. n.later q (e ∙ ap outcome_answer f) t }

-- what a call wrote, in a session that was made
pub record Accepted (a : Bytes) (w : Words) (c : Call) (n : ℕ) (x : Called) : Type 0 where
  pub image : Image
  pub outcome : (compile (begun w) (request (lent a c) c.tree)).outcome ≡ Compile.Outcome.accepted image
  pub reads : read_image (take n x.lent.output) ≡ decoded image (length (image_bytes image))

-- it is the definition's image
pub accepted : {a : Bytes} {w : Words} → Start a w → (c : Call) {n : ℕ} → (call c.tree (lent a c)).answer ≡ Ok n
    → Accepted a w c n (call c.tree (lent a c))
accepted {a} {w} h c {n} e =
    go (compile (begun w) (request (lent a c) c.tree)).outcome refl (call_does a (begun w) (start_holds h) c).gave e
  where
    go : (y : Compile.Outcome) → (compile (begun w) (request (lent a c) c.tree)).outcome ≡ y → {x : Called} → Gave y x → x.answer ≡ Ok n
        → Accepted a w c n x
    go (Compile.Outcome.accepted m) q {x} (Gave.accepted b t g) e =
        let z : length (image_bytes m) ≡ n = cc in
        let v = (compile-valid (begun w) (start_holds h).valid (request (lent a c) c.tree)).image m q in
        record { image = m; outcome = q; reads = ap (λ n. read_image (take n x.lent.output)) (sym z) ∙ ap read_image t ∙ read-image m v }
    go (Compile.Outcome.refused s) q (Gave.refused b) e = let z : ◌≡◌ {A = ℕ} 0 1 = cc in absurd (omega arith)

-- how a run ends beside the tree: as a trial does that ends as evaluating the tree does
pub record Ends (tree : Bytes) (x : Outcome) : Type 0 where
  pub count : ℕ
  pub run : Trial
  pub is : x ≡ trial_outcome count run
  pub evaluates : trial_end run ≡ tree_end (read_tree tree)

-- of the definition's calls
pub call_ends : {a : Bytes} {w : Words} → Start a w → (c : Call) {n : ℕ} → (call c.tree (lent a c)).answer ≡ Ok n
    → (hs : List ℕ) (work room : ℕ)
    → Later (run_outcome (take n (call c.tree (lent a c)).lent.output) hs work room) → Ends c.tree (run_outcome (take n (call c.tree (lent a c)).lent.output) hs work room)
call_ends {a} {w} h c {n} e hs work room l =
    let k = accepted h c e in
    let m = k.image in
    let t = through (take n (call c.tree (lent a c)).lent.output) hs work room k.reads l in
    let s = main_safe hs m t.passes t.taken in
    record { count = named_globals m.code; run = trial m; is = t.is; evaluates = call_agrees w (request (lent a c) c.tree) k.outcome (all_runnable m.pool m.code (λ i p q. s.runs q)) }

-- of a call that wrote what the definition's plain call writes
pub real_ends : {a : Bytes} {w : Words} → Start a w → (c : Call) {n : ℕ} {l' : Lent} → (call c.tree (lent a c)).answer ≡ Ok n
    → l' ≡ (call c.tree (lent a c)).lent → (hs : List ℕ) (work room : ℕ)
    → Later (run_outcome (take n l'.output) hs work room) → Ends c.tree (run_outcome (take n l'.output) hs work room)
real_ends {a} h c {n} e p hs work room =
    subst (λ (l : Lent). Later (run_outcome (take n l.output) hs work room) → Ends c.tree (run_outcome (take n l.output) hs work room)) (sym p) (call_ends h c e hs work room)

-- as an answer and an output
shows : (tree o : Bytes) {x : Outcome} (n : ℕ) (t : Trial) → x ≡ trial_outcome n t → trial_end t ≡ tree_end (read_tree tree)
    → {r : Result Ran Refusal} {o' : Bytes} → r ≡ outcome_answer x → o' ≡ outcome_into x o → EvaluatedAs tree o r o'
shows tree o n (Trial.ran g k) q e f d =
    subst₂ (EvaluatedAs tree o) (sym (f ∙ ap outcome_answer q)) (sym (d ∙ ap (λ x. outcome_into x o) q)) (EvaluatedAs.globals (sym e))
shows tree o n (Trial.stopped k p) q e f d =
    subst₂ (EvaluatedAs tree o) (sym (f ∙ ap outcome_answer q)) (sym (d ∙ ap (λ x. outcome_into x o) q)) (EvaluatedAs.stop (sym e))

-- a plain call, and one with records or numbers, that was accepted wrote what the plain call writes
pub done_plain : (s : Bytes) (c : AnyCall) {n : ℕ} → (turn s (turn_of c)).called.answer ≡ Ok n
    → (turn s (turn_of c)).called ≡ call (call_of c).tree (lent s (call_of c))
done_plain s (AnyCall.plain c) e = refl
done_plain s (AnyCall.records c rs) {n} e = accepted_plain c.tree (lent s c) rs n e
done_plain s (AnyCall.names c xs) {n} e = accepted_plain c.tree (lent s c) (blanks (length xs / 4)) n e

-- what calls that give what the definition's turns give wrote
pub any_ends : {K : Bytes → AnyCall → AnyDone → Type 0} → Gives K → {a : Bytes} {w : Words} → Start a w → (c : AnyCall) {x : AnyDone}
    → K a c x → (n : ℕ) → (called_of x).answer ≡ Ok n → (hs : List ℕ) (work room : ℕ)
    → Later (run_outcome (take n (called_of x).lent.output) hs work room) → Ends (call_of c).tree (run_outcome (take n (called_of x).lent.output) hs work room)
any_ends g {a} h c {x} k n e hs work room =
    let d : called_of x ≡ (turn a (turn_of c)).called = ap called_of (g a c x k) ∙ called_done c (turn a (turn_of c)) in
    let p : called_of x ≡ call (call_of c).tree (lent a (call_of c)) = d ∙ done_plain a c (sym (ap (λ (y : Called). y.answer) d) ∙ e) in
    real_ends h (call_of c) (sym (ap (λ (y : Called). y.answer) p) ∙ e) (ap (λ (y : Called). y.lent) p) hs work room

-- a first call in a session that was made, of any kind, accepted the tree; a call that keeps the promise of `run`, on its image, any
-- heights, work area and output, is refused with none of 1, 17, 25, 27 and 15
pub compile_evaluates : {a : Bytes} {w : Words} → MadeBy a w → (c : AnyCall) {x : AnyDone} → Kept (take session_size a) c x → (n : ℕ)
    → (called_of x).answer ≡ Ok n
    → (hs work : List ℕ) (o : Bytes) {r : Result Ran Refusal} {work' : List ℕ} {o' : Bytes}
    → TrialRuns (take n (called_of x).lent.output) hs work o r work' o' → NotUpTo15 r → EvaluatedAs (call_of c).tree o r o'
compile_evaluates m c k n e hs work o p later =
    let t = any_ends kept_done (made-start m) c k n e hs (length work) (length o) (later_outcome _ p.answer later) in
    shows (call_of c).tree o t.count t.run t.is t.evaluates p.answer p.output
