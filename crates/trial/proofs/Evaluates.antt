-- P13's claim: of a tree that a fresh session accepts, running its image gives the globals that evaluating the tree gives, or a stop of the same number.
use Rattle.std.proofs.Common.{◌≡◌, ℕ, ◌*◌, ◌≤◌, Bool, true, false, T, ltb, leb, List, [], ◌∷◌, length, take, sym, refl, ap, ◌∙◌, subst, arith}
use Rattle.std.specs.Prelude.{Option, None as none, Some as some, Ok, Err}
use Rattle.definition.specs.Basic.{Bytes, pick}
use Rattle.definition.specs.Number.{refusal, short_buffer, output_short}
use Rattle.definition.specs.Opcode.{Instr}
use Rattle.definition.specs.Bytecode.{Code, size_of, Const, Image, image_bytes}
use Rattle.definition.specs.Session.{Words, begun}
use Rattle.definition.specs.Decode.{decoded, read_image}
use Rattle.definition.specs.Tree.{read_tree}
use Rattle.definition.specs.Trusted.{Stands}
use Rattle.definition.specs.Compile as Compile
use Rattle.definition.specs.Compile.{Request, Step, compile, steps}
use Rattle.definition.specs.Call.{Called, call, request}
use Rattle.definition.specs.Series.{Call, Start, lent}
use Rattle.definition.specs.Valid.{All, ValidWords}
use Rattle.definition.specs.declared.reason.Refusal.{Refusal}
use Rattle.definition.proofs.Series.{Gave, call_does, start_holds}
use Rattle.heights.specs.Judgement.{Offers}
use Rattle.heights.specs.Pass.{Verdict, judged}
use Rattle.heights.proofs.Verdicts.{all_judged}
use Rattle.heights.proofs.Compiled.{HeightsPass, compile_heights_pass}
use Rattle.trial.specs.Value.{Globals}
use Rattle.trial.specs.Run.{runnable, Trial, trial}
use Rattle.trial.specs.Evaluate.{End, trial_end, tree_end}
use Rattle.trial.specs.Output.{named_globals}
use Rattle.trial.specs.Cells.{work_size}
use Rattle.trial.specs.Call.{refused_with, Outcome, trial_outcome, taken_outcome, image_outcome, judged_outcome, run_outcome}
use Rattle.trial.proofs.MainNames.{Runnable}
use Rattle.trial.proofs.Trials.{call_agrees}
use Rattle.trial.proofs.Passes.{trial-steps}
use Rattle.trial.proofs.Calling.{work_long, main_safe, enough_room}
use Rattle.definition.specs.Answer.{Answer}

-- the end of a call: the globals, or the number of its refusal
abbrev pub outcome_end : Outcome → End
outcome_end (Outcome.ran n g k) = End.globals g
outcome_end (Outcome.refused r) = End.stop r.reason

trial-end : (n : ℕ) (t : Trial) → outcome_end (trial_outcome n t) ≡ trial_end t
trial-end n (Trial.ran g k) = refl
trial-end n (Trial.stopped k p) = refl

-- each instruction is one that a run takes
pub all_runnable : (pool : List Const) (c : Code) → ((i : Instr) (p : ℕ) → Stands i p c → runnable pool i ≡ true) → Runnable pool c
all_runnable pool [] h = All.none
all_runnable pool (i ∷ c) h = All.more (subst T (sym (h i (size_of c) Stands.last)) tt) (all_runnable pool c (λ j p s. h j p (Stands.before s)))

-- of one call
one_passes : (w : Words) → ValidWords w → (c : Request) → HeightsPass (compile (begun w) c)
one_passes w v c = go (compile_heights_pass w v (c ∷ []))
  where
    go : {x : Step} {xs : List Step} → All HeightsPass (x ∷ xs) → HeightsPass x
    go (All.more h hs) = h

module _ (hs : List ℕ) (work room : ℕ) (long : work_size ≤ work) where
  -- the image of an accepted tree, with heights that offer each reached instruction its own; 27 and 15 do not refuse it
  pub run_evaluates : (w : Words) → ValidWords w → (c : Request) {m : Image} → (compile (begun w) c).outcome ≡ Compile.Outcome.accepted m → Offers hs m → refused_with hs m ≡ none → 9 * named_globals m.code ≤ room
      → outcome_end (run_outcome (image_bytes m) hs work room) ≡ tree_end (read_tree c.tree)
  run_evaluates w v c {m} e o r l =
      let h = one_passes w v c in
      let j = all_judged hs m m.pool (h.passes m e hs o) in
      let s = main_safe hs m j.1 r in
      ap outcome_end (work_long (image_bytes m) hs work room long ∙ ap (λ d. image_outcome d hs room) (h.reads m e) ∙ ap (λ v. judged_outcome v hs m room) j.1 ∙ enough_room m room r refl l)
      ∙ trial-end (named_globals m.code) (trial m)
      ∙ call_agrees w c e (all_runnable m.pool m.code (λ i p q. s.runs q))

  -- the same on lent memory: the first call on a session that was made, with either call, and what it wrote
  pub call_evaluates : {a : Bytes} {w : Words} → Start a w → (c : Call) (n : ℕ) → (call c.tree (lent a c)).answer ≡ Ok n
      → (m : Image) → read_image (take n (call c.tree (lent a c)).lent.output) ≡ decoded m n → Offers hs m → refused_with hs m ≡ none → 9 * named_globals m.code ≤ room
      → outcome_end (run_outcome (take n (call c.tree (lent a c)).lent.output) hs work room) ≡ tree_end (read_tree c.tree)
  call_evaluates {a} {w} h c n e m i o r l = go (compile (begun w) (request (lent a c) c.tree)).outcome refl (call_does a (begun w) (start_holds h) c).gave e i
    where
      same : {k n : ℕ} → ◌≡◌ {A = Answer} (Ok k) (Ok n) → k ≡ n
      same e = cc

      image_same : {k m : Image} {i n : ℕ} → decoded k i ≡ decoded m n → k ≡ m
      image_same e = cc

      never : {s : Refusal} {n : ℕ} → ◌≡◌ {A = Answer} (Err s) (Ok n) → ⊥
      never e = let z : ◌≡◌ {A = ℕ} 0 1 = cc in omega arith

      go : (y : Compile.Outcome) → (compile (begun w) (request (lent a c) c.tree)).outcome ≡ y → {x : Called} → Gave y x → x.answer ≡ Ok n → read_image (take n x.lent.output) ≡ decoded m n → outcome_end (run_outcome (take n x.lent.output) hs work room) ≡ tree_end (read_tree c.tree)
      go (Compile.Outcome.accepted k) q {x} (Gave.accepted b t g) e i =
          let z : length (image_bytes k) ≡ n = same (sym b ∙ e) in
          let f : image_bytes k ≡ take n x.lent.output = sym t ∙ ap (λ n. take n x.lent.output) z in
          let v : k ≡ m = image_same (sym ((one_passes w (start_holds h).valid.words (request (lent a c) c.tree)).reads k q) ∙ ap read_image f ∙ i) in
          subst (λ b. outcome_end (run_outcome b hs work room) ≡ tree_end (read_tree c.tree)) f
          (run_evaluates w (start_holds h).valid.words (request (lent a c) c.tree) q (subst (Offers hs) (sym v) o) (subst (λ m. refused_with hs m ≡ none) (sym v) r) (subst (λ (m : Image). 9 * named_globals m.code ≤ room) (sym v) l))
      go (Compile.Outcome.refused s) q (Gave.refused b) e i = absurd (never (sym b ∙ e))

-- the steps of a call are at most main's instructions
pub run-steps : (b : Bytes) (hs : List ℕ) (work room : ℕ) {n : ℕ} (g : Globals) {k : ℕ} → run_outcome b hs work room ≡ Outcome.ran n g k → {m : Image} {i : ℕ} → read_image b ≡ decoded m i → k ≤ length m.code
run-steps b hs work room {n} g {k} e {m} {i} q = go_work (ltb work work_size) e
  where
    never : {A : Type 0} {r : Refusal} → Outcome.refused r ≡ Outcome.ran n g k → A
    never e = let z : ◌≡◌ {A = ℕ} 0 1 = cc in absurd (omega arith)

    go_trial : (c : ℕ) (t : Trial) → trial m ≡ t → trial_outcome c t ≡ Outcome.ran n g k → k ≤ length m.code
    go_trial c (Trial.ran f s) u e = let z : s ≡ k = cc in let l = trial-steps m u in omega (arith, z, l)
    go_trial c (Trial.stopped s p) u e = never e

    go_room : (x : Bool) → pick x (trial_outcome (named_globals m.code) (trial m)) (Outcome.refused (refusal output_short 0)) ≡ Outcome.ran n g k → k ≤ length m.code
    go_room true e = go_trial (named_globals m.code) (trial m) refl e
    go_room false e = never e

    go_taken : (o : Option ℕ) → taken_outcome o m room ≡ Outcome.ran n g k → k ≤ length m.code
    go_taken (some p) e = never e
    go_taken none e = go_room (leb (9 * named_globals m.code) room) e

    go_judged : (v : Verdict) → judged_outcome v hs m room ≡ Outcome.ran n g k → k ≤ length m.code
    go_judged (Verdict.tops ns) e = go_taken (refused_with hs m) e
    go_judged (Verdict.fails p) e = never e

    go_work : (x : Bool) → pick x (Outcome.refused (refusal short_buffer 0)) (image_outcome (read_image b) hs room) ≡ Outcome.ran n g k → k ≤ length m.code
    go_work true e = never e
    go_work false e = go_judged (judged hs m m.pool) (sym (ap (λ d. image_outcome d hs room) q) ∙ e)
