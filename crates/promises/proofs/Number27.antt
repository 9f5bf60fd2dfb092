-- A trial run refuses with 27 at an offset exactly when its work area is long enough, the bytes read as an image that passes with the
-- heights, and the first instruction of main that a run does not take is there.
use Prim.Native.Nat.{ℕ, ◌+◌, ◌-◌, ◌*◌, ◌≤◌}
use native.Mathlib.Omega.{arith}
use mathlib.Core.Bool.{Bool, true, false}
use mathlib.Core.List.{List, [], ◌∷◌}
use mathlib.Core.Logic.{◌↔◌}
use mathlib.Core.Path.{◌≡◌, refl, sym, ap, subst, ◌∙◌}
use lib.Dec.{leb, ltb}
use lib.ListN.{length}
use borrow.Author.Tests.{leb-false, lt-leb, le-ltb, ltb-false}
use Rattle.std.specs.Prelude.{Option, None as none, Some as some, Result, Err}
use Rattle.definition.specs.Basic.{Bytes, pick, both}
use Rattle.definition.specs.Limit.{globals_limit}
use Rattle.definition.specs.Number.{refusal, number_of, short_buffer, output_short}
use Rattle.definition.specs.Opcode.{Instr}
use Rattle.definition.specs.Bytecode.{Code, size_of, Const, Image}
use Rattle.definition.specs.Decode.{Decoded, decoded, malformed, read_image}
use Rattle.definition.specs.Trusted.{Stands, constant_at}
use Rattle.definition.specs.declared.reason.Refusal.{Refusal}
use Rattle.definition.specs.declared.reason.Reason.{Reason}
use Rattle.heights.specs.Judgement.{Reaches, AllPass}
use Rattle.heights.specs.Pass.{Marks, Passing, Passed, onwards, Verdict, judged}
use Rattle.definition.proofs.Reached.{stands_within}
use Rattle.heights.proofs.Ways.{Backed}
use Rattle.heights.proofs.Accepts.{IsHeld, pass_holds}
use Rattle.heights.proofs.Verdicts.{Right, judged_right, all_judged}
use Rattle.definition.specs.Number
use Rattle.trial.specs.Run.{Action, push, combine, change, constant, pop, jump_not_truthy, jump, get_global, set_global, return_value, other, action_of, integer_in, is_some, or_else, runnable_as, runnable, Trial, trial}
use Rattle.trial.specs.declared.cells.Value.{Value}
use Rattle.trial.specs.Output.{named_globals}
use Rattle.trial.specs.Cells.{work_size, stack_limit}
use Rattle.trial.specs.Call.{taken, first_refused, refused_with, Outcome, trial_outcome, taken_outcome, judged_outcome, image_outcome, run_outcome, outcome_answer}
use Rattle.trial.specs.Promise.{TrialRuns}
use Rattle.trial.specs.declared.Ran.{Ran}
use Rattle.trial.proofs.Scanning.{refused_more, refused_none, all_taken}
use Rattle.trial.proofs.Calling.{arrived, main_safe, work_long}
use Rattle.promises.specs.Refusals.{NotRun, FirstNotRun}
use Rattle.promises.proofs.Through.{StopNumber, trial_stops}

-- no value
none_some : (o : Option Value) → is_some o ≡ false → o ≡ none
none_some (some v) e = let z : ◌≡◌ {A = ℕ} 0 1 = cc in absurd (omega arith)
none_some none e = refl

-- Each instruction: one that is not taken is one that the plain words name

module _ (m : Image) (f : Marks) (back : Backed m.code f) (there : (p x : ℕ) → Reaches m.code p x → f p ≡ 2 + x) where
  -- one that no run takes
  not-runnable : (i : Instr) (p : ℕ) → runnable m.pool i ≡ false → NotRun m i p
  not-runnable i p e = go (action_of i) refl e
    where
      never : {A : Type 0} → true ≡ false → A
      never e = let z : ◌≡◌ {A = ℕ} 0 1 = cc in absurd (omega arith)

      go : (a : Action) → action_of i ≡ a → runnable_as m.pool i.a a ≡ false → NotRun m i p
      go (push v) q e = never e
      go (combine o) q e = never e
      go (change o) q e = never e
      go constant q e = NotRun.no_integer q (none_some (integer_in (constant_at m.pool i.a)) e)
      go pop q e = never e
      go jump_not_truthy q e = never e
      go jump q e = never e
      go get_global q e = NotRun.gets q (let l = ltb-false i.a globals_limit e in omega arith)
      go set_global q e = NotRun.sets q (let l = ltb-false i.a globals_limit e in omega arith)
      go return_value q e = never e
      go other q e = NotRun.other q

  -- one that number 27 refuses
  not_taken : (i : Instr) (p : ℕ) → taken m.pool f p i ≡ false → NotRun m i p
  not_taken i p e = go (runnable m.pool i) refl (leb (f p) (2 + stack_limit)) refl e
    where
      go : (a : Bool) → runnable m.pool i ≡ a → (b : Bool) → leb (f p) (2 + stack_limit) ≡ b → both a b ≡ false → NotRun m i p
      go false q b r e = not-runnable i p q
      go true q false r e =
          let l = leb-false (f p) (2 + stack_limit) r in NotRun.high {x = f p - 2} (back.way p (f p - 2) (omega arith)) (omega arith)
      go true q true r e = let z : ◌≡◌ {A = ℕ} 0 1 = cc in absurd (omega arith)

  -- and the other way round
  both_no : (a b : Bool) → b ≡ false → both a b ≡ false
  both_no true b e = e
  both_no false b e = refl

  -- what the plain words refuse is not taken
  refuses : (i : Instr) (p : ℕ) → NotRun m i p → taken m.pool f p i ≡ false
  refuses i p (NotRun.other q) = ap (λ a. both (runnable_as m.pool i.a a) (leb (f p) (2 + stack_limit))) q
  refuses i p (NotRun.no_integer q n) =
      ap (λ a. both (runnable_as m.pool i.a a) (leb (f p) (2 + stack_limit))) q ∙ ap (λ o. both (is_some o) (leb (f p) (2 + stack_limit))) n
  refuses i p (NotRun.gets q l) =
      ap (λ a. both (runnable_as m.pool i.a a) (leb (f p) (2 + stack_limit))) q
      ∙ ap (λ b. both b (leb (f p) (2 + stack_limit))) (le-ltb i.a globals_limit (omega arith))
  refuses i p (NotRun.sets q l) =
      ap (λ a. both (runnable_as m.pool i.a a) (leb (f p) (2 + stack_limit))) q
      ∙ ap (λ b. both b (leb (f p) (2 + stack_limit))) (le-ltb i.a globals_limit (omega arith))
  refuses i p (NotRun.high {x =
      x} r l) = let e = there p x r in both_no (runnable m.pool i) _ (lt-leb (f p) (2 + stack_limit) (omega arith))

-- The first of code

-- the first instruction that is not taken
record First (pool : List Const) (f : Marks) (c : Code) (q : ℕ) : Type 0 where
  instr : Instr
  stands : Stands instr q c
  refused : taken pool f q instr ≡ false
  first : {j : Instr} {p : ℕ} → Stands j p c → taken pool f p j ≡ false → q ≤ p

-- a test does not give both
true-false : {A : Type 0} {b : Bool} → b ≡ true → b ≡ false → A
true-false p q = let z : ◌≡◌ {A = ℕ} 0 1 = cc in absurd (omega arith)

module _ (pool : List Const) (f : Marks) where
  -- the first position is it
  found : (c : Code) {q : ℕ} → first_refused pool f c ≡ some q → First pool f c q
  found [] {q} e = absurd (never (sym (refused_none pool f) ∙ e))
    where
      never : none ≡ some q → ⊥
      never e = let z : ◌≡◌ {A = ℕ} 0 1 = cc in omega arith
  found (i ∷ c) {q} e = go (first_refused pool f c) refl (λ p d. found c d) (taken pool f (size_of c) i) refl (sym (refused_more pool f i c) ∙ e)
    where
      later : First pool f c q → First pool f (i ∷ c) q
      later r = record { instr = r.instr; stands = Stands.before r.stands; refused = r.refused; first = λ s t. at s t }
        where
          at : {j : Instr} {p : ℕ} → Stands j p (i ∷ c) → taken pool f p j ≡ false → q ≤ p
          at Stands.last t = let l = stands_within r.stands in omega arith
          at (Stands.before s) t = r.first s t

      here : first_refused pool f c ≡ none → taken pool f (size_of c) i ≡ false → First pool f (i ∷ c) (size_of c)
      here n t = record { instr = i; stands = Stands.last; refused = t; first = λ s t. at s t }
        where
          at : {j : Instr} {p : ℕ} → Stands j p (i ∷ c) → taken pool f p j ≡ false → size_of c ≤ p
          at Stands.last t = omega arith
          at (Stands.before s) t = true-false (all_taken pool f c n s) t

      go : (o : Option ℕ) → first_refused pool f c ≡ o → ((p : ℕ) → first_refused pool f c ≡ some p → First pool f c p) → (b : Bool)
          → taken pool f (size_of c) i ≡ b → or_else o (pick b none (some (size_of c))) ≡ some q → First pool f (i ∷ c) q
      go (some p) r d b t e = let z : p ≡ q = cc in later (subst (First pool f c) z (d p r))
      go none r d true t e = let z : ◌≡◌ {A = ℕ} 0 1 = cc in absurd (omega arith)
      go none r d false t e = let z : size_of c ≡ q = cc in subst (First pool f (i ∷ c)) z (here r t)

  -- and it is the first position
  finds : {c : Code} {q : ℕ} → First pool f c q → first_refused pool f c ≡ some q
  finds {c} {q} k = go (first_refused pool f c) refl
    where
      go : (o : Option ℕ) → first_refused pool f c ≡ o → first_refused pool f c ≡ some q
      go none e = true-false (all_taken pool f c e k.stands) k.refused
      go (some p) e =
          let r = found c e in let a = k.first r.stands r.refused in let b = r.first k.stands k.refused in let z : p ≡ q = omega arith in e ∙ ap some z

-- Main, where all chunks pass

module _ (hs : List ℕ) (m : Image) {ns : List ℕ} (e : judged hs m m.pool ≡ Verdict.tops ns) where
  -- every height that arrives in main is reached
  backed : Backed m.code (arrived hs m e).state.marks
  backed = go (subst (IsHeld hs 0 (size_of m.code) m.code) (arrived hs m e).passed (pass_holds hs 0 (size_of m.code) m.code))
    where
      go : {s : Passing} → IsHeld hs 0 (size_of m.code) m.code (Passed.passed s) → Backed m.code s.marks
      go (IsHeld.held h) = h.backed m.code (record { placed = λ b. b })

  -- number 27 looks at what arrives
  refused_is : refused_with hs m ≡ first_refused m.pool (arrived hs m e).state.marks m.code
  refused_is = ap (λ r. onwards r none (λ s. first_refused m.pool s.marks m.code)) (arrived hs m e).passed

  -- the first instruction of main that a run does not take
  record FirstIn (q : ℕ) : Type 0 where
    instr : Instr
    stands : Stands instr q m.code
    not_run : NotRun m instr q
    first : {j : Instr} {p : ℕ} → Stands j p m.code → NotRun m j p → q ≤ p

  -- a position that 27 refuses is its
  first_in : {q : ℕ} → refused_with hs m ≡ some q → FirstIn q
  first_in {q} r =
      let k = found m.pool (arrived hs m e).state.marks m.code (sym refused_is ∙ r) in
      record {
        instr = k.instr;
        stands = k.stands;
        not_run = not_taken m (arrived hs m e).state.marks backed (λ p x r. (arrived hs m e).arrives_there r) k.instr q k.refused;
        first = λ {j} {p} s n. k.first s (refuses m (arrived hs m e).state.marks backed (λ p x r. (arrived hs m e).arrives_there r) j p n);
      }

  -- and its position is the one that 27 refuses
  first_is : {i : Instr} {q : ℕ} → Stands i q m.code → NotRun m i q → ((j : Instr) (p : ℕ) → Stands j p m.code → NotRun m j p → q ≤ p)
      → refused_with hs m ≡ some q
  first_is {i} {q} s n h =
      refused_is
      ∙ finds m.pool (arrived hs m e).state.marks
      (record {
        instr = i;
        stands = s;
        refused = refuses m (arrived hs m e).state.marks backed (λ p x r. (arrived hs m e).arrives_there r) i q n;
        first = λ {j} {p} s t. h j p s (not_taken m (arrived hs m e).state.marks backed (λ p x r. (arrived hs m e).arrives_there r) j p t);
      })

-- The call

module _ (b : Bytes) (hs : List ℕ) (work room p : ℕ) where
  -- an outcome that is answered with 27 at the place
  abbrev Is27 : Outcome → Type 0
  Is27 o = outcome_answer o ≡ Err (refusal Number.not_runnable p)

  -- another number
  other_number : {n : Reason} {k : ℕ} → ◌≡◌ {A = Result Ran Refusal} (Err (refusal n k)) (Err (refusal Number.not_runnable p)) → number_of n ≡ number_of Number.not_runnable
  other_number {n} {k} e = let z : refusal n k ≡ refusal Number.not_runnable p = cc in ap (λ (r : Refusal). number_of r.reason) z

  module _ (long : work_size ≤ work) (m : Image) (n : ℕ) (reads : read_image b ≡ decoded m n) {ns : List ℕ} (e : judged hs m m.pool ≡ Verdict.tops ns) where
    -- every chunk passes
    passes : AllPass hs m m.pool
    passes = go (judged_right hs m m.pool) e
      where
        go : {v : Verdict} → Right hs m m.pool v → v ≡ Verdict.tops ns → AllPass hs m m.pool
        go (Right.tops a u) q = a
        go (Right.fails {at} f) q = let z : ◌≡◌ {A = ℕ} 0 1 = cc in absurd (omega arith)

    -- not by the run
    go_trial : refused_with hs m ≡ none → (t : Trial) → trial m ≡ t → Is27 (trial_outcome (named_globals m.code) t)
        → FirstNotRun b hs work p
    go_trial r (Trial.ran g k) q i = let z : ◌≡◌ {A = ℕ} 0 1 = cc in absurd (omega arith)
    go_trial r (Trial.stopped k at) q i = absurd (never (trial_stops m (λ i p s. (main_safe hs m e r).runs s) q) (other_number i))
      where
        never : StopNumber k → number_of k ≡ number_of Number.not_runnable → ⊥
        never (StopNumber.operand a) b = let e = ap number_of a in omega arith
        never (StopNumber.unset a) b = let e = ap number_of a in omega arith

    -- not by the output
    go_room : refused_with hs m ≡ none → (x : Bool)
        → Is27 (pick x (trial_outcome (named_globals m.code) (trial m)) (Outcome.refused (refusal output_short 0)))
        → FirstNotRun b hs work p
    go_room r true i = go_trial r (trial m) refl i
    go_room r false i = let z = other_number i in absurd (omega arith)

    -- by the first position
    go_taken : (o : Option ℕ) → refused_with hs m ≡ o → Is27 (taken_outcome o m room) → FirstNotRun b hs work p
    go_taken (some q) r i =
        let k = first_in hs m e r in
        let z : refusal Number.not_runnable (3 + q) ≡ refusal Number.not_runnable p = cc in
        record {
          long = long;
          image = m;
          end = n;
          reads = reads;
          passes = passes;
          instruction = k.instr;
          position = q;
          stands = k.stands;
          place = sym (ap (λ (r : Refusal). r.place) z);
          not_run = k.not_run;
          first = k.first;
        }
    go_taken none r i = go_room r (leb (9 * named_globals m.code) room) i

  -- by the verdict on the chunks
  go_judged : work_size ≤ work → (m : Image) (n : ℕ) → read_image b ≡ decoded m n → (v : Verdict) → judged hs m m.pool ≡ v
      → Is27 (judged_outcome v hs m room) → FirstNotRun b hs work p
  go_judged long m n reads (Verdict.tops ns) e i = go_taken long m n reads e (refused_with hs m) refl i
  go_judged long m n reads (Verdict.fails at) e i = let z = other_number i in absurd (omega arith)

  -- by the image
  go_image : work_size ≤ work → (d : Decoded Image) → read_image b ≡ d → Is27 (image_outcome d hs room) → FirstNotRun b hs work p
  go_image long (decoded m n) reads i = go_judged long m n reads (judged hs m m.pool) refl i
  go_image long (malformed k) reads i = let z = other_number i in absurd (omega arith)

  -- by the work area
  go_work : (x : Bool) → ltb work work_size ≡ x
      → Is27 (pick x (Outcome.refused (refusal short_buffer 0)) (image_outcome (read_image b) hs room)) → FirstNotRun b hs work p
  go_work true w i = let z = other_number i in absurd (omega arith)
  go_work false w i = go_image (ltb-false work work_size w) (read_image b) refl i

  -- refused so
  is_27 : FirstNotRun b hs work p → Is27 (run_outcome b hs work room)
  is_27 k =
      let m = k.image in
      let j = all_judged hs m m.pool k.passes in
      let r = first_is hs m j.1 k.stands k.not_run (λ j q s n. k.first s n) in
      ap outcome_answer
      (work_long b hs work room k.long ∙ ap (λ d. image_outcome d hs room) k.reads ∙ ap (λ v. judged_outcome v hs m room) j.1 ∙ ap (λ o. taken_outcome o m room) r)
      ∙ ap (λ p. Err (refusal Number.not_runnable p)) (sym k.place)

  -- of the answer
  answered : Is27 (run_outcome b hs work room) ↔ FirstNotRun b hs work p
  answered = (λ i. go_work (ltb work work_size) refl i, is_27)

-- Number 27, of any call that keeps the promise of `run`
pub number_27 : {b : Bytes} {hs w w' : List ℕ} {o o' : Bytes} {r : Result Ran Refusal} → TrialRuns b hs w o r w' o' → (p : ℕ)
    → (r ≡ Err (refusal Number.not_runnable p)) ↔ FirstNotRun b hs (length w) p
number_27 {b} {hs} {w} {o = o} k p =
    let e = answered b hs (length w) (length o) p in (λ i. e.0 (sym k.answer ∙ i), λ f. k.answer ∙ e.1 f)
