-- What a trial run has come to that was refused by nothing up to 15; and the numbers with which a run stops.
use Prim.Native.Nat.{ℕ, ◌+◌, ◌*◌}
use native.Mathlib.Omega.{arith}
use mathlib.Core.Bool.{Bool, true, false}
use mathlib.Core.List.{List, [], ◌∷◌}
use mathlib.Core.Path.{◌≡◌, refl, ap, subst, ◌∙◌}
use lib.ListN.{get_or}
use lib.Dec.{T, leb, ltb, eqb}
use Rattle.std.specs.Prelude.{Option, None as none, Some as some}
use Rattle.definition.specs.Basic.{Bytes, pick}
use Rattle.definition.specs.Number.{refusal, short_buffer, output_short, bad_heights, is_one_of, number_of}
use Rattle.definition.specs.Opcode.{Instr}
use Rattle.definition.specs.Bytecode.{Code, size_of, Const, Image}
use Rattle.definition.specs.Decode.{decoded, read_image}
use Rattle.definition.specs.Trusted.{Stands, constant_at}
use Rattle.definition.specs.declared.reason.Refusal.{Refusal}
use Rattle.definition.specs.declared.reason.Reason.{Reason}
use Rattle.definition.proofs.Basic.{chosen}
use Rattle.heights.specs.Pass.{Verdict, judged}
use Rattle.definition.specs.Number
use Rattle.trial.specs.declared.cells.Value.{Value}
use Rattle.trial.specs.Value.{Globals, combined, changed}
use Rattle.trial.specs.Run.{Action, push, combine, change, constant, pop, jump_not_truthy, jump, get_global, set_global, return_value, other, action_of, integer_in, is_some, runnable_as, runnable, Frame, frame, Run, top, below, given, acted, come_to, pass, Trial, trial_of, trial, unset_globals}
use Rattle.trial.specs.Output.{named_globals}
use Rattle.trial.specs.Cells.{work_size}
use Rattle.trial.specs.Call.{refused_with, Outcome, trial_outcome, taken_outcome, image_outcome, judged_outcome, run_outcome}
use Rattle.promises.specs.Evaluated.{up_to15}

-- a run that stops does so with 28 or 29
pub data StopNumber (k : Reason) : Type 0 where
  operand : k ≡ Number.operand → StopNumber k
  unset : k ≡ Number.unset → StopNumber k

-- a run that goes on, has ended, or stopped with one of them
data Stops : Run → Type 0 where
  on : {f : Frame} → Stops (Run.on f)
  returned : {g : Globals} {k : ℕ} → Stops (Run.returned g k)
  stopped : {k : Reason} {p : ℕ} → StopNumber k → Stops (Run.stopped k p)

-- a value, or a stop
given_stops : (f : Frame) (to : ℕ) (k : Reason) (st : List Value) (o : Option Value) → StopNumber k → Stops (given f to k st o)
given_stops f to k st (some v) n = Stops.on
given_stops f to k st none n = Stops.stopped n

-- a value that is there
constant_stops : (f : Frame) (to : ℕ) (k : Reason) (st : List Value) (o : Option Value) → is_some o ≡ true → Stops (given f to k st o)
constant_stops f to k st (some v) e = Stops.on
constant_stops f to k st none e = let z : ◌≡◌ {A = ℕ} 0 1 = cc in absurd (omega arith)

-- where each instruction is one that a run takes
acted_stops : (pool : List Const) (k next : ℕ) (f : Frame) (a : Action) → runnable_as pool k a ≡ true → Stops (acted pool k next f a)
acted_stops pool k next f (push v) e = Stops.on
acted_stops pool k next f (combine o) e = given_stops f _ _ _ (combined o (top (below f.stack)) (top f.stack)) (StopNumber.operand refl)
acted_stops pool k next f (change o) e = given_stops f _ _ _ (changed o (top f.stack)) (StopNumber.operand refl)
acted_stops pool k next f constant e = constant_stops f _ _ _ (integer_in (constant_at pool k)) e
acted_stops pool k next f pop e = Stops.on
acted_stops pool k next f jump_not_truthy e = Stops.on
acted_stops pool k next f jump e = Stops.on
acted_stops pool k next f get_global e = given_stops f _ _ _ (get_or f.globals k none) (StopNumber.unset refl)
acted_stops pool k next f set_global e = Stops.on
acted_stops pool k next f return_value e = Stops.returned
acted_stops pool k next f other e = let z : ◌≡◌ {A = ℕ} 0 1 = cc in absurd (omega arith)

-- an instruction that the run comes to
come_stops : (pool : List Const) (p : ℕ) (i : Instr) {s : Run} → runnable pool i ≡ true → Stops s → Stops (come_to pool p i s)
come_stops pool p i e (Stops.on {f}) = chosen Stops (eqb f.at p) (λ _. acted_stops pool i.a _ f (action_of i) e) (λ _. Stops.on)
come_stops pool p i e Stops.returned = Stops.returned
come_stops pool p i e (Stops.stopped {k = k} {p = q} n) = Stops.stopped {k = k} {p = q} n

-- all of the code
pass_stops : (pool : List Const) (c : Code) (f : Frame) → ((i : Instr) (p : ℕ) → Stands i p c → runnable pool i ≡ true)
    → Stops (pass pool 0 c (Run.on f))
unfolding pass
pass_stops pool [] f h = Stops.on
pass_stops pool (i ∷ c) f h =
    come_stops pool (0 + size_of c) i (h i (size_of c) Stands.last) (pass_stops pool c f (λ j p s. h j p (Stands.before s)))

-- so does a trial run
pub trial_stops : (m : Image) → ((i : Instr) (p : ℕ) → Stands i p m.code → runnable m.pool i ≡ true) → {k : Reason} {p : ℕ}
    → trial m ≡ Trial.stopped k p → StopNumber k
trial_stops m h {k} {p} e =
    go (pass m.pool 0 m.code (Run.on (frame 0 [] unset_globals 0))) (pass_stops m.pool m.code (frame 0 [] unset_globals 0) h) e
  where
    go : (r : Run) → Stops r → trial_of r ≡ Trial.stopped k p → StopNumber k
    go (Run.on f) s e = let z : ◌≡◌ {A = ℕ} 0 1 = cc in absurd (omega arith)
    go (Run.returned g n) s e = let z : ◌≡◌ {A = ℕ} 0 1 = cc in absurd (omega arith)
    go (Run.stopped j q) (Stops.stopped n) e = let z : j ≡ k = cc in subst StopNumber z n

-- an outcome that is no refusal numbered 1, 17, 25, 27 or 15
pub record Later (o : Outcome) : Type 0 where
  pub later : (q : Refusal) → o ≡ Outcome.refused q → T (is_one_of up_to15 (number_of q.reason)) → ⊥

-- then the image passes, nothing of main is refused, and the outcome is the run's
pub record Through (b : Bytes) (hs : List ℕ) (work room : ℕ) (m : Image) : Type 0 where
  pub tops : List ℕ
  pub passes : judged hs m m.pool ≡ Verdict.tops tops
  pub taken : refused_with hs m ≡ none
  pub is : run_outcome b hs work room ≡ trial_outcome (named_globals m.code) (trial m)

-- such an outcome has come through all tests
pub through : (b : Bytes) (hs : List ℕ) (work room : ℕ) {m : Image} {n : ℕ} → read_image b ≡ decoded m n
    → Later (run_outcome b hs work room) → Through b hs work room m
through b hs work room {m} {n} e l = go_work (ltb work work_size) refl
  where
    go_room : (x : Bool) → (o : Outcome)
        → o ≡ pick x (trial_outcome (named_globals m.code) (trial m)) (Outcome.refused (refusal output_short 0)) → Later o
        → o ≡ trial_outcome (named_globals m.code) (trial m)
    go_room true o q l = q
    go_room false o q l = absurd (l.later (refusal output_short 0) q tt)

    go_taken : (x : Option ℕ) → refused_with hs m ≡ x → {v : List ℕ} → judged hs m m.pool ≡ Verdict.tops v → (o : Outcome)
        → run_outcome b hs work room ≡ o → o ≡ taken_outcome x m room → Later o → Through b hs work room m
    go_taken (some p) r j o s q l = absurd (l.later (refusal Number.not_runnable (3 + p)) q tt)
    go_taken none r {v} j o s q l = record { tops = v; passes = j; taken = r; is = s ∙ go_room (leb (9 * named_globals m.code) room) o q l }

    go_judged : (v : Verdict) → judged hs m m.pool ≡ v → (o : Outcome) → run_outcome b hs work room ≡ o → o ≡ judged_outcome v hs m room
        → Later o → Through b hs work room m
    go_judged (Verdict.tops ns) j o s q l = go_taken (refused_with hs m) refl j o s q l
    go_judged (Verdict.fails p) j o s q l = absurd (l.later (refusal bad_heights p) q tt)

    go_work : (x : Bool) → ltb work work_size ≡ x → Through b hs work room m
    go_work true w =
        absurd (l.later (refusal short_buffer 0) (ap (λ x. pick x (Outcome.refused (refusal short_buffer 0)) (image_outcome (read_image b) hs room)) w) tt)
    go_work false w =
        go_judged (judged hs m m.pool) refl (run_outcome b hs work room) refl
        (ap (λ x. pick x (Outcome.refused (refusal short_buffer 0)) (image_outcome (read_image b) hs room)) w ∙ ap (λ d. image_outcome d hs room) e) l
