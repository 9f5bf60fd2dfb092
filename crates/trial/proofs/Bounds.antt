-- Bounds of the answers: the globals and the steps, the numbers, the places.
use Rattle.std.proofs.Common.{◌≡◌, ℕ, ◌+◌, ◌*◌, ◌<◌, ◌≤◌, Bool, true, false, eqb, ltb, leb, List, [], ◌∷◌, length, get_or, sym, refl, ap, ◌∙◌, arith, eqb-true}
use Rattle.std.specs.Prelude.{Option, None as none, Some as some, Err}
use Rattle.definition.specs.Basic.{Bytes, pick}
use Rattle.definition.specs.Limit.{image_limit}
use Rattle.definition.specs.Number.{refusal, short_buffer, output_short, bad_image, bad_heights, number_of}
use Rattle.definition.specs.Opcode.{Instr}
use Rattle.definition.specs.Bytecode.{Code, size_of, Const, Image}
use Rattle.definition.specs.Decode.{Decoded, decoded, malformed, read_image}
use Rattle.definition.specs.Valid.{AreBytes}
use Rattle.definition.specs.Trusted.{constant_at}
use Rattle.definition.specs.Answer.{Answer}
use Rattle.definition.specs.declared.reason.Refusal.{Refusal}
use Rattle.definition.proofs.Basic.{chosen}
use Rattle.definition.proofs.Images.{read-image, write-image}
use Rattle.definition.proofs.Places.{Within}
use Rattle.listing.specs.Reads.{ImageAt}
use Rattle.listing.proofs.Images.{parts, image_short}
use Rattle.heights.specs.Pass.{Marks, Passed, onwards, pass as checked, Verdict, judged, heights_answer, verdict_answer}
use Rattle.heights.proofs.Bounds.{heights_numbers, heights_within}
use Rattle.definition.specs.Number
use Rattle.trial.specs.Value.{Value, Globals, combined, changed}
use Rattle.trial.specs.Run.{Action, push, combine, change, constant, pop, jump_not_truthy, jump, get_global, set_global, return_value, other, action_of, integer_in, or_else, Frame, frame, Run, top, below, given, acted, come_to, pass, trial_of, trial, unset_globals}
use Rattle.trial.specs.Output.{named_globals}
use Rattle.trial.specs.Cells.{work_size}
use Rattle.trial.specs.Call.{taken, first_refused, refused_with, Outcome, trial_outcome, taken_outcome, judged_outcome, image_outcome, run_outcome}
use Rattle.trial.proofs.Passes.{trial-steps}
use Rattle.definition.proofs.Instructions.{code-count}
use Rattle.trial.proofs.Scanning.{refused_more, refused_none}
use Rattle.trial.proofs.Calling.{names_few}
use Rattle.definition.specs.declared.reason.Reason.{Reason}

-- a run that stops does so with a number of its own, before a position
data Stops (n : ℕ) : Run → Type 0 where
  on : {f : Frame} → Stops n (Run.on f)
  returned : {g : Globals} {k : ℕ} → Stops n (Run.returned g k)
  stopped : {k : Reason} {p : ℕ} → 0 < number_of k → number_of k < 30 → p < n → Stops n (Run.stopped k p)

given_stops : {n : ℕ} (f : Frame) (to : ℕ) (k : Reason) (st : List Value) (o : Option Value) → 0 < number_of k → number_of k < 30 → f.at < n → Stops n (given f to k st o)
given_stops f to k st (some v) a b h = Stops.on
given_stops f to k st none a b h = Stops.stopped a b h

acted_stops : {n : ℕ} (pool : List Const) (k next : ℕ) (f : Frame) (a : Action) → f.at < n → Stops n (acted pool k next f a)
acted_stops pool k next f (push v) h = Stops.on
acted_stops pool k next f (combine o) h = given_stops f _ _ _ (combined o (top (below f.stack)) (top f.stack)) (omega arith) (omega arith) h
acted_stops pool k next f (change o) h = given_stops f _ _ _ (changed o (top f.stack)) (omega arith) (omega arith) h
acted_stops pool k next f constant h = given_stops f _ _ _ (integer_in (constant_at pool k)) (omega arith) (omega arith) h
acted_stops pool k next f pop h = Stops.on
acted_stops pool k next f jump_not_truthy h = Stops.on
acted_stops pool k next f jump h = Stops.on
acted_stops pool k next f get_global h = given_stops f _ _ _ (get_or f.globals k none) (omega arith) (omega arith) h
acted_stops pool k next f set_global h = Stops.on
acted_stops pool k next f return_value h = Stops.returned
acted_stops pool k next f other h = Stops.stopped {k = Number.not_runnable} {p = f.at} (omega arith) (omega arith) h

come_stops : {n m : ℕ} (pool : List Const) (p : ℕ) (i : Instr) {s : Run} → n ≤ m → p < m → Stops n s → Stops m (come_to pool p i s)
come_stops {m = m} pool p i l h (Stops.on {f}) = chosen (Stops m) (eqb f.at p) (λ e. let q = eqb-true f.at p e in acted_stops pool i.a _ f (action_of i) (omega arith)) (λ _. Stops.on)
come_stops pool p i l h Stops.returned = Stops.returned
come_stops pool p i l h (Stops.stopped {k = k} {p = q} a b c) = Stops.stopped {k = k} {p = q} a b (omega arith)

pass_stops : (pool : List Const) (c : Code) (f : Frame) → Stops (size_of c) (pass pool 0 c (Run.on f))
unfolding pass
pass_stops pool [] f = Stops.on
pass_stops pool (i ∷ c) f = come_stops pool (0 + size_of c) i (omega arith) (omega arith) (pass_stops pool c f)

-- the first position that 27 refuses is one of the code
refused_within : (pool : List Const) (f : Marks) (c : Code) {p : ℕ} → first_refused pool f c ≡ some p → p < size_of c
refused_within pool f [] {p} e = absurd (never (sym (refused_none pool f) ∙ e))
  where
    never : none ≡ some p → ⊥
    never e = let z : ◌≡◌ {A = ℕ} 0 1 = cc in omega arith
refused_within pool f (i ∷ c) {p} e = go (first_refused pool f c) (λ q d. refused_within pool f c d) (taken pool f (size_of c) i) (sym (refused_more pool f i c) ∙ e)
  where
    go : (o : Option ℕ) → ((q : ℕ) → o ≡ some q → q < size_of c) → (b : Bool) → or_else o (pick b none (some (size_of c))) ≡ some p → p < size_of (i ∷ c)
    go (some q) d b e = let z : q ≡ p = cc in let l = d q refl in omega arith
    go none d true e = let z : ◌≡◌ {A = ℕ} 0 1 = cc in absurd (omega arith)
    go none d false e = let z : size_of c ≡ p = cc in omega arith

-- small outcomes
pub data Small : Outcome → Type 0 where
  ran : {n : ℕ} {g : Globals} {k : ℕ} → n ≤ 1024 → k < 65536 → Small (Outcome.ran n g k)
  refused : {r : Refusal} → 0 < (number_of r.reason) → (number_of r.reason) < 30 → r.place ≤ 65536 → Small (Outcome.refused r)

-- of a sound image whose chunks pass
module _ (hs : List ℕ) (m : Image) {ns : List ℕ} (e : judged hs m m.pool ≡ Verdict.tops ns) (short : 3 + size_of m.code < 65536) where
  trial_small : named_globals m.code ≤ 1024 → Small (trial_outcome (named_globals m.code) (trial m))
  trial_small l = go (pass m.pool 0 m.code (Run.on (frame 0 [] unset_globals 0))) refl (pass_stops m.pool m.code (frame 0 [] unset_globals 0))
    where
      go : (r : Run) → pass m.pool 0 m.code (Run.on (frame 0 [] unset_globals 0)) ≡ r → Stops (size_of m.code) r → Small (trial_outcome (named_globals m.code) (trial_of r))
      go (Run.on f) q s = let n = trial-steps m (ap trial_of q) in let k = code-count m.code in Small.ran {g = f.globals} {k = f.steps} l (omega arith)
      go (Run.returned g i) q s = let n = trial-steps m (ap trial_of q) in let k = code-count m.code in Small.ran {g = g} {k = i} l (omega arith)
      go (Run.stopped k p) q (Stops.stopped a b c) = Small.refused {r = refusal k (3 + p)} a b (omega arith)

  taken_small : (room : ℕ) → Small (taken_outcome (refused_with hs m) m room)
  taken_small room = go (refused_with hs m) refl
    where
      position : (r : Passed) {p : ℕ} → onwards r none (λ s. first_refused m.pool s.marks m.code) ≡ some p → p < size_of m.code
      position (Passed.passed s) q = refused_within m.pool s.marks m.code q
      position Passed.failed {p} q = let z : ◌≡◌ {A = ℕ} 0 1 = cc in absurd (omega arith)

      go : (o : Option ℕ) → refused_with hs m ≡ o → Small (taken_outcome o m room)
      go (some p) q = let l = position (checked hs 0 (size_of m.code) m.code) q in Small.refused {r = refusal Number.not_runnable (3 + p)} (omega arith) (omega arith) (omega arith)
      go none q = chosen Small (leb (9 * named_globals m.code) room) (λ _. trial_small (names_few hs m e q)) (λ _. Small.refused {r = refusal output_short 0} (omega arith) (omega arith) (omega arith))

-- a refusal of the check of heights
refused-place : {a : Answer} {k : Reason} {p lengths : ℕ} → Within lengths heights_numbers image_limit a → a ≡ Err (refusal k p) → p ≤ image_limit
refused-place {k = k} {p} (Within.wrote {n} h) e = let z : ◌≡◌ {A = ℕ} 0 1 = cc in absurd (omega arith)
refused-place {k = k} {p} (Within.refused {r} b) e = let q : r.place ≡ p = ap (λ (r : Refusal). r.place) (let i : r ≡ refusal k p = cc in i) in omega (arith, b.place)

-- of every call
pub run_small : (b : Bytes) → AreBytes b → (hs : List ℕ) (work room : ℕ) → Small (run_outcome b hs work room)
run_small b a hs work room = chosen Small (ltb work work_size) (λ _. Small.refused {r = refusal short_buffer 0} (omega arith) (omega arith) (omega arith)) (λ _. go (read_image b) refl)
  where
    read_whole : (m : Image) (n : ℕ) → read_image b ≡ decoded m n → ImageAt b m
    read_whole m n q = let w = write-image b a q in record { reads = ap read_image (sym w.bytes) ∙ read-image m w.sound ∙ ap (λ b. decoded m (length b)) w.bytes }

    go_judged : (m : Image) (n : ℕ) → read_image b ≡ decoded m n → (v : Verdict) → judged hs m m.pool ≡ v → Small (judged_outcome v hs m room)
    go_judged m n q (Verdict.tops ns) j =
        let s = read_whole m n q in
        let k = parts b s refl in
        let l = image_short b s in
        taken_small hs m j (omega (arith, k.size, k.code.within, l)) room
    go_judged m n q (Verdict.fails p) j =
        let l = refused-place (heights_within b a hs room) (ap (λ d. heights_answer d hs room) q ∙ ap (λ v. verdict_answer v room) j) in
        Small.refused {r = refusal bad_heights p} (omega arith) (omega arith) (omega (arith, l))

    go : (d : Decoded Image) → read_image b ≡ d → Small (image_outcome d hs room)
    go (decoded m n) q = go_judged m n q (judged hs m m.pool) refl
    go (malformed p) q =
        let l = refused-place (heights_within b a hs room) (ap (λ d. heights_answer d hs room) q) in
        Small.refused {r = refusal bad_image p} (omega arith) (omega arith) (omega (arith, l))
