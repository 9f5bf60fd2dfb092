-- The whole call: what each test of it says of the outcome.
use Rattle.std.proofs.Common.{◌≡◌, ℕ, ◌+◌, ◌-◌, ◌*◌, ◌<◌, ◌≤◌, true, leb, List, [], ◌∷◌, ◌++◌, length, drop, replicate, sym, refl, ap, ◌∙◌, arith, le-ltb, lt-ltb, le-leb}
use Rattle.std.specs.Prelude.{Option, None as none, Some as some, Result, Ok, Err}
use lib.ListN.{length-replicate}
use borrow.Author.Tests.{lt-leb}
use Rattle.definition.specs.Basic.{Bytes, byte_at, pick}
use Rattle.definition.specs.Number.{refusal, short_buffer, output_short, bad_image, bad_heights}
use Rattle.definition.specs.Opcode.{Instr}
use Rattle.definition.specs.Bytecode.{size_of, Const, Image}
use Rattle.definition.specs.Decode.{Decoded, decoded, malformed, read_image}
use Rattle.definition.specs.Call.{cleared}
use Rattle.definition.specs.Trusted.{Stands}
use Rattle.definition.specs.declared.reason.Refusal.{Refusal}
use Rattle.definition.proofs.Basic.{pick_true, pick_false}
use Rattle.bytecode.specs.Checked.{image_answer}
use Rattle.listing.specs.Reads.{CodeAt, ImageAt}
use Rattle.listing.proofs.Lines.{code-size}
use Rattle.heights.specs.Judgement.{Reaches, ChunkOf, Passes}
use Rattle.heights.specs.declared.chunk.Kind.TheVariants.{Main}
use Rattle.heights.specs.Pass.{Passing, Passed, onwards, pass, Verdict, judged, Top, lastly}
use Rattle.heights.specs.Marks.{marks_from, ChunkReady, PassEnds}
use Rattle.heights.specs.Chunks.{pool_answer}
use Rattle.heights.specs.declared.image.BadChunk.{BadChunk}
use Rattle.heights.specs.declared.chunk.ChunkTop.{ChunkTop}
use Rattle.heights.proofs.Tables.{one_element}
use Rattle.heights.proofs.Accepts.{IsHeld, pass_holds, arrives}
use Rattle.heights.proofs.Refuses.{passing}
use Rattle.heights.proofs.Verdicts.{Right, judged_right}
use Rattle.definition.specs.Number
use Rattle.trial.specs.Value.{Globals}
use Rattle.trial.specs.Run.{runnable, Trial, trial}
use Rattle.trial.specs.Output.{named_globals}
use Rattle.trial.specs.Cells.{Keeping, work_size, stack_limit}
use Rattle.trial.specs.Machine.{Safe, EndsAs}
use Rattle.trial.specs.Call.{first_refused, refused_with, Outcome, trial_outcome, taken_outcome, judged_outcome, image_outcome, run_outcome, outcome_answer, outcome_into, work_after, scan_answer}
use Rattle.trial.specs.declared.Ran.{Ran}
use Rattle.trial.proofs.CodeLoop.{Sound, one_image, main_code}
use Rattle.trial.proofs.Scanning.{all_taken, taken_runs, taken-low, named_small}

-- main can be gone over
pub marks_ready : (b : Bytes) {end : ℕ} → Sound b end → ChunkReady (replicate 65536 0) b 3 end
marks_ready b {end} h =
    let p = main_code b h.reads h.ends in
    record {
      code = record { code = h.image.code; is = p };
      room = omega (arith, length-replicate {A = ℕ} 65536 0, p.within, h.short);
      short = omega (arith, p.within, h.short);
      blank = record { zero = λ k _. one_element 0 65536 k };
    }

-- with the marks of the pass
pub marked : (b : Bytes) (hs : List ℕ) {end : ℕ} (m : Image) (c : CodeAt b 3 end m.code) {k : Option ChunkTop} {l : List ℕ} → PassEnds hs (end - 3) 3 m.code k l → (s : Passing) → pass hs 0 (size_of m.code) m.code ≡ Passed.passed s
    → {r : Result ℕ Refusal} → r ≡ scan_answer (first_refused m.pool (marks_from l 3) m.code) (named_globals m.code) → r ≡ scan_answer (refused_with hs m) (named_globals m.code)
marked b hs {end} m c {l = l} p s e q =
    let z : size_of m.code ≡ end - 3 = (let t = code-size (byte_at b) end 3 (end - 3) c.reads in omega (arith, c.order)) in
    let f = p.after s (ap (λ n. pass hs 0 n m.code) (sym z) ∙ e) in
    q ∙ ap (λ o. scan_answer o (named_globals m.code)) (ap (λ f. first_refused m.pool f m.code) f ∙ sym (ap (λ r. onwards r none (λ s. first_refused m.pool s.marks m.code)) e))

-- main is a chunk of its image
main_chunk : (m : Image) (cs : List Const) → ChunkOf m cs 0 Main 0 m.code
main_chunk m [] = ChunkOf.main
main_chunk m (x ∷ cs) = ChunkOf.before (main_chunk m cs)

module _ (hs : List ℕ) (m : Image) {ns : List ℕ} (e : judged hs m m.pool ≡ Verdict.tops ns) where
  -- where all chunks pass, main does
  pub main_passes : Passes hs Main 0 m.code
  main_passes = go (judged_right hs m m.pool) e
    where
      go : {v : Verdict} → Right hs m m.pool v → v ≡ Verdict.tops ns → Passes hs Main 0 m.code
      go (Right.tops a u) q = a.each (main_chunk m m.pool)
      go (Right.fails {at} f) q = let z : ◌≡◌ {A = ℕ} 0 1 = cc in absurd (omega arith)

  -- what arrives in it
  pub record Arrived : Type 0 where
    pub state : Passing
    pub passed : pass hs 0 (size_of m.code) m.code ≡ Passed.passed state
    pub arrives_there : {p x : ℕ} → Reaches m.code p x → state.marks p ≡ 2 + x

  pub arrived : Arrived
  arrived = go (pass hs 0 (size_of m.code) m.code) refl (pass_holds hs 0 (size_of m.code) m.code) (passing hs Main 0 m.code main_passes).1
    where
      go : (r : Passed) → pass hs 0 (size_of m.code) m.code ≡ r → IsHeld hs 0 (size_of m.code) m.code r
          → onwards r Top.fails (λ s. pick (leb (s.marks (size_of m.code)) (lastly Main)) (Top.top s.top) Top.fails) ≡ Top.top (passing hs Main 0 m.code main_passes).0 → Arrived
      go (Passed.passed s) q (IsHeld.held h) t = record { state = s; passed = q; arrives_there = λ r. arrives hs Main 0 m.code s h r }
      go Passed.failed q h t = let z : ◌≡◌ {A = ℕ} 0 1 = cc in absurd (omega arith)

  -- number 27 refuses none
  module _ (r : refused_with hs m ≡ none) where
    none_refused : first_refused m.pool arrived.state.marks m.code ≡ none
    none_refused = sym (ap (λ r. onwards r none (λ s. first_refused m.pool s.marks m.code)) arrived.passed) ∙ r

    runs_there : {i : Instr} {p : ℕ} → Stands i p m.code → runnable m.pool i ≡ true
    runs_there {i} {p} s = taken_runs m.pool arrived.state.marks p i (all_taken m.pool arrived.state.marks m.code none_refused s)

    low_there : {i : Instr} {p x : ℕ} → Stands i p m.code → Reaches m.code p x → x ≤ stack_limit
    low_there {i} {p} {x} s r =
        let l = taken-low m.pool arrived.state.marks p i (all_taken m.pool arrived.state.marks m.code none_refused s) in
        let a = arrived.arrives_there r in
        omega (arith, l, a)

    -- main can be run
    pub main_safe : Safe m.pool m.code
    main_safe = record { runs = λ s. runs_there s; enough = λ s r. main_passes.enough s r; low = λ s r. low_there s r; ends = λ r. main_passes.ends r }

    pub names_few : named_globals m.code ≤ 1024
    names_few = named_small m.pool arrived.state.marks m.code none_refused

-- what the scan found
pub names_found : (o : Option ℕ) {k n : ℕ} {r : Result ℕ Refusal} → r ≡ scan_answer o k → r ≡ Ok n → (o ≡ none) × (n ≡ k)
names_found none {k} {n} {r} e f = (refl, cc)
names_found (some p) {k} {n} {r} e f = let z : ◌≡◌ {A = ℕ} 0 1 = cc in absurd (omega arith)

pub refusal_found : (o : Option ℕ) (k : ℕ) {q : Refusal} {r : Result ℕ Refusal} → r ≡ scan_answer o k → r ≡ Err q → (m : Image) (room : ℕ) → taken_outcome o m room ≡ Outcome.refused q
refusal_found none k {q} {r} e f m room = let z : ◌≡◌ {A = ℕ} 0 1 = cc in absurd (omega arith)
refusal_found (some p) k {q} {r} e f m room = let i : refusal Number.not_runnable (3 + p) ≡ q = cc in ap Outcome.refused i

-- the output is too short
pub room_short : {o : Option ℕ} (m : Image) (room : ℕ) {n : ℕ} → o ≡ none → n ≡ named_globals m.code → room < 9 * n → taken_outcome o m room ≡ Outcome.refused (refusal output_short 0)
room_short {o} m room {n} e q l = ap (λ o. taken_outcome o m room) e ∙ pick_false _ _ (lt-leb (9 * named_globals m.code) room (omega (arith, q)))

-- what a run gave
module _ {o : Option ℕ} (m : Image) (room : ℕ) {n : ℕ} (e : o ≡ none) (q : n ≡ named_globals m.code) (l : 9 * n ≤ room) where
  pub enough_room : taken_outcome o m room ≡ trial_outcome (named_globals m.code) (trial m)
  enough_room = ap (λ o. taken_outcome o m room) e ∙ pick_true _ _ (le-leb (9 * named_globals m.code) room (omega (arith, q)))

  pub ended-stopped : {q : Refusal} {w : List ℕ} {r : Result ℕ Refusal} → EndsAs w r (trial m) → r ≡ Err q → taken_outcome o m room ≡ Outcome.refused q
  ended-stopped {q} {w} h f = enough_room ∙ go h f
    where
      go : {t : Trial} {r : Result ℕ Refusal} → EndsAs w r t → r ≡ Err q → trial_outcome (named_globals m.code) t ≡ Outcome.refused q
      go (EndsAs.ran {g} {n = i} s) f = let z : ◌≡◌ {A = ℕ} 0 1 = cc in absurd (omega arith)
      go (EndsAs.stopped {k = i} {p = j}) f = let a : refusal i j ≡ q = cc in ap Outcome.refused a

  -- the globals of a run that ended well
  pub record Globals-of (w : List ℕ) (steps : ℕ) : Type 0 where
    pub globals : Globals
    pub keeping : Keeping w globals
    pub is : taken_outcome o m room ≡ Outcome.ran n globals steps

  pub ended-ran : {steps : ℕ} {w : List ℕ} {r : Result ℕ Refusal} → EndsAs w r (trial m) → r ≡ Ok steps → Globals-of w steps
  ended-ran {steps} {w} h f = let g = go h f in record { globals = g.0; keeping = g.1; is = enough_room ∙ ap (trial_outcome (named_globals m.code)) g.2 ∙ ap (λ n. Outcome.ran n g.0 steps) (sym q) }
    where
      go : {t : Trial} {r : Result ℕ Refusal} → EndsAs w r t → r ≡ Ok steps → (g : Globals) × Keeping w g × (t ≡ Trial.ran g steps)
      go (EndsAs.ran {g} {n = i} s) f = let a : i ≡ steps = cc in (g, s, ap (Trial.ran g) a)
      go (EndsAs.stopped {k = i} {p = j}) f = let z : ◌≡◌ {A = ℕ} 0 1 = cc in absurd (omega arith)

-- the same of every image that the bytes read as, which is one
module _ (hs : List ℕ) (room : ℕ) {b : Bytes} {m : Image} (h : ImageAt b m) {o : Outcome} (e : taken_outcome (refused_with hs m) m room ≡ o) where
  same_outcome : (n : Image) → ImageAt b n → taken_outcome (refused_with hs n) n room ≡ o
  same_outcome n i = ap (λ (m : Image). taken_outcome (refused_with hs m) m room) (one_image i h) ∙ e

  pub answered : {r : Result Ran Refusal} → r ≡ outcome_answer o → (n : Image) → ImageAt b n → r ≡ outcome_answer (taken_outcome (refused_with hs n) n room)
  answered q n i = q ∙ sym (ap outcome_answer (same_outcome n i))

  pub written : (out : Bytes) {x : Bytes} → x ≡ outcome_into o out → (n : Image) → ImageAt b n → x ≡ outcome_into (taken_outcome (refused_with hs n) n room) out
  written out q n i = q ∙ sym (ap (λ o. outcome_into o out) (same_outcome n i))

-- the whole image
pub wrong_image : (b : Bytes) {x : Result ℕ Refusal} {q : Refusal} → x ≡ image_answer (read_image b) → x ≡ Err q → (hs : List ℕ) (room : ℕ) → image_outcome (read_image b) hs room ≡ Outcome.refused q
wrong_image b {x} {q} e f hs room = go (read_image b) (sym e ∙ f)
  where
    go : (d : Decoded Image) → image_answer d ≡ Err q → image_outcome d hs room ≡ Outcome.refused q
    go (decoded m n) i = let z : ◌≡◌ {A = ℕ} 0 1 = cc in absurd (omega arith)
    go (malformed p) i = let a : refusal bad_image p ≡ q = cc in ap Outcome.refused a

module _ (b : Bytes) {m : Image} (i : ImageAt b m) (hs : List ℕ) (room : ℕ) {r : Result ℕ BadChunk} (e : r ≡ pool_answer (judged hs m m.pool)) where
  pub chunk_failing : {bad : BadChunk} → r ≡ Err bad → image_outcome (read_image b) hs room ≡ Outcome.refused (refusal bad_heights bad.place)
  chunk_failing {bad} f = ap (λ d. image_outcome d hs room) i.reads ∙ go (judged hs m m.pool) (sym e ∙ f)
    where
      go : (v : Verdict) → pool_answer v ≡ Err bad → judged_outcome v hs m room ≡ Outcome.refused (refusal bad_heights bad.place)
      go (Verdict.tops ns) q = let z : ◌≡◌ {A = ℕ} 0 1 = cc in absurd (omega arith)
      go (Verdict.fails p) q = let a : record { place = p } ≡ bad = cc in ap (λ (b : BadChunk). Outcome.refused (refusal bad_heights b.place)) a

  pub all_passing : {n : ℕ} → r ≡ Ok n → (ns : List ℕ) × (judged hs m m.pool ≡ Verdict.tops ns)
  all_passing {n} f = go (judged hs m m.pool) refl (sym e ∙ f)
    where
      go : (v : Verdict) → judged hs m m.pool ≡ v → pool_answer v ≡ Ok n → (ns : List ℕ) × (judged hs m m.pool ≡ Verdict.tops ns)
      go (Verdict.tops ns) q t = (ns, q)
      go (Verdict.fails p) q t = let z : ◌≡◌ {A = ℕ} 0 1 = cc in absurd (omega arith)

  pub taken-image : {n : ℕ} → r ≡ Ok n → image_outcome (read_image b) hs room ≡ taken_outcome (refused_with hs m) m room
  taken-image f = ap (λ d. image_outcome d hs room) i.reads ∙ ap (λ v. judged_outcome v hs m room) (all_passing f).1

-- the work area
pub work_short : (b : Bytes) (hs : List ℕ) (work room : ℕ) → work < work_size → run_outcome b hs work room ≡ Outcome.refused (refusal short_buffer 0)
work_short b hs work room h = pick_true _ _ (lt-ltb work work_size h)

pub work_long : (b : Bytes) (hs : List ℕ) (work room : ℕ) → work_size ≤ work → run_outcome b hs work room ≡ image_outcome (read_image b) hs room
work_long b hs work room h = pick_false _ _ (le-ltb work work_size h)

pub work_kept : (w : List ℕ) → length w < work_size → w ≡ work_after w
work_kept w h = sym (pick_true w (cleared work_size w) (lt-ltb (length w) work_size h))

pub work_cleared : (w : List ℕ) {x : List ℕ} → work_size ≤ length w → x ≡ replicate work_size 0 → x ++ drop work_size w ≡ work_after w
work_cleared w h e = ap (λ x. x ++ drop work_size w) e ∙ sym (pick_false w (cleared work_size w) (le-ltb (length w) work_size h))
