-- The loop over the instructions of a chunk: at each of them the code's marks are those of the pass so far.
use Prim.Native.Nat.{ℕ, suc, ◌+◌, ◌-◌, ◌≤◌, ◌<◌}
use native.Mathlib.Omega.{arith}
use mathlib.Core.Bool.{Bool, true, false}
use mathlib.Core.List.{List, [], ◌∷◌}
use mathlib.Core.Path.{◌≡◌, refl, sym, ap, subst, ◌∙◌}
use Rattle.std.proofs.Common.{take, take_all}
use lib.ListN.{length, drop, get_or, length-drop}
use lib.Seq.{drop-cons}
use lib.Dec.{leb, ltb, eqb}
use borrow.Author.Tests.{lt-ltb, le-ltb}
use Rattle.definition.specs.Basic.{Bytes, byte_at, pick, both}
use Rattle.definition.specs.Opcode.{Instr, size}
use Rattle.definition.specs.Bytecode.{Code, size_of}
use Rattle.definition.specs.Decode.{read_instr}
use Rattle.definition.specs.Effect.{takes, gives, flow_of, falls, leaps}
use Rattle.definition.specs.declared.reason.Refusal.{Refusal}
use Rattle.opcode.specs.Decoding.{instr_of, read_before, decode_answer, found as instruction_found}
use Rattle.opcode.proofs.Decoding.{before_within, answered, unanswered}
use Rattle.opcode.specs.declared.Instruction.{Instruction}
use Rattle.opcode.specs.declared.Decoded.{Decoded as ReadInstruction}
use Rattle.listing.specs.Reads.{CodeAt}
use Rattle.listing.proofs.Items.{Reading, begins, ends, Next, next, all_read}
use Rattle.listing.proofs.Lines.{whole-read}
use Rattle.heights.specs.Pass.{Marks, greater, behind, arrived, leapt, fallen, Passing, Passed, onwards, steps_well, stepped, starting, pass}
use Rattle.heights.specs.Marks.{marks_from, Spot, Stepped, pass_answer, PassReady, PassEnds}
use Rattle.std.specs.Prelude.{Some, None, Result, Err}
use Rattle.heights.specs.declared.chunk.ChunkTop.{ChunkTop}
use Rattle.heights.proofs.Stepping.{greater_is}
use Rattle.heights.proofs.Tables.{gives_one}

-- no mark is more than two above the number of instructions
pub record Small (f : Marks) (n : ℕ) : Type 0 where
  pub below : (k : ℕ) → f k ≤ 2 + n

small_arrived : (t x n : ℕ) (f : Marks) → x ≤ 3 + n → Small f (suc n) → Small (arrived t x f) (suc n)
small_arrived t x n f l s = record { below = λ k. go k (eqb k t) }
  where
    go : (k : ℕ) (b : Bool) → pick b (greater (f t) x) (f k) ≤ 2 + suc n
    go k true = greater_is (λ v. v ≤ 2 + suc n) (f t) x (s.below t) (omega arith)
    go k false = s.below k

small_pick : {f g : Marks} {n : ℕ} (b : Bool) → Small g n → Small f n → Small (pick b g f) n
small_pick true h k = h
small_pick false h k = k

small_step : (f : Marks) (p : ℕ) (i : Instr) (n : ℕ) → Small f n → Small (fallen (leapt f i (behind i (f p))) p i (behind i (f p))) (suc n)
small_step f p i n s =
    let w : Small f (suc n) = record { below = λ k. let l = s.below k in omega arith } in
    let x : behind i (f p) ≤ 3 + n = go (leb (f p) 1) in
    let v = small_pick (leaps (flow_of i)) (small_arrived i.a (behind i (f p)) n f x w) w in
    small_pick (falls (flow_of i)) (small_arrived (p + size i) (behind i (f p)) n (leapt f i (behind i (f p))) x v) v
  where
    go : (b : Bool) → pick b 1 (f p + gives i - takes i) ≤ 3 + n
    go true = omega arith
    go false = let l = s.below p in let g = gives_one i.op in omega arith

small_start : Small starting.marks 0
small_start = record { below = λ k. go (eqb k 0) }
  where
    go : (b : Bool) → pick b 2 0 ≤ 2 + 0
    go true = omega arith
    go false = omega arith

-- one more instruction of the pass
module _ (hs : List ℕ) (first n : ℕ) (i : Instr) (c : Code) where
  tests : Passing → Bool
  tests s = both (ltb (first + length c) (length hs)) (steps_well n s.marks (size_of c) (get_or hs (first + length c) 0) i (behind i (s.marks (size_of c))))

  pass_more : (s : Passing) → pass hs first n c ≡ Passed.passed s → pass hs first n (i ∷ c) ≡ pick (tests s) (Passed.passed (stepped (size_of c) i s)) Passed.failed
  unfolding pass tests
  pass_more s e = ap (λ q. onwards q Passed.failed (λ s. pick (tests s) (Passed.passed (stepped (size_of c) i s)) Passed.failed)) e

  pass_failed : pass hs first n c ≡ Passed.failed → pass hs first n (i ∷ c) ≡ Passed.failed
  unfolding pass tests
  pass_failed e = ap (λ q. onwards q Passed.failed (λ s. pick (tests s) (Passed.passed (stepped (size_of c) i s)) Passed.failed)) e

-- the loop at an offset of code from `start` up to `end`
module _ (b : Bytes) (start end : ℕ) (hs : List ℕ) where
  pub record PassLoop (l₀ l : List ℕ) (at : ℕ) (rest : List ℕ) (top : ℕ) : Type 0 where
    pub code : Code
    pub reading : Reading (read_instr (byte_at b)) end (end - start) start code at
    pub order : at ≤ end
    pub size_is : start + size_of code ≡ at
    pub few : length code ≤ size_of code
    pub state : Passing
    pub passed : pass hs 0 (end - start) code ≡ Passed.passed state
    pub marks_are : marks_from l start ≡ state.marks
    pub top_is : top ≡ state.top
    pub rest_is : rest ≡ drop (length code) hs
    pub small : Small state.marks (length code)
    pub long : length l ≡ length l₀

  pub loop_begins : (l : List ℕ) → PassReady l b start end → PassLoop l l start hs 0
  unfolding pass
  loop_begins l h =
      record {
        code = [];
        reading = begins (read_instr (byte_at b)) end (end - start) start;
        order = h.code.is.order;
        size_is = omega arith;
        few = omega arith;
        state = starting;
        passed = refl;
        marks_are = h.begins;
        top_is = refl;
        rest_is = refl;
        small = small_start;
        long = refl;
      }

  module _ {l₀ l : List ℕ} {at : ℕ} {rest : List ℕ} {top : ℕ} (p : PassLoop l₀ l at rest top) where
    -- at the end all was passed
    pub loop_ends : end ≤ at → (c : Code) → CodeAt b start end c → {t : ChunkTop} → t.top ≡ top → t.rest.now ≡ rest → PassEnds hs (end - start) start c (Some t) l
    loop_ends h c a {t} u v =
        let e : at ≡ end = omega (arith, p.order) in
        let q = ends (read_instr (byte_at b)) end (end - start) start p.reading a.reads e in
        let d : pass hs 0 (end - start) c ≡ Passed.passed p.state = ap (pass hs 0 (end - start)) (sym q) ∙ p.passed in
        record {
          answer = (λ j. Some ((u ∙ p.top_is) j, (v ∙ p.rest_is ∙ ap (λ c. drop (length c) hs) q) j)) ∙ sym (ap (λ r. pass_answer r (drop (length c) hs)) d);
          after = λ s f. p.marks_are ∙ same s (sym d ∙ f);
        }
      where
        same : (s : Passing) → Passed.passed p.state ≡ Passed.passed s → p.state.marks ≡ s.marks
        same s e = let q : p.state ≡ s = cc in ap (λ (s : Passing). s.marks) q

    module _ (h : PassReady l₀ b start end) (before : at < end) {r : Result ReadInstruction Refusal} (t₀ : r ≡ decode_answer (read_before b at end)) where
      e : r ≡ decode_answer (read_instr (byte_at b) at end)
      e = t₀ ∙ ap decode_answer (before_within b at end h.code.is.within)

      pub found : Next (read_instr (byte_at b)) end (end - start) start p.reading h.code.is.reads
      found = next (read_instr (byte_at b)) end (end - start) start p.reading h.code.is.reads (λ i. omega arith)

      pub not_refused : {q : Refusal} → r ≡ Err q → ⊥
      not_refused t = unanswered e found.found t

      -- what failed once has failed
      fails : {l₁ : List ℕ} → pass hs 0 (end - start) (found.x ∷ p.code) ≡ Passed.failed → (c : Code) → CodeAt b start end c → PassEnds hs (end - start) start c None l₁
      fails f c a =
          let g = found.reading in
          let d : pass hs 0 (end - start) c ≡ Passed.failed =
          all_read (read_instr (byte_at b)) end (λ c _. pass hs 0 (end - start) c ≡ Passed.failed) (λ xs _ x _ q _. pass_failed hs 0 (end - start) x xs q) g.rest (found.x ∷ p.code) found.next (sym g.same ∙ a.reads) f in
          record { answer = sym (ap (λ r. pass_answer r (drop (length c) hs)) d); after = λ s q. never s (sym d ∙ q) }
        where
          never : {A : Type 0} (s : Passing) → Passed.failed ≡ Passed.passed s → A
          never s q = let z : ◌≡◌ {A = ℕ} 0 1 = cc in absurd (omega arith)

      module _ {i : Instruction} {after : ℕ} (t : r ≡ instruction_found i after) where
        -- the instruction there
        pub record Turn : Type 0 where
          pub is : instr_of i ≡ found.x
          pub after_is : after ≡ found.next
          pub sized : after ≡ at + size (instr_of i)
          pub within : after ≤ end

        pub turn : Turn
        turn =
            let w = whole-read (byte_at b) end at found.x found.next found.found in
            let a = answered e found.found t in
            record {
              is = a.0;
              after_is = a.1;
              sized = a.1 ∙ w.after ∙ ap (λ (j : Instr). at + size j) (sym a.0);
              within = omega (arith, w.within, a.1);
            }

        -- what arrives there
        level_is : get_or l at 0 ≡ p.state.marks (size_of p.code)
        level_is = ap (λ a. get_or l a 0) (sym p.size_is) ∙ ap (λ (f : Marks). f (size_of p.code)) p.marks_are

        pub spot : Spot l start end at after (instr_of i)
        spot =
            let w = turn in
            record {
              from = omega (arith, p.size_is);
              sized = w.sized;
              within = w.within;
              room = omega (arith, p.long, h.room);
              small = omega (arith, level_is, p.small.below (size_of p.code), p.few, p.size_is, p.order, h.short);
            }

        -- too few heights
        pub too_few : {l₁ : List ℕ} → length rest ≡ 0 → (c : Code) → CodeAt b start end c → PassEnds hs (end - start) start c None l₁
        unfolding tests
        too_few m = fails (pass_more hs 0 (end - start) found.x p.code p.state p.passed
            ∙ ap (λ s. pick (both s (steps_well (end - start) p.state.marks (size_of p.code) (get_or hs (0 + length p.code) 0) found.x (behind found.x (p.state.marks (size_of p.code))))) (Passed.passed (stepped (size_of p.code) found.x p.state)) Passed.failed)
            (le-ltb (0 + length p.code) (length hs) (omega (arith, ap length p.rest_is, length-drop (length p.code) hs))))

        module _ {x : ℕ} {left : List ℕ} (m : rest ≡ x ∷ left) {s : Bool} {l₁ : List ℕ} (g : Stepped l start end at x (instr_of i) s l₁) where
          enough : length p.code < length hs
          enough = omega (arith, ap length m, ap length p.rest_is, length-drop (length p.code) hs)

          both_parts : x ∷ left ≡ get_or hs (length p.code) 0 ∷ drop (suc (length p.code)) hs
          both_parts = sym m ∙ p.rest_is ∙ drop-cons hs (length p.code) 0 enough

          offered_is : x ≡ get_or hs (0 + length p.code) 0
          offered_is = ap (λ l. get_or l 0 0) both_parts ∙ ap (λ k. get_or hs k 0) (omega arith)

          left_is : left ≡ drop (suc (length p.code)) hs
          left_is = ap (λ l. drop 1 l) both_parts

          pass_next : pass hs 0 (end - start) (found.x ∷ p.code) ≡ pick s (Passed.passed (stepped (size_of p.code) found.x p.state)) Passed.failed
          unfolding tests
          pass_next =
              let q : at - start ≡ size_of p.code = omega (arith, p.size_is) in
              let u : s ≡ steps_well (end - start) p.state.marks (size_of p.code) (get_or hs (0 + length p.code) 0) found.x (behind found.x (p.state.marks (size_of p.code))) =
              g.answer ∙ (λ j. steps_well (end - start) (p.marks_are j) (q j) (offered_is j) (turn.is j) (behind (turn.is j) (level_is j))) in
              let v = lt-ltb (0 + length p.code) (length hs) (omega (arith, enough)) in
              pass_more hs 0 (end - start) found.x p.code p.state p.passed ∙ (λ j. pick (both (v j) (sym u j)) (Passed.passed (stepped (size_of p.code) found.x p.state)) Passed.failed)

          -- the step fails
          pub step_fails : {l₂ : List ℕ} → s ≡ false → (c : Code) → CodeAt b start end c → PassEnds hs (end - start) start c None l₂
          step_fails z = fails (pass_next ∙ ap (λ s. pick s (Passed.passed (stepped (size_of p.code) found.x p.state)) Passed.failed) z)

          -- or it passes
          pub step-on : s ≡ true → length l₁ ≡ length l → {top₁ : ℕ} → top₁ ≡ greater top (get_or l at 0 - 2) → PassLoop l₀ l₁ after left top₁
          step-on z n {top₁} o =
              let w = turn in
              let q : at - start ≡ size_of p.code = omega (arith, p.size_is) in
              record {
                code = found.x ∷ p.code;
                reading = subst (λ n. Reading (read_instr (byte_at b)) end (end - start) start (found.x ∷ p.code) n) (sym w.after_is) found.reading;
                order = w.within;
                size_is = omega (arith, w.sized, p.size_is, ap size w.is);
                few = omega (arith, p.few);
                state = stepped (size_of p.code) found.x p.state;
                passed = pass_next ∙ ap (λ s. pick s (Passed.passed (stepped (size_of p.code) found.x p.state)) Passed.failed) z;
                marks_are = g.after z ∙ (λ j. fallen (leapt (p.marks_are j) (w.is j) (behind (w.is j) (level_is j))) (q j) (w.is j) (behind (w.is j) (level_is j)));
                top_is = o ∙ (λ j. greater (p.top_is j) (level_is j - 2));
                rest_is = left_is;
                small = small_step p.state.marks (size_of p.code) found.x (length p.code) p.small;
                long = n ∙ p.long;
              }

-- the first of a list, and those behind it
pub apart : (xs : List ℕ) → 1 ≤ length xs → xs ≡ get_or xs 0 0 ∷ take (length xs - 1) (drop 1 xs)
apart [] h = absurd (omega arith)
apart (x ∷ xs) h = ap (λ l. x ∷ l) (sym (take_all (length (x ∷ xs) - 1) xs (omega arith)))

-- the loop at the same offset
pub pass_at : {b : Bytes} {start end : ℕ} {hs l₀ l : List ℕ} {at at₁ : ℕ} {rest : List ℕ} {top : ℕ} → PassLoop b start end hs l₀ l at rest top → at ≡ at₁ → PassLoop b start end hs l₀ l at₁ rest top
pass_at {b} {start} {end} {hs} {l₀} {l} {rest = rest} {top = top} p e = subst (λ at. PassLoop b start end hs l₀ l at rest top) e p
