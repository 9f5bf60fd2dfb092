-- Translating an image refuses with 26 at an offset exactly when its first wrong jump is there: into the chin form one to before its own
-- end, and back one with a distance whose target passes 65,535.
use Prim.Native.Nat.{ℕ, ◌+◌, ◌≤◌}
use native.Mathlib.Omega.{arith}
use mathlib.Core.Bool.{Bool, true, false}
use mathlib.Core.List.{List, ◌∷◌}
use mathlib.Core.Logic.{◌↔◌}
use mathlib.Core.Path.{◌≡◌, refl, sym, ap, subst, ◌∙◌}
use lib.ListN.{length}
use lib.Dec.{leb}
use Rattle.std.specs.Prelude.{Ok, Err, None}
use Rattle.definition.specs.Basic.{Bytes, pick}
use Rattle.definition.specs.Number.{refusal, number_of, bad_image, bad_jump, output_short}
use Rattle.definition.specs.Opcode.{Instr, size}
use Rattle.definition.specs.Bytecode.{Code, size_of, Const, pool_size, Image}
use Rattle.definition.specs.Decode.{Decoded, decoded, malformed}
use Rattle.definition.specs.Output.{output_answer}
use Rattle.definition.specs.Trusted.{Stands}
use Rattle.definition.specs.Valid.{All}
use Rattle.definition.specs.declared.reason.Refusal.{Refusal}
use Rattle.definition.specs.Answer.{Answer}
use Rattle.definition.proofs.Instructions.{code-length}
use Rattle.bytecode.specs.declared.Form.{Form}
use Rattle.bytecode.specs.declared.Form.TheVariants.{Plain, Chin}
use Rattle.bytecode.specs.Form.{image_in, read_form}
use Rattle.chin.specs.Turn.{jumps, Jump, distance, target, Made, made, stopped, turn_image}
use Rattle.chin.specs.Chin.{wrote, turn, translate, to_chin, from_chin, answer_of}
use Rattle.chin.specs.Promise.{Turns}
use Rattle.chin.specs.Refusals.{Passing, FirstBad, PassingConst, FirstBadConst, Judged}
use Rattle.chin.proofs.Refusals.{no_distance, no_target, judges}
use Rattle.definition.proofs.Reached.{stands_within}
use Rattle.promises.specs.Refusals.{FunctionFrom, ChunkFrom, JumpAt, Backwards, TooFar, FirstJump}

-- a function's code lies among the constants
within : {start : ℕ} {cs : List Const} {from : ℕ} {c : Code} → FunctionFrom start cs from c
    → (start ≤ from) × (from + size_of c ≤ start + pool_size cs)
within (FunctionFrom.last {c = c}) = (omega arith, omega (arith, code-length c))
within (FunctionFrom.before h) = let w = within h in (w.0, omega (arith, w.1))

-- a list that is written is not refused with 26
not_26 : (ns : Bytes) (room p : ℕ) → output_answer ns room ≡ Err (refusal bad_jump p) → ⊥
not_26 ns room p e = go (leb (length ns) room) e
  where
    go : (b : Bool) → pick b (Ok (length ns)) (Err (refusal output_short 0)) ≡ Err (refusal bad_jump p) → ⊥
    go true e = let z : ◌≡◌ {A = ℕ} 0 1 = cc in omega arith
    go false e =
        let z : refusal output_short 0 ≡ refusal bad_jump p = cc in let y = ap (λ (r : Refusal). number_of r.reason) z in omega arith

module _ (jump : Jump) (Wrong : ℕ → ℕ → Type 0) (lacks : (end a : ℕ) → (jump end a ≡ None) ↔ Wrong end a) where
  -- code, or a pool, that passes has no wrong jump
  passing_none : {c : Code} → Passing jump c → {i : Instr} {q : ℕ} → Stands i q c → jumps i.op ≡ true → Wrong (q + size i) i.a → ⊥
  passing_none Passing.nothing s j w = elim s [ ]
  passing_none (Passing.another {i} {c} f g) Stands.last j w = f (record { jumping = j; lacking = (lacks (size_of c + size i) i.a).1 w })
  passing_none (Passing.another f g) (Stands.before s) j w = passing_none g s j w

  -- nor has a pool
  pool_none : {start : ℕ} {cs : List Const} → All (PassingConst jump) cs → {from : ℕ} {c : Code} → FunctionFrom start cs from c
      → {i : Instr} {q : ℕ} → Stands i q c → jumps i.op ≡ true → Wrong (q + size i) i.a → ⊥
  pool_none All.none h s j w = elim h [ ]
  pool_none (All.more (PassingConst.functions f) fs) FunctionFrom.last s j w = passing_none f s j w
  pool_none (All.more f fs) (FunctionFrom.before h) s j w = pool_none fs h s j w

  -- the first wrong jump of code that begins at an offset
  record InCode (start : ℕ) (c : Code) (p : ℕ) : Type 0 where
    instr : Instr
    position : ℕ
    stands : Stands instr position c
    place : p ≡ start + position
    jumping : jumps instr.op ≡ true
    wrong : Wrong (position + size instr) instr.a
    first : {i : Instr} {q : ℕ} → Stands i q c → jumps i.op ≡ true → Wrong (q + size i) i.a → position ≤ q

  -- a first bad jump is it
  in_code : {start : ℕ} {c : Code} {p : ℕ} → FirstBad jump start c p → InCode start c p
  in_code (FirstBad.here {i} {c} f b) =
      record { instr = i; position = size_of c; stands = Stands.last; place = refl; jumping = b.jumping; wrong = (lacks (size_of c + size i) i.a).0 b.lacking; first = λ s j w. go s j w }
    where
      go : {k : Instr} {q : ℕ} → Stands k q (i ∷ c) → jumps k.op ≡ true → Wrong (q + size k) k.a → size_of c ≤ q
      go Stands.last j w = omega arith
      go (Stands.before s) j w = absurd (passing_none f s j w)
  in_code (FirstBad.before {i} {c} b) = later (in_code b)
    where
      later : {start p : ℕ} → InCode start c p → InCode start (i ∷ c) p
      later r =
          record { instr = r.instr; position = r.position; stands = Stands.before r.stands; place = r.place; jumping = r.jumping; wrong = r.wrong; first = λ s j w. go s j w }
        where
          go : {k : Instr} {q : ℕ} → Stands k q (i ∷ c) → jumps k.op ≡ true → Wrong (q + size k) k.a → r.position ≤ q
          go Stands.last j w = let l = stands_within r.stands in omega arith
          go (Stands.before s) j w = r.first s j w

  -- of the functions of a pool
  record InPool (start : ℕ) (cs : List Const) (p : ℕ) : Type 0 where
    from : ℕ
    code : Code
    chunk : FunctionFrom start cs from code
    found : InCode from code p
    first : {at : ℕ} {c : Code} → FunctionFrom start cs at c → {i : Instr} {q : ℕ} → Stands i q c → jumps i.op ≡ true
        → Wrong (q + size i) i.a → p ≤ at + q

  -- a first bad constant has it
  in-pool : {start : ℕ} {cs : List Const} {p : ℕ} → FirstBadConst jump start cs p → InPool start cs p
  in-pool {start} (FirstBadConst.here {l} {n} {p} {c} {cs} fs b) =
      let r = in_code b in
      record { from = start + pool_size cs + 3 + 3; code = c; chunk = FunctionFrom.last; found = r; first = λ h s j w. go r h s j w }
    where
      go : InCode (start + pool_size cs + 3 + 3) c p → {at : ℕ} {d : Code} → FunctionFrom start (Const.function l n c ∷ cs) at d
          → {i : Instr} {q : ℕ} → Stands i q d → jumps i.op ≡ true → Wrong (q + size i) i.a → p ≤ at + q
      go r FunctionFrom.last s j w = let f = r.first s j w in omega (arith, r.place)
      go r (FunctionFrom.before h) s j w = absurd (pool_none fs h s j w)
  in-pool {start} {p = p} (FirstBadConst.before {c} {cs} b) = later (in-pool b)
    where
      later : InPool start cs p → InPool start (c ∷ cs) p
      later r = record { from = r.from; code = r.code; chunk = FunctionFrom.before r.chunk; found = r.found; first = λ h s j w. go h s j w }
        where
          go : {x : Const} {at : ℕ} {d : Code} → FunctionFrom start (x ∷ cs) at d → {i : Instr} {q : ℕ} → Stands i q d → jumps i.op ≡ true
              → Wrong (q + size i) i.a → p ≤ at + q
          go FunctionFrom.last s j w = let a = within r.chunk in let l = stands_within r.found.stands in omega (arith, a.1, r.found.place)
          go (FunctionFrom.before h) s j w = r.first h s j w

  -- of an image
  record InImage (m : Image) (p : ℕ) : Type 0 where
    here : JumpAt Wrong m p
    first : (q : ℕ) → JumpAt Wrong m q → p ≤ q

  -- what a translation stops at is it
  in_image : {m : Image} {p : ℕ} → Judged jump m (stopped p) → InImage m p
  in_image {m} {p} (Judged.in_main b) =
      let r = in_code b in
      record {
        here = record { from = 3; code = m.code; chunk = ChunkFrom.main; jump = r.instr; position = r.position; stands = r.stands; place = r.place; jumping = r.jumping; wrong = r.wrong };
        first = λ q k. go r k.chunk k.stands k.jumping k.wrong k.place;
      }
    where
      go : InCode 3 m.code p → {at : ℕ} {c : Code} → ChunkFrom m at c → {i : Instr} {x q : ℕ} → Stands i x c → jumps i.op ≡ true
          → Wrong (x + size i) i.a → q ≡ at + x → p ≤ q
      go r ChunkFrom.main s j w e = let f = r.first s j w in omega (arith, r.place)
      go r (ChunkFrom.function h) s j w e = let l = stands_within r.stands in let a = within h in omega (arith, a.0, r.place)
  in_image {m} {p} (Judged.in_pool f b) =
      let r = in-pool b in
      let k = r.found in
      record {
        here = record { from = r.from; code = r.code; chunk = ChunkFrom.function r.chunk; jump = k.instr; position = k.position; stands = k.stands; place = k.place; jumping = k.jumping; wrong = k.wrong };
        first = λ q k. go r k.chunk k.stands k.jumping k.wrong k.place;
      }
    where
      go : InPool (6 + size_of m.code) m.pool p → {at : ℕ} {c : Code} → ChunkFrom m at c → {i : Instr} {x q : ℕ} → Stands i x c
          → jumps i.op ≡ true → Wrong (x + size i) i.a → q ≡ at + x → p ≤ q
      go r ChunkFrom.main s j w e = absurd (passing_none f s j w)
      go r (ChunkFrom.function h) s j w e = let l = r.first h s j w in omega arith

  -- an image that is turned has none
  image_none : {m : Image} {p : ℕ} → Passing jump m.code → All (PassingConst jump) m.pool → JumpAt Wrong m p → ⊥
  image_none {m} f g k = go k.chunk k.stands k.jumping k.wrong
    where
      go : {at : ℕ} {c : Code} → ChunkFrom m at c → {i : Instr} {x : ℕ} → Stands i x c → jumps i.op ≡ true → Wrong (x + size i) i.a → ⊥
      go ChunkFrom.main s j w = passing_none f s j w
      go (ChunkFrom.function h) s j w = pool_none g h s j w

  -- and one that has none before it is stopped there
  stops_there : {m : Image} {p : ℕ} → InImage m p → {r : Made Image} → Judged jump m r → r ≡ stopped p
  stops_there {m} {p} k (Judged.passes f g) = absurd (image_none f g k.here)
  stops_there {m} {p} k (Judged.in_main {p =
      q} b) = let i = in_image {m = m} (Judged.in_main b) in let a = k.first q i.here in let c = i.first p k.here in ap stopped (omega arith)
  stops_there {m} {p} k (Judged.in_pool {p =
      q} f b) = let i = in_image {m = m} (Judged.in_pool f b) in let a = k.first q i.here in let c = i.first p k.here in ap stopped (omega arith)

  module _ (form to : Form) (b : Bytes) (room p : ℕ) where
    -- 26 comes from a translation that stops
    found : (d : Decoded Image) → read_form form b ≡ d → answer_of (turn to jump d) room ≡ Err (refusal bad_jump p)
        → FirstJump form Wrong b p
    found (decoded m n) e q = go (turn_image jump m) (judges jump m) q
      where
        go : (r : Made Image) → Judged jump m r → answer_of (wrote to r) room ≡ Err (refusal bad_jump p) → FirstJump form Wrong b p
        go (made x) j q = absurd (not_26 (image_in to x) room p q)
        go (stopped k) j q =
            let z : refusal bad_jump k ≡ refusal bad_jump p = cc in
            let i = in_image (subst (λ k. Judged jump m (stopped k)) (ap (λ (r : Refusal). r.place) z) j) in
            record { image = m; end = n; reads = e; here = i.here; first = i.first }
    -- 26 comes from a translation that stops
    found (malformed k) e q =
        let z : refusal bad_image k ≡ refusal bad_jump p = cc in let y = ap (λ (r : Refusal). number_of r.reason) z in absurd (omega arith)

    -- of the answer
    answered : (answer_of (translate form to jump b) room ≡ Err (refusal bad_jump p)) ↔ FirstJump form Wrong b p
    unfolding translate
    answered = (
      λ e. found (read_form form b) refl e,
      λ f. ap (λ d. answer_of (turn to jump d) room) f.reads ∙ ap (λ r. answer_of (wrote to r) room) (stops_there (record { here = f.here; first = f.first }) (judges jump f.image)),
    )

  -- of a translation from one form into the other
  refused_26 : (form to : Form) {b o o' : Bytes} {r : Answer} → Turns (translate form to jump b) o r o' → (p : ℕ)
      → (r ≡ Err (refusal bad_jump p)) ↔ FirstJump form Wrong b p
  refused_26 form to {b} {o} k p =
      let e = answered form to b (length o) p in (λ i. e.0 (sym k.answer ∙ i), λ f. k.answer ∙ e.1 f)

-- Number 26, of any call that keeps the promise of `to_chin`
pub number_26 : {b o o' : Bytes} {r : Answer} → Turns (to_chin b) o r o' → (p : ℕ)
    → (r ≡ Err (refusal bad_jump p)) ↔ FirstJump Plain Backwards b p
number_26 k p = refused_26 distance Backwards no_distance Plain Chin k p

-- and of `from_chin`
pub number_26_back : {b o o' : Bytes} {r : Answer} → Turns (from_chin b) o r o' → (p : ℕ)
    → (r ≡ Err (refusal bad_jump p)) ↔ FirstJump Chin TooFar b p
number_26_back k p = refused_26 target TooFar no_target Chin Plain k p
