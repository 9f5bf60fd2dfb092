-- Every image of a series of compile calls from a session that was begun passes where each reached instruction is offered its height.
use Prim.Native.Nat.{ℕ, zero, suc, ◌+◌, ◌≤◌, ◌<◌}
use native.Mathlib.Omega.{arith}
use mathlib.Core.Bool.{Bool, true}
use mathlib.Core.List.{List, [], ◌∷◌}
use mathlib.Core.Option.{some}
use mathlib.Core.Path.{◌≡◌, refl, sym, ap, subst, ◌∙◌}
use lib.ListN.{length, get_or}
use lib.Dec.{T}
use borrow.Author.Tests.{ne_eqb, eq-eqb}
use Rattle.definition.specs.Basic.{pick, both}
use Rattle.definition.specs.Number.{is_one_of}
use Rattle.definition.specs.Opcode.{Instr, op_jump_not_truthy, op_jump}
use Rattle.definition.specs.Bytecode.{Code, size_of, Const, Image, image_bytes}
use Rattle.definition.specs.Session.{Words, Session, begun}
use Rattle.definition.specs.Decode.{decoded, read_image}
use Rattle.definition.specs.Compile.{Outcome, Step, Request, compile, steps}
use Rattle.definition.specs.Valid.{All, ValidWords, ValidImage, ValidSession}
use Rattle.definition.specs.Output.{output_answer}
use Rattle.definition.specs.Trusted.{Stands, constant_at, Chunk, Trusted, TrustedStep}
use Rattle.definition.specs.Effect.{Flow, flows, takes, flow_of, leaps}
use Rattle.definition.proofs.Heights.{FunctionLevel}
use Rattle.definition.proofs.Levels.{LevelConst}
use Rattle.definition.proofs.Invariant.{KeepsSession}
use Rattle.definition.proofs.Reached.{LevelSession, LevelImage, level_steps, reached_enough, reached_once, reached_end, reached_not_end}
use Rattle.definition.proofs.Steps.{begun-valid, compile-valid}
use Rattle.definition.proofs.Trusted.{trusted_steps}
use Rattle.heights.specs.Judgement.{Reaches, EndsAt, Passes, ChunkOf, AllPass, Tops, Offers, Are32Bit}
use Rattle.heights.specs.declared.chunk.Kind.{Kind}
use Rattle.heights.specs.declared.chunk.Kind.TheVariants.{Main, Function}
use Rattle.heights.specs.Pass.{Verdict, verdict_answer, heights_answer}
use Rattle.definition.proofs.Basic.{both_left, both_right}
use Rattle.heights.proofs.Stepping.{whenever}
use Rattle.heights.proofs.Offered.{way, some_offers}
use Rattle.heights.proofs.Fitting.{fitted}
use Rattle.heights.proofs.Verdicts.{Right, judged_right, all_judged}

-- only jumps leap
abbrev IsJump : ℕ → Type 0
IsJump o = T (is_one_of (op_jump_not_truthy ∷ op_jump ∷ []) o)

jumps_only : List Flow → ℕ → Bool
jumps_only [] o = true
jumps_only (f ∷ fs) o = both (pick (leaps f) (is_one_of (op_jump_not_truthy ∷ op_jump ∷ []) o) true) (jumps_only fs (suc o))

leap_in : (fs : List Flow) (o k : ℕ) → jumps_only fs o ≡ true → T (leaps (get_or fs k Flow.next)) → IsJump (o + k)
unfolding jumps_only
leap_in [] o k e t = absurd t
leap_in (f ∷ fs) o zero e t = let q : o ≡ o + 0 = omega arith in subst IsJump q (subst T (sym (whenever (leaps f) _ (both_left (pick (leaps f) (is_one_of (op_jump_not_truthy ∷ op_jump ∷ []) o) true) _ e) t)) tt)
leap_in (f ∷ fs) o (suc k) e t = let q : suc o + k ≡ o + suc k = omega arith in subst IsJump q (leap_in fs (suc o) k (both_right (pick (leaps f) (is_one_of (op_jump_not_truthy ∷ op_jump ∷ []) o) true) _ e) t)

leap_is_jump : (i : Instr) → T (leaps (flow_of i)) → T (is_one_of (op_jump_not_truthy ∷ op_jump ∷ []) i.op)
unfolding jumps_only
leap_is_jump i t = let q : 0 + i.op ≡ i.op = omega arith in subst IsJump q (leap_in flows 0 i.op refl t)

-- a function of the pool
record Named (cs : List Const) (c : Code) : Type 0 where
  index : ℕ
  locals : ℕ
  parameters : ℕ
  below : index < length cs
  is : constant_at cs index ≡ some (Const.function locals parameters c)

named : {m : Image} {cs : List Const} {place first : ℕ} {c : Code} → ChunkOf m cs place Function first c → Named cs c
named (ChunkOf.last {l} {n} {c} {cs}) =
    record { index = length cs; locals = l; parameters = n; below = omega arith; is = ap (λ b. pick b (some (Const.function l n c)) (constant_at cs (length cs))) (eq-eqb (length cs) (length cs) refl) }
named (ChunkOf.before {x} {cs} h) =
    let n = named h in
    let b = n.below in
    record {
      index = n.index;
      locals = n.locals;
      parameters = n.parameters;
      below = omega arith;
      is = ap (λ b. pick b (some x) (constant_at cs n.index)) (ne_eqb (length cs) n.index (λ e. omega arith)) ∙ n.is;
    }

main-code : {m : Image} {cs : List Const} {place first : ℕ} {c : Code} → ChunkOf m cs place Main first c → m.code ≡ c
main-code ChunkOf.main = refl
main-code (ChunkOf.before h) = main-code h

-- a chunk as P2 has it
chunk : {m : Image} {place first : ℕ} {c : Code} (kind : Kind) → ChunkOf m m.pool place kind first c → Chunk m c
chunk {m} Main h = subst (Chunk m) (main-code h) Chunk.main
chunk Function h = let n = named h in Chunk.function n.index n.is

-- a function's heights
function_level : {m : Image} {cs : List Const} {place first : ℕ} {c : Code} → All LevelConst cs → ChunkOf m cs place Function first c → FunctionLevel c
function_level All.none h = elim h [ ]
function_level (All.more l ls) ChunkOf.last = l
function_level (All.more l ls) (ChunkOf.before h) = function_level ls h

-- Each chunk

record Levels (kind : Kind) (c : Code) : Type 0 where
  once : {p x y : ℕ} → Reaches c p x → Reaches c p y → x ≡ y
  enough : {i : Instr} {p x : ℕ} → Stands i p c → Reaches c p x → takes i ≤ x
  ends : {x : ℕ} → Reaches c (size_of c) x → EndsAt kind x

levels : {m : Image} {z : Session} {place first : ℕ} {c : Code} (kind : Kind) → LevelImage m z → ChunkOf m m.pool place kind first c → Levels kind c
levels {m} Main l h =
    subst (Levels Main) (main-code h)
    (record { once = λ r q. reached_once l.main (way r) (way q); enough = λ s r. reached_enough l.main (way r) s; ends = λ r. reached_end l.main (way r) refl })
levels Function l h =
    let f = function_level l.pool h in
    record { once = λ r q. reached_once f.level (way r) (way q); enough = λ s r. reached_enough f.level (way r) s; ends = λ r. reached_not_end f (way r) refl }

-- an image passes with the heights of its reached instructions
image_passes : {m : Image} {z : Session} {hs : List ℕ} → Trusted m z → LevelImage m z → Offers hs m → AllPass hs m m.pool
image_passes {m} {z} {hs} t l o = record { each = λ {kind = kind} h. go kind h }
  where
    go : {place first : ℕ} {c : Code} (kind : Kind) → ChunkOf m m.pool place kind first c → Passes hs kind first c
    go kind h =
        let v = levels kind l h in
        record {
          covered = λ b. o.covered h b;
          jumps = λ {i} s j. (t.chunks (chunk kind h)).jumps s (leap_is_jump i j);
          once = λ s r q. v.once r q;
          offered = λ b r. o.offered h b r;
          enough = λ s r. v.enough s r;
          ends = λ r. v.ends r;
        }

-- Series of calls

-- the image of a call, on bytes: there is a list of 32-bit numbers that offers each reached instruction its height, and with any list that does neither 17 nor 25 arises
pub record HeightsPass (x : Step) : Type 0 where
  pub reads : (m : Image) → x.outcome ≡ Outcome.accepted m → read_image (image_bytes m) ≡ decoded m (length (image_bytes m))
  pub offers : (m : Image) → x.outcome ≡ Outcome.accepted m → (hs : List ℕ) × Offers hs m × Are32Bit hs
  pub passes : (m : Image) → x.outcome ≡ Outcome.accepted m → (hs : List ℕ) → Offers hs m → AllPass hs m m.pool
  pub answers : (m : Image) → x.outcome ≡ Outcome.accepted m → (hs : List ℕ) → Offers hs m → (ns : List ℕ) × Tops m m.pool ns × ((room : ℕ) → heights_answer (read_image (image_bytes m)) hs room ≡ output_answer ns room)

right_tops : {hs : List ℕ} {m : Image} {cs : List Const} {v : Verdict} {ns : List ℕ} → Right hs m cs v → v ≡ Verdict.tops ns → Tops m cs ns
right_tops {m = m} {cs} (Right.tops {ns = ks} a t) e = subst (Tops m cs) (same e) t
  where
    same : {ns : List ℕ} → Verdict.tops ks ≡ Verdict.tops ns → ks ≡ ns
    same e = cc
right_tops {ns = ns} (Right.fails {at} f) e = absurd (never e)
  where
    never : Verdict.fails at ≡ Verdict.tops ns → ⊥
    never e = let z : ◌≡◌ {A = ℕ} 0 1 = cc in omega arith

-- the image of a step, if it has one, is valid
record ValidOutcome (x : Step) : Type 0 where
  image : (m : Image) → x.outcome ≡ Outcome.accepted m → ValidImage m

-- that of each step
all_valid : (z : Session) → ValidSession z → (cs : List Request) → All ValidOutcome (steps z cs)
all_valid z v [] = All.none
all_valid z v (c ∷ cs) = let w = compile-valid z v c in All.more (record { image = w.image }) (all_valid (compile z c).session w.session cs)

-- each step
step_passes : {x : Step} → TrustedStep x → KeepsSession LevelSession LevelImage x → ValidOutcome x → HeightsPass x
step_passes t l v =
    record {
      reads = λ m e. (t.image m e).decodes;
      offers = λ m e. let o = some_offers (l.image m e) in fitted (v.image m e) (image_passes (t.image m e) (l.image m e) o.1) o.1;
      passes = λ m e hs o. image_passes (t.image m e) (l.image m e) o;
      answers = λ m e hs o.
          let j = all_judged hs m m.pool (image_passes (t.image m e) (l.image m e) o) in
          (j.0, right_tops (judged_right hs m m.pool) j.1, λ room. ap (λ d. heights_answer d hs room) (t.image m e).decodes ∙ ap (λ v. verdict_answer v room) j.1);
    }

-- all of them
each_passes : {xs : List Step} → All TrustedStep xs → All (KeepsSession LevelSession LevelImage) xs → All ValidOutcome xs → All HeightsPass xs
each_passes All.none All.none All.none = All.none
each_passes (All.more t ts) (All.more l ls) (All.more v vs) = All.more (step_passes t l v) (each_passes ts ls vs)

-- every image of a series of compile calls from a session begun with valid words
pub compile_heights_pass : (w : Words) → ValidWords w → (cs : List Request) → All HeightsPass (steps (begun w) cs)
compile_heights_pass w v cs = each_passes (trusted_steps w v cs) (level_steps w cs) (all_valid (begun w) (begun-valid w v) cs)
