-- No image of a session that was made, and that compile calls alone have written, is refused 26: its jumps go forward.
use Prim.Native.Nat.{ℕ, ◌+◌, ◌≤◌, ◌<◌}
use native.Mathlib.Omega.{arith}
use mathlib.Core.Bool.{Bool, true, false}
use mathlib.Core.List.{List, [], ◌∷◌, ◌++◌}
use mathlib.Core.Option.{some}
use mathlib.Core.Path.{◌≡◌, sym, ap, subst, ◌∙◌}
use lib.Dec.{T, eqb}
use lib.ListN.{length, take}
use Rattle.definition.specs.Basic.{Bytes, pick}
use Rattle.definition.specs.Number.{is_one_of}
use Rattle.definition.specs.Opcode.{Instr, size, op_jump_not_truthy, op_jump}
use Rattle.definition.specs.Bytecode.{Code, size_of, Const, Image}
use Rattle.definition.specs.Session.{Words, Session}
use Rattle.definition.specs.Call.{Called}
use Rattle.definition.specs.Series.{Call, calls, Start}
use Rattle.definition.specs.Trusted.{Stands, constant_at, Chunk, TrustedChunk, Trusted, TrustedCall}
use Rattle.definition.specs.Valid.{All}
use Rattle.std.specs.Prelude.{Ok}
use Rattle.definition.proofs.Chunks.{pool_more, named_newest}
use Rattle.definition.proofs.Trusted.{trusted_calls}
use Rattle.bytecode.specs.declared.Form.TheVariants.{Chin}
use Rattle.bytecode.proofs.Images.{read_plain}
use Rattle.chin.specs.Turn.{jumps, distance, Made, turn_image}
use Rattle.chin.specs.Refusals.{Passing, PassingConst}
use Rattle.chin.specs.Chin.{Given, given, wrote, turn, translate, to_chin}
use Rattle.chin.proofs.Refusals.{IsMade, is_made, passing_made, forward_passes}

-- an instruction ends within its code
stands_end : {i : Instr} {p : ℕ} (c : Code) → Stands i p c → p + size i ≤ size_of c
stands_end [] s = elim s [ ]
stands_end (j ∷ c) Stands.last = omega arith
stands_end (j ∷ c) (Stands.before s) = omega (arith, stands_end c s)

-- a later start is not before an instruction's end
later_start : {i j : Instr} {p t : ℕ} (c : Code) → Stands i p c → Stands j t c → p < t → p + size i ≤ t
later_start [] s _ h = elim s [ ]
later_start (k ∷ c) Stands.last Stands.last h = let z : ⊥ = omega arith in absurd z
later_start (k ∷ c) Stands.last (Stands.before s) h = let z : ⊥ = omega (arith, stands_end c s) in absurd z
later_start (k ∷ c) (Stands.before s) Stands.last h = stands_end c s
later_start (k ∷ c) (Stands.before s) (Stands.before r) h = later_start c s r h

-- an instruction between two pieces of code stands behind the first
stands_between : (e : Code) (i : Instr) (d : Code) → Stands i (size_of d) (e ++ i ∷ d)
stands_between [] i d = Stands.last
stands_between (x ∷ e) i d = Stands.before (stands_between e i d)

-- an instruction that jumps is one of the two
one_jumps : (o : ℕ) → jumps o ≡ true → T (is_one_of (op_jump_not_truthy ∷ op_jump ∷ []) o)
one_jumps o h = go (eqb o op_jump_not_truthy) (eqb o op_jump) h
  where
    go : (a b : Bool) → pick b true a ≡ true → T (pick a true (pick b true false))
    go true b h = tt
    go false true h = tt
    go false false h = subst T (sym h) tt

-- a chunk that can be trusted has no bad jump
chunk_passes : {pool : List Const} {n : ℕ} (c : Code) → TrustedChunk pool n c → Passing distance c
chunk_passes c t =
    forward_passes c (λ e i d q j.
    let s = subst (Stands i (size_of d)) (sym q) (stands_between e i d) in
    let l = t.jumps s (one_jumps i.op j) in
    later_start c s l.starts l.later)

-- nor has a pool whose functions have none
pool_passes : (cs : List Const) → ((k l n : ℕ) (c : Code) → constant_at cs k ≡ some (Const.function l n c) → Passing distance c) → All (PassingConst distance) cs
pool_passes [] h = All.none
pool_passes (Const.integer b ∷ cs) h = All.more PassingConst.integers (pool_passes cs (λ k l n c e. h k l n c ((pool_more (Const.integer b) cs).keeps k _ e)))
pool_passes (Const.string b ∷ cs) h = All.more PassingConst.strings (pool_passes cs (λ k l n c e. h k l n c ((pool_more (Const.string b) cs).keeps k _ e)))
pool_passes (Const.function l n c ∷ cs) h =
    All.more (PassingConst.functions (h (length cs) l n c (named_newest (Const.function l n c) cs)))
    (pool_passes cs (λ k l₁ n₁ c₁ e. h k l₁ n₁ c₁ ((pool_more (Const.function l n c) cs).keeps k _ e)))

-- An image that can be trusted has another form
pub trusted_made : (m : Image) (z : Session) → Trusted m z → IsMade distance (turn_image distance m)
trusted_made m z t = passing_made distance m (chunk_passes m.code (t.chunks Chunk.main)) (pool_passes m.pool (λ k l n c e. chunk_passes c (t.chunks (Chunk.function k e))))

-- what was given
pub data IsGiven : Given → Type 0 where
  is_given : {b : Bytes} → IsGiven (given b)

-- the call's image has a chin form
pub record Turned (x : Called) : Type 0 where
  pub turned : (n : ℕ) → x.answer ≡ Ok n → IsGiven (to_chin (take n x.lent.output))

made-given : (r : Made Image) → IsMade distance r → IsGiven (wrote Chin r)
made-given _ is_made = is_given

trusted_turned : (x : Called) → TrustedCall x → Turned x
unfolding translate
trusted_turned x t =
    record {
      turned = λ n e. let o = t.wrote n e in
          subst IsGiven (ap (turn Chin distance) (sym (read_plain (take n x.lent.output) ∙ o.reads))) (made-given (turn_image distance o.image) (trusted_made o.image o.session o.trusted));
    }

all_turned : (xs : List Called) → All TrustedCall xs → All Turned xs
all_turned [] All.none = All.none
all_turned (x ∷ xs) (All.more t ts) = All.more (trusted_turned x t) (all_turned xs ts)

-- No image of such calls is refused, neither 17 nor 26
pub calls-turned : {s : Bytes} {w : Words} → Start s w → (cs : List Call) → All Turned (calls s cs)
calls-turned {s} x cs = all_turned (calls s cs) (trusted_calls x cs)
