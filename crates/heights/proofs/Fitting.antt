-- A list that offers heights to code that passes can be taken to have 32-bit numbers alone: where an instruction is reached, its height is
-- at most its position.
use Prim.Native.Nat.{ℕ, zero, suc, ◌+◌, ◌≤◌, ◌<◌}
use native.Mathlib.Omega.{arith}
use mathlib.Core.List.{List, [], ◌∷◌, map}
use mathlib.Core.Path.{◌≡◌, refl, sym, ap, subst, ◌∙◌}
use lib.Dec.{T, ltb}
use lib.ListN.{get_or, length-map}
use borrow.Author.Tests.{ltb-true, lt-ltb}
use Rattle.definition.specs.Basic.{pick}
use Rattle.definition.specs.Opcode.{Instr}
use Rattle.definition.specs.Bytecode.{Code, size_of, Const, Image, pool_size}
use Rattle.definition.specs.Trusted.{Stands, Lands}
use Rattle.definition.specs.Valid.{ValidImage}
use Rattle.definition.specs.Effect.{flow_of, leaps}
use Rattle.definition.proofs.Basic.{chosen, pick_true}
use Rattle.definition.proofs.Instructions.{code-length}
use Rattle.definition.proofs.Reached.{stands_within}
use Rattle.heights.specs.Judgement.{Reaches, ChunkOf, AllPass, Offers, number_bound, Are32Bit}
use Rattle.heights.specs.declared.chunk.Kind.{Kind}
use Rattle.heights.proofs.Positions.{placed_stands}
use Rattle.heights.proofs.Tables.{gives_one}

-- a height is at most the position where it is reached, as each instruction gives one value at most
height_below : {c : Code} → ((i : Instr) (p : ℕ) → Stands i p c → T (leaps (flow_of i)) → Lands c p i.a) → {p x : ℕ} → Reaches c p x
    → x ≤ p
height_below j Reaches.start = omega arith
height_below j (Reaches.next {i} r s t e) = let h = height_below j r in let g = gives_one i.op in omega (arith, e)
height_below j (Reaches.leap {i} {p} r s t e) =
    let h = height_below j r in let g = gives_one i.op in let l = (j i p s t).later in omega (arith, e)

-- a chunk is no longer than main's code and the pool
chunk_short : {m : Image} {cs : List Const} {place first : ℕ} {kind : Kind} {c : Code} → ChunkOf m cs place kind first c
    → size_of c ≤ size_of m.code + pool_size cs
chunk_short ChunkOf.main = omega arith
chunk_short (ChunkOf.last {c = c}) = omega (arith, code-length c)
chunk_short (ChunkOf.before h) = let l = chunk_short h in omega arith

-- 0 in place of what is no 32-bit number
cut : ℕ → ℕ
cut x = pick (ltb x number_bound) x 0

-- it is a 32-bit number
cut_below : (x : ℕ) → cut x < number_bound
unfolding cut
cut_below x = chosen (λ y. y < number_bound) (ltb x number_bound) (λ e. ltb-true x number_bound e) (λ _. omega arith)

-- and such a number stays
cut_same : (x : ℕ) → x < number_bound → cut x ≡ x
unfolding cut
cut_same x h = pick_true x 0 (lt-ltb x number_bound h)

-- in a list
cut_at : (hs : List ℕ) (k : ℕ) → get_or (map cut hs) k 0 ≡ cut (get_or hs k 0)
unfolding cut
cut_at [] k = refl
cut_at (x ∷ hs) zero = refl
cut_at (x ∷ hs) (suc k) = cut_at hs k

-- a list that offers each reached instruction its height, in 32-bit numbers
pub fitted : {m : Image} {hs : List ℕ} → ValidImage m → AllPass hs m m.pool → Offers hs m → (ks : List ℕ) × Offers ks m × Are32Bit ks
fitted {m} {hs} v a o = (
  map cut hs,
  record {
    covered = λ h b. omega (arith, o.covered h b, length-map hs cut);
    offered = λ {first = first} {p = p} {k = k} {x = x} h b r.
        let l = height_below (λ i p s t. (a.each h).jumps s t) r in
        let w = stands_within (placed_stands b) in
        let q = chunk_short h in
        cut_at hs (first + k) ∙ ap cut (o.offered h b r) ∙ cut_same x (omega (arith, v.size, v.pool.size));
  },
  record { below = λ k. subst (λ n. n < number_bound) (sym (cut_at hs k)) (cut_below (get_or hs k 0)) },
)
