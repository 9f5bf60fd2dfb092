-- Heights at instructions that are not reached, and behind the last, are not read: the answer is the same whatever stands there.
use Prim.Native.Nat.{ℕ, ◌+◌, ◌<◌}
use native.Mathlib.Omega.{arith}
use mathlib.Core.List.{List, ◌++◌, ◌∷◌, []}
use mathlib.Core.Path.{◌≡◌, refl, sym, ap, ◌∙◌}
use lib.ListN.{length, get_or}
use Rattle.definition.specs.Opcode.{Instr}
use Rattle.definition.specs.Bytecode.{Code, Const, Image}
use Rattle.definition.specs.Decode.{Decoded, decoded, malformed, read_image}
use Rattle.definition.specs.Basic.{Bytes}
use Rattle.heights.specs.Judgement.{Placed, Reaches, Passes, ChunkOf, FirstFailing, Tops}
use Rattle.heights.specs.declared.chunk.Kind.{Kind}
use Rattle.heights.specs.Pass.{Verdict, judged, verdict_answer, verdict_into, heights_answer, heights_into}
use Rattle.heights.proofs.Verdicts.{Right, judged_right, greatest_once}

-- one list has a number wherever the other has one for an instruction, and the same where it is reached
pub record Covers (hs ks : List ℕ) (m : Image) : Type 0 where
  pub covered : {place first : ℕ} {kind : Kind} {c : Code} {i : Instr} {p k : ℕ} → ChunkOf m m.pool place kind first c → Placed i p k c → first + k < length hs → first + k < length ks
  pub offered : {place first : ℕ} {kind : Kind} {c : Code} {i : Instr} {p k x : ℕ} → ChunkOf m m.pool place kind first c → Placed i p k c → Reaches c p x → get_or hs (first + k) 0 ≡ get_or ks (first + k) 0

-- two lists that differ at most where nothing is read
pub record SameRead (hs ks : List ℕ) (m : Image) : Type 0 where
  pub there : Covers hs ks m
  pub back : Covers ks hs m

-- a chunk that passes with one passes with the other
passes_too : {hs ks : List ℕ} {m : Image} → Covers hs ks m → {place first : ℕ} {kind : Kind} {c : Code} → ChunkOf m m.pool place kind first c → Passes hs kind first c → Passes ks kind first c
passes_too s h p =
    record {
      covered = λ b. s.covered h b (p.covered b);
      jumps = λ x j. p.jumps x j;
      once = λ x r q. p.once x r q;
      offered = λ b r. sym (s.offered h b r) ∙ p.offered b r;
      enough = λ x r. p.enough x r;
      ends = λ r. p.ends r;
    }

-- greatest heights are those of the code alone
tops_once : {m : Image} {cs : List Const} {ns ks : List ℕ} → Tops m cs ns → Tops m cs ks → ns ≡ ks
tops_once (Tops.main g) (Tops.main h) = ap (λ n. n ∷ []) (greatest_once g h)
tops_once (Tops.integer t) (Tops.integer u) = tops_once t u
tops_once (Tops.string t) (Tops.string u) = tops_once t u
tops_once (Tops.function t g) (Tops.function u h) = let e = tops_once t u in let f = greatest_once g h in λ j. e j ++ f j ∷ []

module _ {hs ks : List ℕ} {m : Image} (s : SameRead hs ks m) where
  -- of two first failing chunks none is before the other
  none_before : {hs ks : List ℕ} → Covers ks hs m → {a b : ℕ} → FirstFailing hs m m.pool a → FirstFailing ks m m.pool b → a < b → ⊥
  none_before t f g l = f.failing (passes_too t f.chunk (g.earlier f.chunk l))

  same_right : {v w : Verdict} → Right hs m m.pool v → Right ks m m.pool w → v ≡ w
  same_right (Right.tops a t) (Right.tops b u) = ap Verdict.tops (tops_once t u)
  same_right (Right.tops a t) (Right.fails g) = absurd (g.failing (passes_too s.there g.chunk (a.each g.chunk)))
  same_right (Right.fails f) (Right.tops b u) = absurd (f.failing (passes_too s.back f.chunk (b.each f.chunk)))
  same_right (Right.fails {at = a} f) (Right.fails {at = b} g) =
      let x = none_before s.back f g in
      let y = none_before s.there g f in
      let e : a ≡ b = omega arith in
      ap Verdict.fails e

  same_judged : judged hs m m.pool ≡ judged ks m m.pool
  same_judged = same_right (judged_right hs m m.pool) (judged_right ks m m.pool)

-- answer and output of the check
pub heights_unread : (b : Bytes) (hs ks : List ℕ) → ((m : Image) (n : ℕ) → read_image b ≡ decoded m n → SameRead hs ks m) → (out : List ℕ)
    → (heights_answer (read_image b) hs (length out) ≡ heights_answer (read_image b) ks (length out)) × (heights_into (read_image b) hs out ≡ heights_into (read_image b) ks out)
heights_unread b hs ks s out = go (read_image b) refl
  where
    go : (d : Decoded Image) → read_image b ≡ d → (heights_answer d hs (length out) ≡ heights_answer d ks (length out)) × (heights_into d hs out ≡ heights_into d ks out)
    go (decoded m n) e = let j = same_judged (s m n e) in (ap (λ v. verdict_answer v (length out)) j, ap (λ v. verdict_into v out) j)
    go (malformed p) e = (refl, refl)
