-- What checking the heights of an image answers and leaves: 17, then 25, then 15.
use Prim.Native.Nat.{ℕ, ◌≤◌, ◌<◌}
use native.Mathlib.Omega.{arith}
use mathlib.Core.List.{List, [], ◌∷◌, ◌++◌}
use mathlib.Core.Path.{◌≡◌, refl, sym, ap, ◌∙◌}
use lib.ListN.{length}
use borrow.Author.Tests.{le-leb, lt-leb}
use Rattle.definition.specs.Basic.{Bytes, pick}
use Rattle.definition.specs.Number.{refusal, output_short, bad_heights}
use Rattle.definition.specs.Bytecode.{Image}
use Rattle.definition.specs.Decode.{Decoded, decoded, malformed, read_image}
use Rattle.definition.specs.Output.{over}
use Rattle.definition.specs.declared.reason.Refusal.{Refusal}
use Rattle.definition.specs.Answer.{Answer}
use Rattle.std.specs.Prelude.{Ok, Err, Result}
use Rattle.session.proofs.Stores.{sets_over}
use Rattle.bytecode.specs.Checked.{image_answer}
use Rattle.listing.specs.Reads.{ImageAt, HasImage}
use Rattle.listing.proofs.Images.{image_parts}
use Rattle.heights.specs.Pass.{Verdict, judged, verdict_answer, verdict_into, heights_answer, heights_into}
use Rattle.heights.specs.Chunks.{pool_answer, PoolJudges}
use Rattle.heights.specs.declared.image.BadChunk.{BadChunk}

-- an empty part in front
pub empty-part : (l o : List ℕ) → length l ≡ 0 → l ++ o ≡ o
empty-part [] o e = refl
empty-part (x ∷ l) o e = absurd (omega arith)

-- an image that was checked
module _ (b : Bytes) {x : Result ℕ Refusal} (e : x ≡ image_answer (read_image b)) where
  pub sound : {k : ℕ} → x ≡ Ok k → HasImage b
  sound {k} s = go (read_image b) refl (sym e ∙ s)
    where
      go : (d : Decoded Image) → read_image b ≡ d → image_answer d ≡ Ok k → HasImage b
      go (decoded m n) h i = record { image = m; is = record { reads = h ∙ ap (decoded m) (image_parts b h).1 } }
      go (malformed p) h i = let z : ◌≡◌ {A = ℕ} 0 1 = cc in absurd (omega arith)

  pub wrong : {q : Refusal} → x ≡ Err q → (hs out : List ℕ) → (Err q ≡ heights_answer (read_image b) hs (length out)) × (out ≡ heights_into (read_image b) hs out)
  wrong {q} s hs out = go (read_image b) (sym e ∙ s)
    where
      go : (d : Decoded Image) → image_answer d ≡ Err q → (Err q ≡ heights_answer d hs (length out)) × (out ≡ heights_into d hs out)
      go (decoded m n) i = let z : ◌≡◌ {A = ℕ} 0 1 = cc in absurd (omega arith)
      go (malformed p) i = (cc, refl)

-- a sound image
module _ (b : Bytes) {m : Image} (i : ImageAt b m) (hs out : List ℕ) where
  -- by the verdict on its chunks
  by_verdict : {v : Verdict} {r : Answer} {o : List ℕ} → judged hs m m.pool ≡ v → r ≡ verdict_answer v (length out) → o ≡ verdict_into v out
      → (r ≡ heights_answer (read_image b) hs (length out)) × (o ≡ heights_into (read_image b) hs out)
  by_verdict j p q = (
    p ∙ sym (ap (λ d. heights_answer d hs (length out)) i.reads ∙ ap (λ v. verdict_answer v (length out)) j),
    q ∙ sym (ap (λ d. heights_into d hs out) i.reads ∙ ap (λ v. verdict_into v out) j),
  )

  -- a chunk fails
  pub fails : {r : Result ℕ BadChunk} {bad : BadChunk} {o o₁ : List ℕ} → PoolJudges hs m m.pool o r o₁ → r ≡ Err bad
      → (Err (refusal bad_heights bad.place) ≡ heights_answer (read_image b) hs (length out)) × (out ≡ heights_into (read_image b) hs out)
  fails {bad = bad} k e = go (judged hs m m.pool) refl (sym e ∙ k.answers)
    where
      go : (v : Verdict) → judged hs m m.pool ≡ v → Err bad ≡ pool_answer v → (Err (refusal bad_heights bad.place) ≡ heights_answer (read_image b) hs (length out)) × (out ≡ heights_into (read_image b) hs out)
      go (Verdict.tops ns) j q = let z : ◌≡◌ {A = ℕ} 0 1 = cc in absurd (omega arith)
      go (Verdict.fails at) j q = let s : bad ≡ record { place = at } = cc in by_verdict j (ap (λ (b : BadChunk). Err (refusal bad_heights b.place)) s) refl

  -- all pass
  module _ {r : Result ℕ BadChunk} {count : ℕ} {o o₁ : List ℕ} (k : PoolJudges hs m m.pool o r o₁) (e : r ≡ Ok count) where
    record Passed : Type 0 where
      tops : List ℕ
      is : judged hs m m.pool ≡ Verdict.tops tops
      many : length tops ≡ count

    passed : Passed
    passed = go (judged hs m m.pool) refl (sym e ∙ k.answers)
      where
        go : (v : Verdict) → judged hs m m.pool ≡ v → Ok count ≡ pool_answer v → Passed
        go (Verdict.tops ns) j q = record { tops = ns; is = j; many = cc }
        go (Verdict.fails at) j q = let z : ◌≡◌ {A = ℕ} 0 1 = cc in absurd (omega arith)

    -- no room
    pub long : length out < count → (Err (refusal output_short 0) ≡ heights_answer (read_image b) hs (length out)) × (out ≡ heights_into (read_image b) hs out)
    long h =
        let p = passed in
        let l = lt-leb (length p.tops) (length out) (omega (arith, p.many)) in
        by_verdict p.is (sym (ap (λ t. pick t (Ok (length p.tops)) (Err (refusal output_short 0))) l)) (sym (ap (λ t. pick t (over p.tops out) out) l))

    -- room: judged again, and stored
    pub written : count ≤ length out → {s : Result ℕ BadChunk} {last : List ℕ} → PoolJudges hs m m.pool out s last
        → (Ok count ≡ heights_answer (read_image b) hs (length out)) × (last ≡ heights_into (read_image b) hs out)
    written h t =
        let p = passed in
        let l = le-leb (length p.tops) (length out) (omega (arith, p.many)) in
        by_verdict p.is (ap Ok (sym p.many) ∙ sym (ap (λ t. pick t (Ok (length p.tops)) (Err (refusal output_short 0))) l))
        (t.stores p.tops p.is ∙ sets_over out p.tops (omega (arith, p.many)) ∙ sym (ap (λ t. pick t (over p.tops out) out) l))
