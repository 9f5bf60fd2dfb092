-- Checking heights refuses with 25 at a place exactly when the bytes read as an image whose first failing chunk has this place.
use Prim.Native.Nat.{ℕ}
use native.Mathlib.Omega.{arith}
use mathlib.Core.Bool.{Bool, true, false}
use mathlib.Core.List.{List}
use mathlib.Core.Logic.{◌↔◌}
use mathlib.Core.Path.{◌≡◌, refl, sym, ap, subst, ◌∙◌}
use lib.ListN.{length}
use lib.Dec.{leb, ltb}
use borrow.Author.Tests.{ltb-true, ltb-false}
use Rattle.std.specs.Prelude.{Ok, Err}
use Rattle.definition.specs.Basic.{Bytes, pick}
use Rattle.definition.specs.Number.{refusal, number_of, bad_image, bad_heights, output_short}
use Rattle.definition.specs.Bytecode.{Const, Image}
use Rattle.definition.specs.Decode.{Decoded, decoded, malformed, read_image}
use Rattle.definition.specs.Output.{output_answer}
use Rattle.definition.specs.declared.reason.Refusal.{Refusal}
use Rattle.definition.specs.Answer.{Answer}
use Rattle.heights.specs.Judgement.{AllPass, FirstFailing}
use Rattle.heights.specs.Pass.{Verdict, verdict_answer, heights_answer}
use Rattle.heights.specs.Promise.{Checks}
use Rattle.heights.proofs.Verdicts.{Right, judged_right}
use Rattle.promises.specs.Refusals.{FailsAt}

-- there is one first failing chunk
pub failing_once : {hs : List ℕ} {m : Image} {cs : List Const} {p q : ℕ} → FirstFailing hs m cs p → FirstFailing hs m cs q → p ≡ q
failing_once {p = p} {q} f g = go (ltb p q) refl (ltb q p) refl
  where
    go : (a : Bool) → ltb p q ≡ a → (b : Bool) → ltb q p ≡ b → p ≡ q
    go true a b e = absurd (f.failing (g.earlier f.chunk (ltb-true p q a)))
    go false a true e = absurd (g.failing (f.earlier g.chunk (ltb-true q p e)))
    go false a false e = let x = ltb-false p q a in let y = ltb-false q p e in omega arith

-- and none where all pass
pub none_failing : {hs : List ℕ} {m : Image} {cs : List Const} {p : ℕ} → AllPass hs m cs → FirstFailing hs m cs p → ⊥
none_failing a f = f.failing (a.each f.chunk)

-- a list that is answered is not refused with 25
not_25 : (ns : List ℕ) (room p : ℕ) → output_answer ns room ≡ Err (refusal bad_heights p) → ⊥
not_25 ns room p e = go (leb (length ns) room) e
  where
    go : (b : Bool) → pick b (Ok (length ns)) (Err (refusal output_short 0)) ≡ Err (refusal bad_heights p) → ⊥
    go true e = let z : ◌≡◌ {A = ℕ} 0 1 = cc in omega arith
    go false e =
        let z : refusal output_short 0 ≡ refusal bad_heights p = cc in let y = ap (λ (r : Refusal). number_of r.reason) z in omega arith

-- by the verdict
module _ (b : Bytes) (hs : List ℕ) (room p : ℕ) where
  -- 25 comes from a chunk that fails
  fails : (m : Image) (n : ℕ) → read_image b ≡ decoded m n → {v : Verdict} → Right hs m m.pool v
      → verdict_answer v room ≡ Err (refusal bad_heights p) → FailsAt b hs p
  fails m n e (Right.tops {ns = ns} a t) q = absurd (not_25 ns room p q)
  fails m n e (Right.fails {at = at} f) q =
      let z : refusal bad_heights at ≡ refusal bad_heights p = cc in
      record { image = m; end = n; reads = e; failing = subst (FirstFailing hs m m.pool) (ap (λ (r : Refusal). r.place) z) f }

  -- of bytes that read as an image
  found : (d : Decoded Image) → read_image b ≡ d → heights_answer d hs room ≡ Err (refusal bad_heights p) → FailsAt b hs p
  found (decoded m n) e q = fails m n e (judged_right hs m m.pool) q
  -- of bytes that read as an image
  found (malformed k) e q =
      let z : refusal bad_image k ≡ refusal bad_heights p = cc in let y = ap (λ (r : Refusal). number_of r.reason) z in absurd (omega arith)

  -- a first failing chunk is answered with 25
  refused : {m : Image} {v : Verdict} → FirstFailing hs m m.pool p → Right hs m m.pool v
      → verdict_answer v room ≡ Err (refusal bad_heights p)
  refused f (Right.tops a t) = absurd (none_failing a f)
  refused f (Right.fails g) = ap (λ k. Err (refusal bad_heights k)) (failing_once g f)

  -- of the answer
  answered : (heights_answer (read_image b) hs room ≡ Err (refusal bad_heights p)) ↔ FailsAt b hs p
  answered = (
    λ e. found (read_image b) refl e,
    λ f. ap (λ d. heights_answer d hs room) f.reads ∙ refused f.failing (judged_right hs f.image f.image.pool),
  )

-- Number 25, of any call that keeps the promise of `check_heights`
pub number_25 : {b : Bytes} {hs o o' : List ℕ} {r : Answer} → Checks b hs o r o' → (p : ℕ)
    → (r ≡ Err (refusal bad_heights p)) ↔ FailsAt b hs p
number_25 {b} {hs} {o} k p =
    let e = answered b hs (length o) p in (λ i. e.0 (sym k.answer ∙ i), λ f. k.answer ∙ e.1 f)
