-- Two calls of `write_shape` that are not refused write equal bytes exactly when their trees are alike.
use Prim.Native.Nat.{ℕ}
use native.Mathlib.Omega.{arith}
use mathlib.Core.Bool.{Bool, true, false}
use mathlib.Core.Logic.{◌↔◌}
use mathlib.Core.Path.{◌≡◌, refl, sym, ap, ◌∙◌}
use lib.ListN.{length, take, drop}
use lib.Seq.{take_at}
use lib.Dec.{leb}
use Rattle.definition.specs.Basic.{Bytes, pick}
use Rattle.definition.specs.Number.{refusal, output_short}
use Rattle.definition.specs.Shape.{shape}
use Rattle.definition.specs.Syntax.{Stmts}
use Rattle.definition.specs.Tree.{Parsed, read_tree}
use Rattle.definition.specs.Output.{over}
use Rattle.std.specs.Prelude.{Ok, Err}
use Rattle.definition.specs.Answer.{Answer}
use Rattle.definition.proofs.ReadShape.{length-shape}
use Rattle.shape.specs.Alike.{AlikeFields}
use Rattle.shape.specs.Promise.{answer_of, output_of, WritesShape}
use Rattle.shape.proofs.Alike.{shapes-alike}

-- a call that was not refused: the tree is read, and its shape stands at the front
record Wrote (tree : Bytes) (n : ℕ) (out : Bytes) : Type 0 where
  pub stmts : Stmts
  pub end : ℕ
  pub reads : read_tree tree ≡ Parsed.parsed stmts end
  pub long : n ≡ length tree
  pub front : take n out ≡ shape tree

wrote : {tree before out : Bytes} {r : Answer} {n : ℕ} → WritesShape tree before r out → r ≡ Ok n → Wrote tree n out
wrote {tree} {before} {out} {r} {n} w e = go (read_tree tree) refl (sym e ∙ w.answer) w.output
  where
    room : (a : Stmts) (m : ℕ) → read_tree tree ≡ Parsed.parsed a m → (b : Bool)
        → Ok n ≡ pick b (Ok (length (shape tree))) (Err (refusal output_short 0)) → out ≡ pick b (over (shape tree) before) before
        → Wrote tree n out
    room a m h true p q =
        let s : n ≡ length (shape tree) = cc in
        record { stmts = a; end = m; reads = h; long = s ∙ length-shape tree; front = ap (take n) q ∙ take_at (shape tree) (drop (length (shape tree)) before) n (sym s) }
    room a m h false p q = let z : ◌≡◌ {A = ℕ} 0 1 = cc in absurd (omega arith)

    go : (o : Parsed Stmts) → read_tree tree ≡ o → Ok n ≡ answer_of o tree (length before) → out ≡ output_of o tree before
        → Wrote tree n out
    go (Parsed.parsed a m) h p q = room a m h (leb (length (shape tree)) (length before)) p q
    go (Parsed.refused s) h p q = let z : ◌≡◌ {A = ℕ} 0 1 = cc in absurd (omega arith)

-- Equal outputs are alike trees, and alike trees equal outputs
pub outputs-alike : {t u a b x y : Bytes} {p q : Answer} {m n : ℕ} → WritesShape t a p x → WritesShape u b q y → p ≡ Ok m → q ≡ Ok n
    → (take m x ≡ take n y) ↔ AlikeFields t u
outputs-alike {t} {u} v w e f =
    let g = wrote v e in
    let h = wrote w f in
    let k = shapes-alike t u g.reads h.reads in
    (λ s. k.0 (sym g.front ∙ s ∙ h.front), λ a. g.front ∙ k.1 a ∙ sym h.front)
