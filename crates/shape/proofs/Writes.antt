-- What a call comes to, by what the tree check said.
use Rattle.std.proofs.Common.{ℕ, ◌≡◌, ◌≤◌, ◌<◌, ◌++◌, length, drop, refl, sym, ap, ◌∙◌, arith}
use Rattle.std.specs.Prelude.{Ok, Err}
use Rattle.definition.specs.Answer.{Answer}
use Rattle.definition.specs.Basic.{Bytes}
use Rattle.definition.specs.Number.{refusal, output_short}
use Rattle.definition.specs.Shape.{shape}
use Rattle.definition.specs.Syntax.{Stmts}
use Rattle.definition.specs.Tree.{Parsed, read_tree}
use Rattle.definition.specs.declared.reason.Refusal.{Refusal}
use Rattle.definition.proofs.ReadShape.{length-shape}
use Rattle.opcode.proofs.Encoding.{placing, refusing}
use Rattle.tree.specs.Check.{Checked, verdict}
use Rattle.shape.specs.Promise.{answer_of, output_of, IsRead}

-- the answer and the output of a call
abbrev pub Does : Bytes → Bytes → Answer → Bytes → Type 0
Does tree out r out' = (r ≡ answer_of (read_tree tree) tree (length out)) × (out' ≡ output_of (read_tree tree) tree out)

-- refused by the check
pub does_refused : (tree out : Bytes) {k : Checked} {r : Refusal} → k ≡ verdict (read_tree tree) → k ≡ Err r → Does tree out (Err r) out
does_refused tree out {r = r} p q = go (read_tree tree) (sym q ∙ p)
  where
    go : (o : Parsed Stmts) → ◌≡◌ {A = Checked} (Err r) (verdict o) → (Err r ≡ answer_of o tree (length out)) × (out ≡ output_of o tree out)
    go (Parsed.parsed a n) e = let z : ◌≡◌ {A = ℕ} 0 1 = cc in absurd (omega arith)
    go (Parsed.refused s) e = let h : r ≡ s = cc in (ap Err h, refl)

-- passed by it
pub is_read : (tree : Bytes) {k : Checked} {u : Unit {0}} → k ≡ verdict (read_tree tree) → k ≡ Ok u → IsRead tree
is_read tree {u = u} p q = go (read_tree tree) refl (sym q ∙ p)
  where
    go : (o : Parsed Stmts) → read_tree tree ≡ o → ◌≡◌ {A = Checked} (Ok u) (verdict o) → IsRead tree
    go (Parsed.parsed a n) h e = record { stmts = a; end = n; reads = h }
    go (Parsed.refused s) h e = let z : ◌≡◌ {A = ℕ} 0 1 = cc in absurd (omega arith)

module _ {tree : Bytes} (g : IsRead tree) (out : Bytes) where
  -- then it is a matter of room
  pub does_short : length out < length tree → Does tree out (Err (refusal output_short 0)) out
  does_short h = let d = refusing (shape tree) out (length tree) (length-shape tree) h in rw g.reads d

  pub does_write : length tree ≤ length out → (front : Bytes) → front ≡ shape tree
      → Does tree out (Ok (length tree)) (front ++ drop (length tree) out)
  does_write h front e =
      let d = placing (shape tree) out (length tree) (length-shape tree) h in
      rw g.reads (d.0, (λ i. e i ++ drop (sym (length-shape tree) i) out) ∙ d.1)
