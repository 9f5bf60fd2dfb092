-- A tree that was read stands there: from the definition's reading to what the walk goes by.
use Prim.Native.Nat.{ℕ, zero, suc, ◌+◌, ◌≤◌}
use native.Mathlib.Omega.{arith}
use mathlib.Core.Bool.{true}
use mathlib.Core.Path.{◌≡◌, refl, sym, ap, subst, ◌∙◌}
use lib.ListN.{length}
use lib.Dec.{leb, eqb}
use borrow.Author.Tests.{eqb-true, leb-true}
use Rattle.definition.specs.Basic.{Bytes, byte_at, both}
use Rattle.definition.specs.Limit.{tree_limit}
use Rattle.definition.specs.Tag.{tag_block, tag_identifier, tag_boolean, tag_macro, tag_program}
use Rattle.definition.specs.Syntax.{Stmt, Stmts, Expr, Exprs}
use Rattle.definition.specs.Field.{head, tagged}
use Rattle.definition.specs.Tree.{Read, seq, read, child, last, ExprTag, StmtTag, expr_tag, stmt_tag, literal, expr_len, expr_head, stmt_head, expr_body, stmt_body}
use Rattle.definition.specs.Tree.{read_stmt, read_block, read_expr, read_program, read_tree, Parsed}
use Rattle.definition.proofs.Basic.{both_true, pick_true, pick_false}
use Rattle.definition.proofs.ReadWellFormed.{Sized, sized}
use Rattle.definition.proofs.Gives.{Gives, right, wrong, gives-seq, gives-pick, gives-met, gives-child, gives_end, gives_head, gives-one_byte, gives-map, judged-gives}
use Rattle.field.specs.Layout.{tag, len, after, Whole}
use Rattle.tree.specs.At.{stmt_list, expr_list, FieldAt, ValueAt, ListAt, StmtIs, ExprKind, kind, expr_kind, ExprIs}
use Rattle.tree.specs.Reads.{StmtAt, BlockAt, ExprAt, ReadsStmts}
use Rattle.field.proofs.Content.{content-bytes}
use Rattle.tree.proofs.Parts.{as_stmts}
use Rattle.tree.proofs.Stood.{Rowed, StandFields, stood_stmts, stood_exprs, stood_pairs, stood_else, whole_at, stood_name, stood_operator, stood_params}

module _ (tree : Bytes) where
  -- a field's content was read to its end, as W
  record Held {A : Type 0} (W : A → Type 0) (at : ℕ) (a : A) (n : ℕ) : Type 0 where
    ends : n ≡ after tree at
    is : W a

  module _ {E : ℕ → Expr → Type 0} {e : ℕ → ℕ → Read Expr} (F : StandFields tree E e) where
    -- a statement that is one expression
    held_value : (make : ℕ → Expr → Stmt) (at : ℕ) → after tree at ≤ length tree
        → Gives (Held (ValueAt tree E make at) at) (seq (child e at (at + 3) (after tree at)) (λ x at₁. last (make at x) at₁ (after tree at)))
    held_value make at h =
        gives-seq (gives-child F at (at + 3) (after tree at) h) (λ x at₁ p.
        gives_end (make at x) at₁ (after tree at) (λ z. record { ends = z; is = record { value = x; is = refl; on_value = p.reads; ends = sym p.ends ∙ z } }))

    -- an expression that is a list of expressions
    held_list : {x : Read Exprs} (make : ℕ → Exprs → Expr) (at : ℕ) → Gives (Rowed tree E expr_list (at + 3) (after tree at)) x → Gives (Held (ListAt tree E make at) at) (seq x (λ xs. read (make at xs)))
    held_list make at g = gives-seq g (λ xs _ p. right (record { ends = p.ends; is = record { items = xs; is = refl; on-items = p.row } }))

    module _ {S : ℕ → Stmt → Type 0} {f : ℕ → ℕ → Read Stmt} (G : StandFields tree S f) where
      -- what a statement holds
      held_stmt : (x : StmtTag) (level at : ℕ) → after tree at ≤ length tree → Gives (Held (StmtIs tree x S E at) at) (stmt_body (byte_at tree) x f e level at (at + 3) (len tree at))
      held_stmt StmtTag.expr_stmt_tag level at h = held_value (λ p x. Stmt.expr_stmt p x) at h
      held_stmt StmtTag.block_tag level at h =
          gives-seq (stood_stmts tree G (len tree at) (at + 3) (after tree at) h) (λ b at₁ p. right (record { ends = p.ends; is = record { body = b; is = refl; on_body = p.row } }))
      held_stmt StmtTag.let_tag level at h =
          gives-seq (gives-child (stood_name tree 1 (level + 1)) at (at + 3) (after tree at) h) (λ x at₁ p. rw p.ends
          (gives-seq (gives-child F at (after tree (at + 3)) (after tree at) h) (λ v at₂ q.
          gives_end (Stmt.let_stmt at x v) at₂ (after tree at) (λ z.
          record { ends = z; is = record { value = v; is = ap (λ n. Stmt.let_stmt at n v) p.reads.is; named = p.reads.named; on_value = q.reads; ends = sym q.ends ∙ z } }))))
      held_stmt StmtTag.return_tag level at h = held_value (λ p x. Stmt.return_stmt p x) at h

    module _ {B : ℕ → Stmts → Type 0} {b : ℕ → ℕ → Read Stmts} (G : StandFields tree B b) where
      -- what an expression holds
      held_expr : (x : ExprTag) (level at : ℕ) → Whole tree at → Sized x (len tree at)
          → Gives (Held (ExprIs tree (kind x) B E at) at) (expr_body (byte_at tree) x e b level at (at + 3) (len tree at))
      held_expr ExprTag.identifier_tag level at w s =
          right (record { ends = refl; is = record { is = ap (λ n. Expr.identifier at n) (content-bytes w); long = s.0; short = s.1 } })
      held_expr ExprTag.prefix_tag level at w s =
          gives-seq (gives-child (stood_operator tree (level + 1)) at (at + 3) (after tree at) w.fits) (λ o at₁ p.
          let i : at₁ ≡ at + 7 = omega (arith, p.ends, p.reads.0.one) in
          let j : at + 3 + 3 ≡ at + 6 = omega arith in
          rw i (gives-seq (gives-child F at (at + 7) (after tree at) w.fits) (λ x at₂ q.
          gives_end (Expr.prefix at o x) at₂ (after tree at) (λ z.
          record { ends = z; is = record { operand = x; is = ap (λ k. Expr.prefix at k x) (p.reads.1 ∙ ap (byte_at tree) j); operator = p.reads.0; on-operand = q.reads; ends = sym q.ends ∙ z } }))))
      held_expr ExprTag.infix_tag level at w s =
          gives-seq (gives-child F at (at + 3) (after tree at) w.fits) (λ l at₁ p. rw p.ends
          (gives-seq (gives-child (stood_operator tree (level + 1)) at (after tree (at + 3)) (after tree at) w.fits) (λ o at₂ q.
          let i : at₂ ≡ after tree (at + 3) + 4 = omega (arith, q.ends, q.reads.0.one) in
          rw i (gives-seq (gives-child F at (after tree (at + 3) + 4) (after tree at) w.fits) (λ r at₃ t.
          gives_end (Expr.infixed at l o r) at₃ (after tree at) (λ z.
          record {
            ends = z;
            is =
                record {
                  left = l;
                  right = r;
                  is = ap (λ k. Expr.infixed at l k r) q.reads.1;
                  on_left = p.reads;
                  operator = q.reads.0;
                  on_right = t.reads;
                  ends = sym t.ends ∙ z;
                };
          }))))))
      held_expr ExprTag.if_tag level at w s =
          gives-seq (gives-child F at (at + 3) (after tree at) w.fits) (λ c at₁ p. rw p.ends
          (gives-seq (gives-child G at (after tree (at + 3)) (after tree at) w.fits) (λ t at₂ q. rw q.ends
          (gives-seq (stood_else tree G (after tree (after tree (at + 3))) (after tree at) w.fits) (λ f at₃ r.
          right (record { ends = r.0; is = record { test = c; branch = t; other = f; is = refl; on_test = p.reads; on_branch = q.reads; fits = q.fits; on_other = r.1 } }))))))
      held_expr ExprTag.function_tag level at w s =
          gives-seq (gives-child (stood_name tree 0 (level + 1)) at (at + 3) (after tree at) w.fits) (λ x at₁ p. rw p.ends
          (gives-seq (gives-child (stood_params tree (level + 1)) at (after tree (at + 3)) (after tree at) w.fits) (λ xs at₂ q. rw q.ends
          (gives-seq (gives-child G at (after tree (after tree (at + 3))) (after tree at) w.fits) (λ f at₃ r.
          gives_end (Expr.function at x xs f) at₃ (after tree at) (λ z.
          record {
            ends = z;
            is =
                record {
                  params = xs;
                  body = f;
                  is = ap (λ n. Expr.function at n xs f) p.reads.is;
                  named = p.reads.named;
                  on_params = q.reads;
                  on_body = r.reads;
                  ends = sym r.ends ∙ z;
                };
          }))))))
      held_expr ExprTag.call_tag level at w s =
          gives-seq (gives-child F at (at + 3) (after tree at) w.fits) (λ c at₁ p. rw p.ends
          (gives-seq (stood_exprs tree F (len tree at) (after tree (at + 3)) (after tree at) w.fits) (λ xs _ q.
          right (record { ends = q.ends; is = record { callee = c; args = xs; is = refl; on_callee = p.reads; fits = p.fits; on_args = q.row } }))))
      held_expr ExprTag.integer_tag level at w s = right (record { ends = refl; is = record { is = ap (λ n. Expr.integer at n) (content-bytes w); eight = s } })
      held_expr ExprTag.string_tag level at w s = right (record { ends = refl; is = ap (λ n. Expr.string at n) (content-bytes w) })
      held_expr ExprTag.array_tag level at w s = held_list (λ p es. Expr.array p es) at (stood_exprs tree F (len tree at) (at + 3) (after tree at) w.fits)
      held_expr ExprTag.index_tag level at w s =
          gives-seq (gives-child F at (at + 3) (after tree at) w.fits) (λ l at₁ p. rw p.ends
          (gives-seq (gives-child F at (after tree (at + 3)) (after tree at) w.fits) (λ i at₂ q.
          gives_end (Expr.index at l i) at₂ (after tree at) (λ z.
          record { ends = z; is = record { left = l; right = i; is = refl; on_left = p.reads; on_right = q.reads; ends = sym q.ends ∙ z } }))))
      held_expr ExprTag.hash_tag level at w s = held_list (λ p es. Expr.hash p es) at (stood_pairs tree F at (len tree at) (at + 3) (after tree at) w.fits)
      held_expr ExprTag.macro_tag level at w s =
          gives-seq (gives-child (stood_params tree (level + 1)) at (at + 3) (after tree at) w.fits) (λ _ at₁ _.
          gives-seq (gives-child G at at₁ (after tree at) w.fits) (λ _ at₂ _. gives_end (Expr.macro at) at₂ (after tree at) (λ z. record { ends = z; is = refl })))

  -- a whole field of the tags that a head's test lets through
  field_at : {low high at end : ℕ} → end ≤ length tree → after tree at ≤ end → both (leb low (tag tree at)) (leb (tag tree at) high) ≡ true → FieldAt tree low high at
  field_at {low} {high} {at} h fit g =
      let g₁ = both_true (leb low (tag tree at)) (leb (tag tree at) high) g in
      record { whole = whole_at tree h fit; from = leb-true _ _ g₁.0; upto = leb-true _ _ g₁.1 }

  -- a boolean has one byte
  boolean_len : (t n : ℕ) → eqb t tag_boolean ≡ true → expr_len (record { tag = t; len = n }) ≡ true → n ≡ 1
  boolean_len t n b g = let z = eqb-true t tag_boolean b in eqb-true n 1 (rw z at g)

  -- an expression of a kind
  expr_at : (n at : ℕ) (e : Expr) {x : ExprKind} → expr_kind (tag tree at) ≡ x → FieldAt tree tag_identifier tag_macro at → ExprIs tree x (BlockAt tree n) (ExprAt tree n) at e → ExprAt tree (suc n) at e
  unfolding StmtAt
  expr_at n at e k f i = (f, subst (λ x. ExprIs tree x (BlockAt tree n) (ExprAt tree n) at e) (sym k) i)

  -- by the fuel
  mutual
    unfolding read_stmt StmtAt

    -- a statement
    stood_stmt : (fuel level : ℕ) → StandFields tree (StmtAt tree fuel) (read_stmt (byte_at tree) fuel level)
    stood_stmt zero level = record { each = λ _ _ _. wrong }
    stood_stmt (suc fuel) level =
        record {
          each =
              λ at end h. gives_head (byte_at tree) stmt_head at end
              (record {
                gives =
                    λ fit good. gives-met level at (gives-map (λ _ _ p. record { ends = p.ends; fits = fit; reads = (field_at h fit good, p.is) })
                    (held_stmt (stood_expr fuel (level + 1)) (stood_stmt fuel (level + 1)) (stmt_tag (tag tree at)) level at (whole_at tree h fit).fits));
              });
        }

    -- a block
    stood_block : (fuel level : ℕ) → StandFields tree (BlockAt tree fuel) (read_block (byte_at tree) fuel level)
    stood_block zero level = record { each = λ _ _ _. wrong }
    stood_block (suc fuel) level =
        record {
          each =
              λ at end h. gives_head (byte_at tree) (tagged tag_block) at end
              (record {
                gives =
                    λ fit good. let w = whole_at tree h fit in gives-met level at (gives-map (λ _ _ p. record { ends = p.ends; fits = fit; reads = (w, eqb-true _ _ good, p.row) })
                    (stood_stmts tree (stood_stmt fuel (level + 1)) (len tree at) (at + 3) (after tree at) w.fits));
              });
        }

    -- an expression
    stood_expr : (fuel level : ℕ) → StandFields tree (ExprAt tree fuel) (read_expr (byte_at tree) fuel level)
    stood_expr zero level = record { each = λ _ _ _. wrong }
    stood_expr (suc fuel) level =
        record {
          each =
              λ at end h. gives_head (byte_at tree) expr_head at end
              (record {
                gives =
                    λ fit good.
                    let g = both_true (both (leb tag_identifier (tag tree at)) (leb (tag tree at) tag_macro)) (expr_len (head (byte_at tree) at)) good in
                    let f = field_at h fit g.0 in
                    gives-pick (eqb (tag tree at) tag_boolean)
                    (λ t.
                    let l = boolean_len (tag tree at) (len tree at) t g.1 in
                    gives-one_byte (byte_at tree) (λ x. Expr.boolean at x) 1 literal level at (at + 3)
                    (λ small. record { ends = omega arith; fits = fit; reads = expr_at fuel at (Expr.boolean at (byte_at tree (at + 3))) (pick_true _ _ t) f (record { is = refl; one = l; known = small }) }))
                    (λ t. gives-met level at (gives-map (λ e _ p. record { ends = p.ends; fits = fit; reads = expr_at fuel at e (pick_false _ _ t) f p.is })
                    (held_expr (stood_expr fuel (level + 1)) (stood_block fuel (level + 1)) (expr_tag (tag tree at)) level at f.whole (sized (tag tree at) (len tree at) g.1))));
              });
        }

  -- a program
  stood_program : Gives (Rowed tree (StmtAt tree (length tree)) stmt_list 3 (length tree)) (read_program (byte_at tree) (length tree))
  unfolding read_program
  stood_program =
      gives-pick (leb (length tree) tree_limit)
      (λ _. gives_head (byte_at tree) (λ h. both (tagged tag_program h) (eqb (3 + h.len) (length tree))) 0 (length tree)
      (record { gives = λ _ _. stood_stmts tree (stood_stmt (length tree) 2) (len tree 0) 3 (length tree) (omega arith) }))
      (λ _. wrong)

-- a tree that was read: its statements stand there
pub tree_stands : (tree : Bytes) (b : Stmts) (n : ℕ) → read_tree tree ≡ Parsed.parsed b n → ReadsStmts tree 3 (length tree) b
unfolding read_tree
tree_stands tree b n e = as_stmts tree (length tree) 3 (length tree) b (judged-gives b n (stood_program tree) e).row
