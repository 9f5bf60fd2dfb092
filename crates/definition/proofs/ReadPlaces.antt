-- Reading a tree: every place of what was read, and every place that is refused, is within the tree.
use Prim.Native.Nat.{ℕ, zero, suc, ◌+◌, ◌≤◌}
use native.Mathlib.Omega.{arith}
use mathlib.Core.Bool.{true}
use mathlib.Core.List.{[], ◌∷◌}
use mathlib.Core.Path.{◌≡◌}
use lib.ListN.{length}
use lib.Dec.{T, leb, eqb}
use borrow.Author.Tests.{eqb-true, leb-true}
use Rattle.definition.specs.Basic.{Bytes, byte_at, both}
use Rattle.definition.specs.Limit.{tree_limit}
use Rattle.definition.specs.Number
use Rattle.definition.specs.Number.{refusal, is_one_of, tree_numbers, number_of}
use Rattle.definition.specs.Tag.{tag_identifier, tag_macro, tag_boolean, tag_params, tag_operator, tag_block, tag_program}
use Rattle.definition.specs.Syntax.{Stmt, Stmts, Else, Expr, Exprs}
use Rattle.definition.specs.Field.{Head, tagged, name_head}
use Rattle.definition.specs.Tree.{Read, ExprTag, StmtTag, expr_tag, stmt_tag, plain, literal, expr_len, expr_head, stmt_head, operator_head, pair_of, pairs_of, stmts_of, exprs_of, else_of, read_name, read_operator, read_params, expr_body, stmt_body, read_stmt, read_block, read_expr, read_program, read_tree, Parsed, judged}
use Rattle.definition.proofs.Basic.{both_true}
use Rattle.definition.proofs.Placed.{PlacedStmt, PlacedStmts, PlacedElse, PlacedExpr, PlacedExprs, Deep, Finds, Before, PlacedFields, finds_seq, finds_pick, finds_met, finds_before, finds_read, finds_last, finds_child, finds_field, finds_byte, finds_many}
use Rattle.definition.specs.declared.reason.Reason.{Reason}

-- of a boolean and an operator the content is one byte
one-byte : (h : Head) → tagged tag_boolean h ≡ true → expr_len h ≡ true → h.len ≡ 1
one-byte h t e = go h.tag h.len (eqb-true h.tag tag_boolean t) e
  where
    go : (t n : ℕ) → t ≡ tag_boolean → expr_len (record { tag = t; len = n }) ≡ true → n ≡ 1
    go t n i e = eqb-true n 1 (rw i at e)

-- what has no place
abbrev Any : {A : Type 0} → A → Type 0
Any _ = Unit {0}

module _ {bound : ℕ} where
  module _ {f : ℕ → ℕ → Read Stmt} (F : PlacedFields bound (PlacedStmt bound) f) where
    -- statements
    finds_stmts : (fuel at end : ℕ) → at ≤ end → end ≤ bound → Finds bound (Before (PlacedStmts bound) end) (stmts_of f fuel at end)
    unfolding PlacedStmts
    finds_stmts = finds_many Stmts.no_stmts (λ x xs. Stmts.stmts x xs) tt (λ _ _ w ws. (w, ws)) F

  module _ {f : ℕ → ℕ → Read Expr} (F : PlacedFields bound (PlacedExpr bound) f) where
    -- expressions
    finds_exprs : (fuel at end : ℕ) → at ≤ end → end ≤ bound → Finds bound (Before (PlacedExprs bound) end) (exprs_of f fuel at end)
    unfolding PlacedExprs
    finds_exprs = finds_many Exprs.no_exprs (λ x xs. Exprs.exprs x xs) tt (λ _ _ w ws. (w, ws)) F

    -- a key and its value
    finds_pair : (parent : ℕ) → parent ≤ bound → PlacedFields bound (λ x. PlacedExpr bound x.0 × PlacedExpr bound x.1) (pair_of f parent)
    finds_pair parent l =
        record {
          each =
              λ at end h k. finds_seq (F.each at end h k) (λ x at₁ p. finds_seq (finds_child F parent at₁ end l p.ends k) (λ v n q. finds_read n q.ends (p.placed, q.placed)));
        }

    -- keys and values
    finds_pairs : (parent : ℕ) → parent ≤ bound → (fuel at end : ℕ) → at ≤ end → end ≤ bound → Finds bound (Before (PlacedExprs bound) end) (pairs_of f parent fuel at end)
    unfolding PlacedExprs
    finds_pairs parent l = finds_many Exprs.no_exprs (λ x xs. Exprs.exprs x.0 (Exprs.exprs x.1 xs)) tt (λ _ _ w ws. (w.0, (w.1, ws))) (finds_pair parent l)

  -- an else, or none
  finds_else : {f : ℕ → ℕ → Read Stmts} → PlacedFields bound (PlacedStmts bound) f → (at end : ℕ) → at ≤ end → end ≤ bound → Finds bound (Before (PlacedElse bound) end) (else_of f at end)
  unfolding PlacedElse
  finds_else F at end h k =
      finds_pick (eqb at end) (λ _. finds_read at h tt) (λ _. finds_seq (F.each at end h k) (λ b at₁ p. finds_last (Else.else b) at₁ end p.ends k p.placed))

  module _ (byte : ℕ → ℕ) where
    -- a name
    finds_name : (least level : ℕ) → PlacedFields bound Any (read_name byte least level)
    finds_name least level = record { each = λ at end h k. finds_field byte (name_head least) at end h k (λ x in₀ r _. finds_met level at (omega arith) (finds_read (in₀ + x.len) r tt)) }

    -- parameters
    finds_params : (level : ℕ) → PlacedFields bound Any (read_params byte level)
    finds_params level =
        record {
          each =
              λ at end h k. finds_field byte (tagged tag_params) at end h k (λ x in₀ r _. finds_met level at (omega arith)
              (finds_before r (finds_many {W = Any} [] (λ x xs. x ∷ xs) tt (λ _ _ _ _. tt) (finds_name 1 (level + 1)) x.len in₀ (in₀ + x.len) (omega arith) (omega arith))));
        }

    -- an operator
    finds_operator : (level : ℕ) → PlacedFields bound Any (read_operator byte level)
    finds_operator level =
        record {
          each =
              λ at end h k. finds_field byte operator_head at end h k (λ x in₀ r g.
              finds_byte byte (λ o. o) 9 plain level at in₀ (omega arith) (omega (arith, eqb-true x.len 1 (both_true (tagged tag_operator x) (eqb x.len 1) g).1)) (λ _. tt));
        }

    module _ {e : ℕ → ℕ → Read Expr} (E : PlacedFields bound (PlacedExpr bound) e) where
      module _ {b : ℕ → ℕ → Read Stmts} (B : PlacedFields bound (PlacedStmts bound) b) where
        -- what an expression holds
        finds_expr_body : (x : ExprTag) (level at in₀ n : ℕ) → at ≤ bound → in₀ + n ≤ bound → Finds bound (Before (PlacedExpr bound) (in₀ + n)) (expr_body byte x e b level at in₀ n)
        unfolding PlacedExpr
        finds_expr_body ExprTag.identifier_tag level at in₀ n l h = finds_read (in₀ + n) (omega arith) l
        finds_expr_body ExprTag.prefix_tag level at in₀ n l h =
            finds_seq (finds_child (finds_operator (level + 1)) at in₀ (in₀ + n) l (omega arith) h) (λ o at₁ p. finds_seq (finds_child E at at₁ (in₀ + n) l p.ends h) (λ x at₂ q.
            finds_last (Expr.prefix at o x) at₂ (in₀ + n) q.ends h (l, q.placed)))
        finds_expr_body ExprTag.infix_tag level at in₀ n l h =
            finds_seq (finds_child E at in₀ (in₀ + n) l (omega arith) h) (λ x at₁ p. finds_seq (finds_child (finds_operator (level + 1)) at at₁ (in₀ + n) l p.ends h) (λ o at₂ q. finds_seq (finds_child E at at₂ (in₀ + n) l q.ends h) (λ y at₃ r.
            finds_last (Expr.infixed at x o y) at₃ (in₀ + n) r.ends h (l, p.placed, r.placed))))
        finds_expr_body ExprTag.if_tag level at in₀ n l h =
            finds_seq (finds_child E at in₀ (in₀ + n) l (omega arith) h) (λ _ at₁ p. finds_seq (finds_child B at at₁ (in₀ + n) l p.ends h) (λ _ at₂ q. finds_seq (finds_else B at₂ (in₀ + n) q.ends h) (λ _ at₃ r.
            finds_read at₃ r.ends (l, p.placed, q.placed, r.placed))))
        finds_expr_body ExprTag.function_tag level at in₀ n l h =
            finds_seq (finds_child (finds_name 0 (level + 1)) at in₀ (in₀ + n) l (omega arith) h) (λ x at₁ p. finds_seq (finds_child (finds_params (level + 1)) at at₁ (in₀ + n) l p.ends h) (λ xs at₂ q. finds_seq (finds_child B at at₂ (in₀ + n) l q.ends h) (λ f at₃ r.
            finds_last (Expr.function at x xs f) at₃ (in₀ + n) r.ends h (l, r.placed))))
        finds_expr_body ExprTag.call_tag level at in₀ n l h =
            finds_seq (finds_child E at in₀ (in₀ + n) l (omega arith) h) (λ _ at₁ p. finds_seq (finds_exprs E n at₁ (in₀ + n) p.ends h) (λ _ at₂ q. finds_read at₂ q.ends (l, p.placed, q.placed)))
        finds_expr_body ExprTag.integer_tag level at in₀ n l h = finds_read (in₀ + n) (omega arith) l
        finds_expr_body ExprTag.string_tag level at in₀ n l h = finds_read (in₀ + n) (omega arith) l
        finds_expr_body ExprTag.array_tag level at in₀ n l h = finds_seq (finds_exprs E n in₀ (in₀ + n) (omega arith) h) (λ _ at₁ p. finds_read at₁ p.ends (l, p.placed))
        finds_expr_body ExprTag.index_tag level at in₀ n l h =
            finds_seq (finds_child E at in₀ (in₀ + n) l (omega arith) h) (λ x at₁ p. finds_seq (finds_child E at at₁ (in₀ + n) l p.ends h) (λ y at₂ q. finds_last (Expr.index at x y) at₂ (in₀ + n) q.ends h (l, p.placed, q.placed)))
        finds_expr_body ExprTag.hash_tag level at in₀ n l h = finds_seq (finds_pairs E at l n in₀ (in₀ + n) (omega arith) h) (λ _ at₁ p. finds_read at₁ p.ends (l, p.placed))
        finds_expr_body ExprTag.macro_tag level at in₀ n l h =
            finds_seq (finds_child (finds_params (level + 1)) at in₀ (in₀ + n) l (omega arith) h) (λ _ at₁ p. finds_seq (finds_child B at at₁ (in₀ + n) l p.ends h) (λ _ at₂ q. finds_last (Expr.macro at) at₂ (in₀ + n) q.ends h l))

      module _ {f : ℕ → ℕ → Read Stmt} (F : PlacedFields bound (PlacedStmt bound) f) where
        -- what a statement holds
        finds_stmt_body : (x : StmtTag) (level at in₀ n : ℕ) → at ≤ bound → in₀ + n ≤ bound → Finds bound (Before (PlacedStmt bound) (in₀ + n)) (stmt_body byte x f e level at in₀ n)
        unfolding PlacedStmt
        finds_stmt_body StmtTag.expr_stmt_tag level at in₀ n l h = finds_seq (finds_child E at in₀ (in₀ + n) l (omega arith) h) (λ x at₁ p. finds_last (Stmt.expr_stmt at x) at₁ (in₀ + n) p.ends h (l, p.placed))
        finds_stmt_body StmtTag.block_tag level at in₀ n l h = finds_seq (finds_stmts F n in₀ (in₀ + n) (omega arith) h) (λ _ at₁ p. finds_read at₁ p.ends p.placed)
        finds_stmt_body StmtTag.let_tag level at in₀ n l h =
            finds_seq (finds_child (finds_name 1 (level + 1)) at in₀ (in₀ + n) l (omega arith) h) (λ x at₁ p. finds_seq (finds_child E at at₁ (in₀ + n) l p.ends h) (λ v at₂ q. finds_last (Stmt.let_stmt at x v) at₂ (in₀ + n) q.ends h (l, q.placed)))
        finds_stmt_body StmtTag.return_tag level at in₀ n l h = finds_seq (finds_child E at in₀ (in₀ + n) l (omega arith) h) (λ x at₁ p. finds_last (Stmt.return_stmt at x) at₁ (in₀ + n) p.ends h (l, p.placed))

    -- by the fuel
    mutual
      unfolding read_stmt PlacedExpr

      -- a statement
      finds_stmt : (fuel level : ℕ) → PlacedFields bound (PlacedStmt bound) (read_stmt byte fuel level)
      finds_stmt zero level = record { each = λ at end h k. Finds.wrong at (omega arith) Deep.nowhere }
      finds_stmt (suc fuel) level =
          record {
            each =
                λ at end h k. finds_field byte stmt_head at end h k (λ x in₀ r _. finds_met level at (omega arith) (finds_before r
                (finds_stmt_body (finds_expr fuel (level + 1)) (finds_stmt fuel (level + 1)) (stmt_tag x.tag) level at in₀ x.len (omega arith) (omega arith))));
          }

      -- a block
      finds_block : (fuel level : ℕ) → PlacedFields bound (PlacedStmts bound) (read_block byte fuel level)
      finds_block zero level = record { each = λ at end h k. Finds.wrong at (omega arith) Deep.nowhere }
      finds_block (suc fuel) level =
          record {
            each =
                λ at end h k. finds_field byte (tagged tag_block) at end h k (λ x in₀ r _. finds_met level at (omega arith) (finds_before r
                (finds_stmts (finds_stmt fuel (level + 1)) x.len in₀ (in₀ + x.len) (omega arith) (omega arith))));
          }

      -- an expression
      finds_expr : (fuel level : ℕ) → PlacedFields bound (PlacedExpr bound) (read_expr byte fuel level)
      finds_expr zero level = record { each = λ at end h k. Finds.wrong at (omega arith) Deep.nowhere }
      finds_expr (suc fuel) level =
          record {
            each =
                λ at end h k. finds_field byte expr_head at end h k (λ x in₀ r g.
                finds_pick (tagged tag_boolean x)
                (λ t. finds_byte byte (λ b. Expr.boolean at b) 1 literal level at in₀ (omega arith) (omega (arith, one-byte x t (both_true (both (leb tag_identifier x.tag) (leb x.tag tag_macro)) (expr_len x) g).1)) (λ _. omega arith))
                (λ _. finds_met level at (omega arith) (finds_before r
                (finds_expr_body (finds_expr fuel (level + 1)) (finds_block fuel (level + 1)) (expr_tag x.tag) level at in₀ x.len (omega arith) (omega arith)))));
          }

-- a program: its bound is its length, and the limit of trees
finds_program : (byte : ℕ → ℕ) (n bound : ℕ) → (n ≤ tree_limit → n ≤ bound) → Finds bound (Before (PlacedStmts bound) n) (read_program byte n)
unfolding read_program
finds_program byte n bound l =
    finds_pick (leb n tree_limit)
    (λ e.
    let k = l (leb-true _ _ e) in
    finds_field byte (λ h. both (tagged tag_program h) (eqb (3 + h.len) n)) 0 n (omega arith) k (λ h in₀ r _. finds_stmts (finds_stmt byte n 2) h.len in₀ n (omega arith) k))
    (λ _. Finds.wrong 0 (omega arith) Deep.nowhere)

-- what reading comes to
pub data PlacedParsed (bound : ℕ) : Parsed Stmts → Type 0 where
  parsed : {b : Stmts} {n : ℕ} → PlacedStmts bound b → PlacedParsed bound (Parsed.parsed b n)
  refused : (reason : Reason) (place : ℕ) → T (is_one_of tree_numbers (number_of reason)) → place ≤ bound → PlacedParsed bound (Parsed.refused (refusal reason place))

judged-placed : {bound end : ℕ} {x : Read Stmts} → Finds bound (Before (PlacedStmts bound) end) x → PlacedParsed bound (judged x)
judged-placed (Finds.right p Deep.nowhere) = PlacedParsed.parsed p.placed
judged-placed (Finds.right p (Deep.somewhere {p = q} k)) = PlacedParsed.refused Number.too_deep q tt k
judged-placed (Finds.wrong q p Deep.nowhere) = PlacedParsed.refused Number.bad_tree q tt p
judged-placed (Finds.wrong _ p (Deep.somewhere {p = q} k)) = PlacedParsed.refused Number.too_deep q tt k

-- a tree's places and those that reading refuses: within any bound that its length is within where it is not too long
pub read-places : (tree : Bytes) (bound : ℕ) → (length tree ≤ tree_limit → length tree ≤ bound) → PlacedParsed bound (read_tree tree)
unfolding read_tree
read-places tree bound l = judged-placed (finds_program (byte_at tree) (length tree) bound l)
