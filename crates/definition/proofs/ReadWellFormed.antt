-- A tree that was read is well formed.
use Prim.Native.Nat.{ℕ, zero, suc, ◌+◌, ◌≤◌}
use native.Mathlib.Omega.{arith}
use mathlib.Core.Bool.{true}
use mathlib.Core.List.{[], ◌∷◌}
use mathlib.Core.Path.{◌≡◌, refl}
use lib.ListN.{length}
use lib.Dec.{leb, eqb}
use borrow.Author.Tests.{eqb-true, leb-true}
use Rattle.definition.specs.Basic.{Bytes, byte_at, both}
use Rattle.definition.specs.Limit.{tree_limit, name_limit}
use Rattle.definition.specs.Tag.{tag_identifier, tag_prefix, tag_infix, tag_if, tag_function, tag_call, tag_integer, tag_boolean, tag_string, tag_array, tag_index, tag_hash, tag_macro, tag_name, tag_params, tag_block, tag_program}
use Rattle.definition.specs.Syntax.{Stmt, Stmts, Else, Expr, Exprs, count}
use Rattle.definition.specs.Field.{Head, tagged, name_head, bytes}
use Rattle.definition.specs.Tree.{Read, ExprTag, StmtTag, expr_tag, stmt_tag, plain, literal, expr_len, expr_head, stmt_head, operator_head, pair_of, pairs_of, stmts_of, exprs_of, else_of, read_name, read_operator, read_params, expr_body, stmt_body, read_stmt, read_block, read_expr, read_program, read_tree, Parsed}
use Rattle.definition.specs.Valid.{All, IsName}
use Rattle.definition.proofs.Basic.{chosen, both_true}
use Rattle.definition.proofs.Bytes.{length-bytes}
use Rattle.definition.proofs.WellFormed.{WfStmt, WfStmts, WfElse, WfExpr, WfExprs}
use Rattle.definition.proofs.Gives.{Gives, Past, WfFields, Filled, gives-seq, gives-pick, gives-met, gives-child, gives-read, gives_last, gives-field, gives_byte, gives-many, past_filled, judged-gives}

-- what an expression's length must be, by its kind
abbrev pub Sized : ExprTag → ℕ → Type 0
Sized ExprTag.identifier_tag n = (1 ≤ n) × (n ≤ name_limit)
Sized ExprTag.integer_tag n = n ≡ 8
Sized ExprTag.prefix_tag n = Unit {0}
Sized ExprTag.infix_tag n = Unit {0}
Sized ExprTag.if_tag n = Unit {0}
Sized ExprTag.function_tag n = Unit {0}
Sized ExprTag.call_tag n = Unit {0}
Sized ExprTag.string_tag n = Unit {0}
Sized ExprTag.array_tag n = Unit {0}
Sized ExprTag.index_tag n = Unit {0}
Sized ExprTag.hash_tag n = Unit {0}
Sized ExprTag.macro_tag n = Unit {0}

-- a head that is right has it
pub sized : (t n : ℕ) → expr_len (record { tag = t; len = n }) ≡ true → Sized (expr_tag t) n
sized t n e =
    let P : ExprTag → Type 0 = λ x. Sized x n in
    chosen P (eqb t tag_identifier) (λ i. let e₁ = both_true (leb 1 n) (leb n name_limit) (rw i at e) in (leb-true _ _ e₁.0, leb-true _ _ e₁.1)) (λ i.
    chosen P (eqb t tag_prefix) (λ _. tt) (λ _.
    chosen P (eqb t tag_infix) (λ _. tt) (λ _.
    chosen P (eqb t tag_if) (λ _. tt) (λ _.
    chosen P (eqb t tag_function) (λ _. tt) (λ _.
    chosen P (eqb t tag_call) (λ _. tt) (λ _.
    chosen P (eqb t tag_integer) (λ j. eqb-true n 8 (rw (i, j) at e)) (λ _.
    chosen P (eqb t tag_string) (λ _. tt) (λ _.
    chosen P (eqb t tag_array) (λ _. tt) (λ _.
    chosen P (eqb t tag_index) (λ _. tt) (λ _.
    chosen P (eqb t tag_hash) (λ _. tt) (λ _. tt)))))))))))

module _ {f : ℕ → ℕ → Read Stmt} (F : WfFields WfStmt f) where
  -- statements
  gives_stmts : (fuel at end : ℕ) → end ≤ tree_limit → Gives (Filled WfStmts (λ _. 0) at end) (stmts_of f fuel at end)
  unfolding WfStmts
  gives_stmts = gives-many (λ _. 0) Stmts.no_stmts (λ x xs. Stmts.stmts x xs) refl (λ _ _. omega arith) tt (λ _ _ w ws. (w, ws)) F

module _ {f : ℕ → ℕ → Read Expr} (F : WfFields WfExpr f) where
  -- expressions
  gives_exprs : (fuel at end : ℕ) → end ≤ tree_limit → Gives (Filled WfExprs count at end) (exprs_of f fuel at end)
  unfolding WfExprs
  gives_exprs = gives-many count Exprs.no_exprs (λ x xs. Exprs.exprs x xs) refl (λ _ _. omega arith) tt (λ _ _ w ws. (w, ws)) F

  -- a key and its value
  gives_pair : (parent : ℕ) → WfFields (λ x. WfExpr x.0 × WfExpr x.1) (pair_of f parent)
  gives_pair parent =
      record { each = λ at end h. gives-seq (F.each at end h) (λ k at₁ p. gives-seq (gives-child F parent at₁ end h) (λ v n q. gives-read n (omega arith) (p.wf, q.wf))) }

  -- keys and values
  gives-pairs : (parent fuel at end : ℕ) → end ≤ tree_limit → Gives (Filled WfExprs count at end) (pairs_of f parent fuel at end)
  unfolding WfExprs
  gives-pairs parent = gives-many count Exprs.no_exprs (λ x xs. Exprs.exprs x.0 (Exprs.exprs x.1 xs)) refl (λ _ _. omega arith) tt (λ _ _ w ws. (w.0, (w.1, ws))) (gives_pair parent)

-- an else, or none
gives_else : {f : ℕ → ℕ → Read Stmts} → WfFields WfStmts f → (at end : ℕ) → end ≤ tree_limit → Gives (Past WfElse at) (else_of f at end)
unfolding WfElse
gives_else F at end h =
    gives-pick (eqb at end) (λ _. gives-read at (omega arith) tt)
    (λ _. gives-seq (F.each at end h) (λ b at₁ p. gives_last (Else.else b) at₁ end (omega arith) p.wf))

module _ (byte : ℕ → ℕ) where
  -- a name of at least so many bytes
  gives_name : {W : Bytes → Type 0} (least : ℕ) → ((b : Bytes) → least ≤ length b → length b ≤ name_limit → W b) → (level : ℕ) → WfFields W (read_name byte least level)
  gives_name {W} least w level =
      record { each = λ at end _. gives-field byte (name_head least) at end (λ x in₀ _ g. gives-met level at (gives-read (in₀ + x.len) (omega arith) (named x in₀ g))) }
    where
      named : (x : Head) (in₀ : ℕ) → name_head least x ≡ true → W (bytes byte in₀ x.len)
      named x in₀ e =
          let e₁ = both_true (leb least x.len) (leb x.len name_limit) (both_true (tagged tag_name x) _ e).1 in
          w (bytes byte in₀ x.len) (rw length-bytes (leb-true _ _ e₁.0)) (rw length-bytes (leb-true _ _ e₁.1))

  -- a name that is not empty
  gives-is_name : (level : ℕ) → WfFields IsName (read_name byte 1 level)
  gives-is_name = gives_name 1 (λ _ s h. record { some = s; short = h })

  -- parameters
  gives_params : (level : ℕ) → WfFields (All IsName) (read_params byte level)
  gives_params level =
      record {
        each =
            λ at end h. gives-field byte (tagged tag_params) at end (λ x in₀ r _. gives-met level at (past_filled (omega arith)
            (gives-many (λ _. 0) [] (λ x xs. x ∷ xs) refl (λ _ _. omega arith) All.none (λ _ _ w ws. All.more w ws) (gives-is_name (level + 1)) x.len in₀ (in₀ + x.len) (omega arith))));
      }

  -- an operator
  gives-operator : (level : ℕ) → WfFields (λ _. Unit {0}) (read_operator byte level)
  gives-operator level = record { each = λ at end _. gives-field byte operator_head at end (λ _ in₀ _ _. gives_byte byte (λ o. o) 9 plain level at in₀ (λ _ _. tt)) }

  module _ {e : ℕ → ℕ → Read Expr} (E : WfFields WfExpr e) where
    module _ {b : ℕ → ℕ → Read Stmts} (B : WfFields WfStmts b) where
      -- what an expression holds
      gives-expr_body : (x : ExprTag) (level at in₀ n : ℕ) → in₀ + n ≤ tree_limit → Sized x n → Gives (Past WfExpr in₀) (expr_body byte x e b level at in₀ n)
      unfolding WfExpr
      gives-expr_body ExprTag.identifier_tag level at in₀ n h s = gives-read (in₀ + n) (omega arith) (record { some = rw length-bytes s.0; short = rw length-bytes s.1 })
      gives-expr_body ExprTag.prefix_tag level at in₀ n h s =
          gives-seq (gives-child (gives-operator (level + 1)) at in₀ (in₀ + n) h) (λ o at₁ p. gives-seq (gives-child E at at₁ (in₀ + n) h) (λ x at₂ q. gives_last (Expr.prefix at o x) at₂ (in₀ + n) (omega arith) q.wf))
      gives-expr_body ExprTag.infix_tag level at in₀ n h s =
          gives-seq (gives-child E at in₀ (in₀ + n) h) (λ x at₁ p. gives-seq (gives-child (gives-operator (level + 1)) at at₁ (in₀ + n) h) (λ o at₂ q. gives-seq (gives-child E at at₂ (in₀ + n) h) (λ y at₃ r.
          gives_last (Expr.infixed at x o y) at₃ (in₀ + n) (omega arith) (p.wf, r.wf))))
      gives-expr_body ExprTag.if_tag level at in₀ n h s =
          gives-seq (gives-child E at in₀ (in₀ + n) h) (λ _ at₁ p. gives-seq (gives-child B at at₁ (in₀ + n) h) (λ _ at₂ q. gives-seq (gives_else B at₂ (in₀ + n) h) (λ _ at₃ r.
          gives-read at₃ (omega arith) (p.wf, q.wf, r.wf))))
      gives-expr_body ExprTag.function_tag level at in₀ n h s =
          gives-seq (gives-child (gives_name 0 (λ _ _ k. k) (level + 1)) at in₀ (in₀ + n) h) (λ x at₁ p. gives-seq (gives-child (gives_params (level + 1)) at at₁ (in₀ + n) h) (λ xs at₂ q. gives-seq (gives-child B at at₂ (in₀ + n) h) (λ f at₃ r.
          gives_last (Expr.function at x xs f) at₃ (in₀ + n) (omega arith) (p.wf, q.wf, r.wf))))
      gives-expr_body ExprTag.call_tag level at in₀ n h s =
          gives-seq (gives-child E at in₀ (in₀ + n) h) (λ _ at₁ p. gives-seq (gives_exprs E n at₁ (in₀ + n) h) (λ _ at₂ q. gives-read at₂ (omega arith) (p.wf, q.wf)))
      gives-expr_body ExprTag.integer_tag level at in₀ n h s = gives-read (in₀ + n) (omega arith) (rw length-bytes s)
      gives-expr_body ExprTag.string_tag level at in₀ n h s = gives-read (in₀ + n) (omega arith) tt
      gives-expr_body ExprTag.array_tag level at in₀ n h s = gives-seq (gives_exprs E n in₀ (in₀ + n) h) (λ _ at₁ p. gives-read at₁ (omega arith) (omega arith, p.wf))
      gives-expr_body ExprTag.index_tag level at in₀ n h s =
          gives-seq (gives-child E at in₀ (in₀ + n) h) (λ x at₁ p. gives-seq (gives-child E at at₁ (in₀ + n) h) (λ y at₂ q. gives_last (Expr.index at x y) at₂ (in₀ + n) (omega arith) (p.wf, q.wf)))
      gives-expr_body ExprTag.hash_tag level at in₀ n h s = gives-seq (gives-pairs E at n in₀ (in₀ + n) h) (λ _ at₁ p. gives-read at₁ (omega arith) (omega arith, p.wf))
      gives-expr_body ExprTag.macro_tag level at in₀ n h s =
          gives-seq (gives-child (gives_params (level + 1)) at in₀ (in₀ + n) h) (λ _ at₁ p. gives-seq (gives-child B at at₁ (in₀ + n) h) (λ _ at₂ q. gives_last (Expr.macro at) at₂ (in₀ + n) (omega arith) tt))

    module _ {f : ℕ → ℕ → Read Stmt} (F : WfFields WfStmt f) where
      -- what a statement holds
      gives-stmt_body : (x : StmtTag) (level at in₀ n : ℕ) → in₀ + n ≤ tree_limit → Gives (Past WfStmt in₀) (stmt_body byte x f e level at in₀ n)
      unfolding WfStmt
      gives-stmt_body StmtTag.expr_stmt_tag level at in₀ n h = gives-seq (gives-child E at in₀ (in₀ + n) h) (λ x at₁ p. gives_last (Stmt.expr_stmt at x) at₁ (in₀ + n) (omega arith) p.wf)
      gives-stmt_body StmtTag.block_tag level at in₀ n h = gives-seq (gives_stmts F n in₀ (in₀ + n) h) (λ _ at₁ p. gives-read at₁ (omega arith) p.wf)
      gives-stmt_body StmtTag.let_tag level at in₀ n h =
          gives-seq (gives-child (gives-is_name (level + 1)) at in₀ (in₀ + n) h) (λ x at₁ p. gives-seq (gives-child E at at₁ (in₀ + n) h) (λ v at₂ q. gives_last (Stmt.let_stmt at x v) at₂ (in₀ + n) (omega arith) (p.wf, q.wf)))
      gives-stmt_body StmtTag.return_tag level at in₀ n h = gives-seq (gives-child E at in₀ (in₀ + n) h) (λ x at₁ p. gives_last (Stmt.return_stmt at x) at₁ (in₀ + n) (omega arith) p.wf)

  -- by the fuel
  mutual
    unfolding read_stmt WfExpr

    -- a statement
    gives_stmt : (fuel level : ℕ) → WfFields WfStmt (read_stmt byte fuel level)
    gives_stmt zero level = record { each = λ _ _ _. Gives.wrong }
    gives_stmt (suc fuel) level =
        record {
          each =
              λ at end h. gives-field byte stmt_head at end (λ x in₀ r _. gives-met level at
              (gives-stmt_body (gives_expr fuel (level + 1)) (gives_stmt fuel (level + 1)) (stmt_tag x.tag) level at in₀ x.len (omega arith)));
        }

    -- a block
    gives-block : (fuel level : ℕ) → WfFields WfStmts (read_block byte fuel level)
    gives-block zero level = record { each = λ _ _ _. Gives.wrong }
    gives-block (suc fuel) level =
        record {
          each =
              λ at end h. gives-field byte (tagged tag_block) at end (λ x in₀ r _. gives-met level at
              (past_filled (omega arith) (gives_stmts (gives_stmt fuel (level + 1)) x.len in₀ (in₀ + x.len) (omega arith))));
        }

    -- an expression
    gives_expr : (fuel level : ℕ) → WfFields WfExpr (read_expr byte fuel level)
    gives_expr zero level = record { each = λ _ _ _. Gives.wrong }
    gives_expr (suc fuel) level =
        record {
          each =
              λ at end h. gives-field byte expr_head at end (λ x in₀ r g.
              gives-pick (tagged tag_boolean x) (λ _. gives_byte byte (λ b. Expr.boolean at b) 1 literal level at in₀ (λ _ k. k))
              (λ _. gives-met level at
              (gives-expr_body (gives_expr fuel (level + 1)) (gives-block fuel (level + 1)) (expr_tag x.tag) level at in₀ x.len (omega arith)
              (sized x.tag x.len (both_true (both (leb tag_identifier x.tag) (leb x.tag tag_macro)) (expr_len x) g).1))));
        }

  -- a program
  gives-program : (n : ℕ) → Gives (Past WfStmts 3) (read_program byte n)
  unfolding read_program
  gives-program n =
      gives-pick (leb n tree_limit)
      (λ e. gives-field byte (λ h. both (tagged tag_program h) (eqb (3 + h.len) n)) 0 n (λ h in₀ _ _. past_filled (omega arith) (gives_stmts (gives_stmt n 2) h.len in₀ n (leb-true _ _ e))))
      (λ _. Gives.wrong)

-- a tree that was read is well formed
pub read_well_formed : (tree : Bytes) (b : Stmts) (n : ℕ) → read_tree tree ≡ Parsed.parsed b n → WfStmts b
unfolding read_tree
read_well_formed tree b n e = (judged-gives b n (gives-program (byte_at tree) (length tree)) e).wf
