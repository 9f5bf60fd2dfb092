-- What stands at an offset, by its tag: the construct, whose parts read as statements, blocks and expressions in turn.
use Prim.Native.Nat.{ℕ, zero, suc, ◌+◌}
use mathlib.Core.List.{List, [], ◌∷◌}
use mathlib.Core.Path.{◌≡◌, subst}
use Rattle.definition.specs.Basic.{Bytes}
use Rattle.definition.specs.Syntax.{Stmt, Stmts, Else, Expr}
use Rattle.definition.specs.Tree.{ExprTag, StmtTag, stmt_tag}
use Rattle.field.specs.Layout.{tag, after}
use Rattle.tree.specs.At.{Row, stmt_list, expr_list, ElseAt, StmtIs, ExprKind, boolean_kind, kind, expr_kind, ExprIs}
use Rattle.tree.specs.Reads.{StmtAt, BlockAt, ExprAt, ReadsStmt, ReadsExpr, ReadsStmts, ReadsBlock}

module _ (tree : Bytes) where
  -- what holds of each in a row
  pub row-map : {A : Type 0} {P Q : ℕ → A → Type 0} → ((at : ℕ) (x : A) → P at x → Q at x) → (at end : ℕ) (xs : List A) → Row tree P at end xs → Row tree Q at end xs
  row-map f at end [] r = r
  row-map f at end (x ∷ xs) r = (r.0, f at x r.1, row-map f (after tree at) end xs r.2)

  -- an expression of so many levels
  pub as_expr : (n at : ℕ) (e : Expr) → ExprAt tree n at e → ReadsExpr tree at e
  unfolding ExprAt
  as_expr zero at e r = absurd r
  as_expr (suc n) at e r = record { field = r.0; levels = suc n; reads = r }

  -- a statement
  pub as_stmt : (n at : ℕ) (s : Stmt) → StmtAt tree n at s → ReadsStmt tree at s
  unfolding StmtAt
  as_stmt zero at s r = absurd r
  as_stmt (suc n) at s r = record { field = r.0; levels = suc n; reads = r }

  -- statements
  pub as_stmts : (n at end : ℕ) (b : Stmts) → Row tree (StmtAt tree n) at end (stmt_list b) → ReadsStmts tree at end b
  as_stmts n at end b r = record { row = row-map (as_stmt n) at end (stmt_list b) r }

  -- a block
  pub as_block : (n at : ℕ) (b : Stmts) → BlockAt tree n at b → ReadsBlock tree at b
  unfolding StmtAt
  as_block zero at b r = absurd r
  as_block (suc n) at b r = record { whole = r.0; tagged = r.1; body = as_stmts n (at + 3) (after tree at) b r.2 }

  -- what holds of an else's block
  else_map : {B B' : ℕ → Stmts → Type 0} → ((at : ℕ) (b : Stmts) → B at b → B' at b) → (at end : ℕ) (o : Else) → ElseAt tree B at end o → ElseAt tree B' at end o
  else_map g at end Else.no_else r = r
  else_map g at end (Else.else b) r = (r.0, g at b r.1)

  module _ {E E' : ℕ → Expr → Type 0} (f : (at : ℕ) (e : Expr) → E at e → E' at e) where
    -- what holds of the parts of a statement
    stmt_map : {S S' : ℕ → Stmt → Type 0} → ((at : ℕ) (s : Stmt) → S at s → S' at s) → (x : StmtTag) (at : ℕ) (s : Stmt) → StmtIs tree x S E at s → StmtIs tree x S' E' at s
    stmt_map g StmtTag.expr_stmt_tag at s r = record { value = r.value; is = r.is; on_value = f (at + 3) r.value r.on_value; ends = r.ends }
    stmt_map g StmtTag.block_tag at s r = record { body = r.body; is = r.is; on_body = row-map g (at + 3) (after tree at) (stmt_list r.body) r.on_body }
    stmt_map g StmtTag.let_tag at s r = record { value = r.value; is = r.is; named = r.named; on_value = f (after tree (at + 3)) r.value r.on_value; ends = r.ends }
    stmt_map g StmtTag.return_tag at s r = record { value = r.value; is = r.is; on_value = f (at + 3) r.value r.on_value; ends = r.ends }

    -- what holds of the parts of an expression
    expr_map : {B B' : ℕ → Stmts → Type 0} → ((at : ℕ) (b : Stmts) → B at b → B' at b) → (x : ExprKind) (at : ℕ) (e : Expr) → ExprIs tree x B E at e → ExprIs tree x B' E' at e
    expr_map g boolean_kind at e r = r
    expr_map g (kind ExprTag.identifier_tag) at e r = r
    expr_map g (kind ExprTag.prefix_tag) at e r = record { operand = r.operand; is = r.is; operator = r.operator; on-operand = f (at + 7) r.operand r.on-operand; ends = r.ends }
    expr_map g (kind ExprTag.infix_tag) at e r =
        record {
          left = r.left;
          right = r.right;
          is = r.is;
          on_left = f (at + 3) r.left r.on_left;
          operator = r.operator;
          on_right = f (after tree (at + 3) + 4) r.right r.on_right;
          ends = r.ends;
        }
    expr_map g (kind ExprTag.if_tag) at e r =
        record {
          test = r.test;
          branch = r.branch;
          other = r.other;
          is = r.is;
          on_test = f (at + 3) r.test r.on_test;
          on_branch = g (after tree (at + 3)) r.branch r.on_branch;
          fits = r.fits;
          on_other = else_map g (after tree (after tree (at + 3))) (after tree at) r.other r.on_other;
        }
    expr_map g (kind ExprTag.function_tag) at e r =
        record {
          params = r.params;
          body = r.body;
          is = r.is;
          named = r.named;
          on_params = r.on_params;
          on_body = g (after tree (after tree (at + 3))) r.body r.on_body;
          ends = r.ends;
        }
    expr_map g (kind ExprTag.call_tag) at e r =
        record {
          callee = r.callee;
          args = r.args;
          is = r.is;
          on_callee = f (at + 3) r.callee r.on_callee;
          fits = r.fits;
          on_args = row-map f (after tree (at + 3)) (after tree at) (expr_list r.args) r.on_args;
        }
    expr_map g (kind ExprTag.integer_tag) at e r = r
    expr_map g (kind ExprTag.string_tag) at e r = r
    expr_map g (kind ExprTag.array_tag) at e r = record { items = r.items; is = r.is; on-items = row-map f (at + 3) (after tree at) (expr_list r.items) r.on-items }
    expr_map g (kind ExprTag.index_tag) at e r =
        record {
          left = r.left;
          right = r.right;
          is = r.is;
          on_left = f (at + 3) r.left r.on_left;
          on_right = f (after tree (at + 3)) r.right r.on_right;
          ends = r.ends;
        }
    expr_map g (kind ExprTag.hash_tag) at e r = record { items = r.items; is = r.is; on-items = row-map f (at + 3) (after tree at) (expr_list r.items) r.on-items }
    expr_map g (kind ExprTag.macro_tag) at e r = r

module _ {tree : Bytes} {at : ℕ} where
  -- the statement of a tag
  pub stmt_is : (t : ℕ) → tag tree at ≡ t → {s : Stmt} → ReadsStmt tree at s → StmtIs tree (stmt_tag t) (ReadsStmt tree) (ReadsExpr tree) at s
  unfolding StmtAt
  stmt_is t h {s} r = go r.levels r.reads
    where
      go : (n : ℕ) → StmtAt tree n at s → StmtIs tree (stmt_tag t) (ReadsStmt tree) (ReadsExpr tree) at s
      go zero r = absurd r
      go (suc n) r = subst (λ k. StmtIs tree (stmt_tag k) (ReadsStmt tree) (ReadsExpr tree) at s) h (stmt_map tree (as_expr tree n) (as_stmt tree n) (stmt_tag (tag tree at)) at s r.1)

  -- the expression of a tag
  pub expr_is : (t : ℕ) → tag tree at ≡ t → {e : Expr} → ReadsExpr tree at e → ExprIs tree (expr_kind t) (ReadsBlock tree) (ReadsExpr tree) at e
  unfolding StmtAt
  expr_is t h {e} r = go r.levels r.reads
    where
      go : (n : ℕ) → ExprAt tree n at e → ExprIs tree (expr_kind t) (ReadsBlock tree) (ReadsExpr tree) at e
      go zero r = absurd r
      go (suc n) r = subst (λ k. ExprIs tree (expr_kind k) (ReadsBlock tree) (ReadsExpr tree) at e) h (expr_map tree (as_expr tree n) (as_block tree n) (expr_kind (tag tree at)) at e r.1)
