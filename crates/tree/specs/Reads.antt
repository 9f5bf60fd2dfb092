-- What the bytes of a tree read as: the statement, block or expression at an offset, and those in a row.
use Rattle.std.specs.Prelude.{ℕ, zero, suc, ◌+◌, ◌-◌, ◌*◌, ◌≤◌, List, ◌≡◌, length, ltb}
use Rattle.definition.specs.Basic.{Bytes, pick}
use Rattle.definition.specs.Tag.{tag_expr_stmt, tag_return, tag_block, tag_identifier, tag_macro}
use Rattle.definition.specs.Syntax.{Stmt, Stmts, Else, Expr, Exprs, count}
use Rattle.definition.specs.Tree.{stmt_tag}
use Rattle.field.specs.Layout.{tag, after, Whole}
use Rattle.tree.specs.At.{FieldAt, Row, ReadsNames, stmt_list, expr_list, ElseAt, StmtIs, ExprIs, expr_kind}

-- something stands there that reads so
abbrev pub Some : {A : Type 0} → (A → Type 0) → Type 0
Some {A} R = (a : A) × R a

module _ (tree : Bytes) where
  -- with fewer levels inside than the number says
  unfoldable mutual
    pub StmtAt : ℕ → ℕ → Stmt → Type 0
    StmtAt zero at s = ⊥
    StmtAt (suc n) at s = FieldAt tree tag_expr_stmt tag_return at × StmtIs tree (stmt_tag (tag tree at)) (λ a x. StmtAt n a x) (λ a x. ExprAt n a x) at s

    pub BlockAt : ℕ → ℕ → Stmts → Type 0
    BlockAt zero at b = ⊥
    BlockAt (suc n) at b = Whole tree at × (tag tree at ≡ tag_block) × Row tree (λ a x. StmtAt n a x) (at + 3) (after tree at) (stmt_list b)

    pub ExprAt : ℕ → ℕ → Expr → Type 0
    ExprAt zero at e = ⊥
    ExprAt (suc n) at e = FieldAt tree tag_identifier tag_macro at × ExprIs tree (expr_kind (tag tree at)) (λ a x. BlockAt n a x) (λ a x. ExprAt n a x) at e

-- the statement at an offset
pub record ReadsStmt (tree : Bytes) (at : ℕ) (s : Stmt) : Type 0 where
  pub field : FieldAt tree tag_expr_stmt tag_return at
  pub levels : ℕ
  pub reads : StmtAt tree levels at s

-- the expression at an offset
pub record ReadsExpr (tree : Bytes) (at : ℕ) (e : Expr) : Type 0 where
  pub field : FieldAt tree tag_identifier tag_macro at
  pub levels : ℕ
  pub reads : ExprAt tree levels at e

-- the statements from an offset up to an end
pub record ReadsStmts (tree : Bytes) (at end : ℕ) (b : Stmts) : Type 0 where
  pub row : Row tree (ReadsStmt tree) at end (stmt_list b)

-- the expressions from an offset up to an end
pub record ReadsExprs (tree : Bytes) (at end : ℕ) (es : Exprs) : Type 0 where
  pub row : Row tree (ReadsExpr tree) at end (expr_list es)

-- the block at an offset
pub record ReadsBlock (tree : Bytes) (at : ℕ) (b : Stmts) : Type 0 where
  pub whole : Whole tree at
  pub tagged : tag tree at ≡ tag_block
  pub body : ReadsStmts tree (at + 3) (after tree at) b

-- the last part of the if at an offset
pub record ReadsOther (tree : Bytes) (at : ℕ) (e : Else) : Type 0 where
  pub reads : ElseAt tree (ReadsBlock tree) (after tree (after tree (at + 3))) (after tree at) e

-- what follows the test of an if
pub record Branches : Type 0 where
  pub first : Stmts
  pub other : Else

-- the branches of the if at an offset
pub record ReadsBranches (tree : Bytes) (at : ℕ) (b : Branches) : Type 0 where
  pub on_first : ReadsBlock tree (after tree (at + 3)) b.first
  pub on_other : ReadsOther tree at b.other

-- so many whole fields in a row
abbrev pub Chain : Bytes → ℕ → ℕ → ℕ → Type 0
Chain tree at end zero = at ≡ end
Chain tree at end (suc n) = Whole tree at × (after tree at ≤ end) × Chain tree (after tree at) end n

-- so many whole fields stand in a row, from an offset up to an end
pub record InRow (tree : Bytes) (at end n : ℕ) : Type 0 where
  pub fields : Chain tree at end n

-- how many fields stand from an offset up to an end, counting so many at most
unfoldable pub fields_in : ℕ → Bytes → ℕ → ℕ → ℕ
fields_in zero tree at end = 0
fields_in (suc k) tree at end = let behind = fields_in k tree (after tree at) end in pick (ltb at end) (1 + behind) 0

-- no more than there are bytes
abbrev pub field_count : Bytes → ℕ → ℕ → ℕ
field_count tree from end = fields_in (end - from) tree from end

-- how many fields stand in a row: so many expressions, or names, as are read there
pub record Counted (tree : Bytes) (from end n : ℕ) : Type 0 where
  pub is : n ≡ field_count tree from end
  pub exprs : (es : Exprs) → ReadsExprs tree from end es → n ≡ count es
  pub names : (ns : List Bytes) → ReadsNames tree from end ns → n ≡ length ns
  pub small : n * 3 + from ≤ end
