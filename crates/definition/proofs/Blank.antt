-- Trees that differ in their literals alone: a map over the literals, and the blank that a shape has for each.
use Prim.Native.Nat.{ℕ}
use mathlib.Core.List.{map}
use Rattle.definition.specs.Basic.{Bytes}
use Rattle.definition.specs.Syntax.{Stmt, Stmts, Else, Expr, Exprs}

-- what becomes of each kind of literal
pub record Literals : Type 0 where
  pub integer : Bytes → Bytes
  pub boolean : ℕ → ℕ
  pub string : Bytes → Bytes

module _ (f : Literals) where
  -- a tree with its literals mapped
  unfoldable mutual
    pub map_stmt : Stmt → Stmt
    map_stmt (Stmt.expr_stmt p e) = Stmt.expr_stmt p (map_expr e)
    map_stmt (Stmt.let_stmt p n e) = Stmt.let_stmt p n (map_expr e)
    map_stmt (Stmt.return_stmt p e) = Stmt.return_stmt p (map_expr e)
    map_stmt (Stmt.block p b) = Stmt.block p (map_stmts b)

    pub map_stmts : Stmts → Stmts
    map_stmts Stmts.no_stmts = Stmts.no_stmts
    map_stmts (Stmts.stmts x xs) = Stmts.stmts (map_stmt x) (map_stmts xs)

    pub map_else : Else → Else
    map_else Else.no_else = Else.no_else
    map_else (Else.else b) = Else.else (map_stmts b)

    pub map_expr : Expr → Expr
    map_expr (Expr.identifier p n) = Expr.identifier p n
    map_expr (Expr.prefix p o e) = Expr.prefix p o (map_expr e)
    map_expr (Expr.infixed p l o r) = Expr.infixed p (map_expr l) o (map_expr r)
    map_expr (Expr.if p c t e) = Expr.if p (map_expr c) (map_stmts t) (map_else e)
    map_expr (Expr.function p n ps b) = Expr.function p n ps (map_stmts b)
    map_expr (Expr.call p e es) = Expr.call p (map_expr e) (map_exprs es)
    map_expr (Expr.integer p b) = Expr.integer p (f.integer b)
    map_expr (Expr.boolean p b) = Expr.boolean p (f.boolean b)
    map_expr (Expr.string p b) = Expr.string p (f.string b)
    map_expr (Expr.array p es) = Expr.array p (map_exprs es)
    map_expr (Expr.index p l i) = Expr.index p (map_expr l) (map_expr i)
    map_expr (Expr.hash p es) = Expr.hash p (map_exprs es)
    map_expr (Expr.macro p) = Expr.macro p

    pub map_exprs : Exprs → Exprs
    map_exprs Exprs.no_exprs = Exprs.no_exprs
    map_exprs (Exprs.exprs x xs) = Exprs.exprs (map_expr x) (map_exprs xs)

-- as many zeros
abbrev pub zeros : Bytes → Bytes
zeros = map (λ _. 0)

-- 0 for each byte of a literal
abbrev pub blank : Literals
blank = record { integer = zeros; boolean = λ _. 0; string = zeros }
