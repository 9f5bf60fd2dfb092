-- The bytes that a construct has at least in a tree, from which its code is paid: a field's head is three bytes, and a name, parameters and
-- an operator are fields of their own.
use Rattle.std.specs.Prelude.{ℕ, ◌+◌, length}
use Rattle.definition.specs.Syntax.{Stmt, Stmts, Else, Expr, Exprs}

unfoldable mutual
  pub bytes_stmt : Stmt → ℕ
  bytes_stmt (Stmt.expr_stmt p e) = 3 + bytes_expr e
  bytes_stmt (Stmt.let_stmt p n e) = 6 + bytes_expr e
  bytes_stmt (Stmt.return_stmt p e) = 3 + bytes_expr e
  bytes_stmt (Stmt.block p b) = 3 + bytes_stmts b

  pub bytes_stmts : Stmts → ℕ
  bytes_stmts Stmts.no_stmts = 0
  bytes_stmts (Stmts.stmts x xs) = bytes_stmt x + bytes_stmts xs

  pub bytes_else : Else → ℕ
  bytes_else Else.no_else = 0
  bytes_else (Else.else b) = 3 + bytes_stmts b

  pub bytes_expr : Expr → ℕ
  bytes_expr (Expr.identifier p n) = 3 + length n
  bytes_expr (Expr.prefix p o e) = 6 + bytes_expr e
  bytes_expr (Expr.infixed p l o r) = 6 + (bytes_expr l + bytes_expr r)
  bytes_expr (Expr.if p c t e) = 6 + (bytes_expr c + (bytes_stmts t + bytes_else e))
  bytes_expr (Expr.function p n ps b) = 12 + bytes_stmts b
  bytes_expr (Expr.call p f es) = 3 + (bytes_expr f + bytes_exprs es)
  bytes_expr (Expr.integer p b) = 3
  bytes_expr (Expr.boolean p b) = 3
  bytes_expr (Expr.string p b) = 3
  bytes_expr (Expr.array p es) = 3 + bytes_exprs es
  bytes_expr (Expr.index p l i) = 3 + (bytes_expr l + bytes_expr i)
  bytes_expr (Expr.hash p es) = 3 + bytes_exprs es
  bytes_expr (Expr.macro p) = 3

  pub bytes_exprs : Exprs → ℕ
  bytes_exprs Exprs.no_exprs = 0
  bytes_exprs (Exprs.exprs x xs) = bytes_expr x + bytes_exprs xs
