-- What holds of a tree that was read: names, integers and counts have the sizes that their fields allow.
use Prim.Native.Nat.{◌≤◌, ◌<◌}
use mathlib.Core.Path.{◌≡◌}
use lib.ListN.{length}
use Rattle.definition.specs.Limit.{name_limit}
use Rattle.definition.specs.Valid.{All, IsName}
use Rattle.definition.specs.Syntax.{Stmt, Stmts, Else, Expr, Exprs, count}

unfoldable mutual
  pub WfStmt : Stmt → Type 0
  WfStmt (Stmt.expr_stmt p e) = WfExpr e
  WfStmt (Stmt.let_stmt p n e) = IsName n × WfExpr e
  WfStmt (Stmt.return_stmt p e) = WfExpr e
  WfStmt (Stmt.block p b) = WfStmts b

  pub WfStmts : Stmts → Type 0
  WfStmts Stmts.no_stmts = Unit {0}
  WfStmts (Stmts.stmts x xs) = WfStmt x × WfStmts xs

  pub WfElse : Else → Type 0
  WfElse Else.no_else = Unit {0}
  WfElse (Else.else b) = WfStmts b

  pub WfExpr : Expr → Type 0
  WfExpr (Expr.identifier p n) = IsName n
  WfExpr (Expr.prefix p o e) = WfExpr e
  WfExpr (Expr.infixed p l o r) = WfExpr l × WfExpr r
  WfExpr (Expr.if p c t e) = WfExpr c × WfStmts t × WfElse e
  WfExpr (Expr.function p n ps b) = (length n ≤ name_limit) × All IsName ps × WfStmts b
  WfExpr (Expr.call p f es) = WfExpr f × WfExprs es
  WfExpr (Expr.integer p b) = length b ≡ 8
  WfExpr (Expr.boolean p b) = b ≤ 1
  WfExpr (Expr.string p b) = Unit {0}
  WfExpr (Expr.array p es) = (count es < 65536) × WfExprs es
  WfExpr (Expr.index p l i) = WfExpr l × WfExpr i
  WfExpr (Expr.hash p es) = (count es < 65536) × WfExprs es
  WfExpr (Expr.macro p) = Unit {0}

  pub WfExprs : Exprs → Type 0
  WfExprs Exprs.no_exprs = Unit {0}
  WfExprs (Exprs.exprs x xs) = WfExpr x × WfExprs xs
