-- A refinement is a simulation with the literals as they are.
use mathlib.Core.Path.{◌≡◌, refl, subst}
use Rattle.definition.specs.Syntax.{Stmt, Stmts, Else, Expr, Exprs}
use Rattle.definition.specs.Walk.{Machine, walk_stmts}
use Rattle.definition.proofs.WellFormed.{WfStmts}
use Rattle.definition.proofs.Blank.{Literals, map_stmt, map_stmts, map_else, map_expr, map_exprs}
use Rattle.definition.proofs.Simulation.{Both, Simulation, both_stmts}

abbrev pub as_is : Literals
as_is = record { integer = λ b. b; boolean = λ b. b; string = λ b. b }

mutual
  unfolding map_stmt

  as_is_stmt : (e : Stmt) → map_stmt as_is e ≡ e
  as_is_stmt (Stmt.expr_stmt p e) = λ i. Stmt.expr_stmt p (as_is_expr e i)
  as_is_stmt (Stmt.let_stmt p x e) = λ i. Stmt.let_stmt p x (as_is_expr e i)
  as_is_stmt (Stmt.return_stmt p e) = λ i. Stmt.return_stmt p (as_is_expr e i)
  as_is_stmt (Stmt.block p b) = λ i. Stmt.block p (as_is_stmts b i)

  as_is_stmts : (b : Stmts) → map_stmts as_is b ≡ b
  as_is_stmts Stmts.no_stmts = refl
  as_is_stmts (Stmts.stmts e es) = λ i. Stmts.stmts (as_is_stmt e i) (as_is_stmts es i)

  as_is_else : (e : Else) → map_else as_is e ≡ e
  as_is_else Else.no_else = refl
  as_is_else (Else.else b) = λ i. Else.else (as_is_stmts b i)

  as_is_expr : (e : Expr) → map_expr as_is e ≡ e
  as_is_expr (Expr.identifier p x) = refl
  as_is_expr (Expr.prefix p o e) = λ i. Expr.prefix p o (as_is_expr e i)
  as_is_expr (Expr.infixed p a o b) = λ i. Expr.infixed p (as_is_expr a i) o (as_is_expr b i)
  as_is_expr (Expr.if p c t e) = λ i. Expr.if p (as_is_expr c i) (as_is_stmts t i) (as_is_else e i)
  as_is_expr (Expr.function p x xs b) = λ i. Expr.function p x xs (as_is_stmts b i)
  as_is_expr (Expr.call p e es) = λ i. Expr.call p (as_is_expr e i) (as_is_exprs es i)
  as_is_expr (Expr.integer p b) = refl
  as_is_expr (Expr.boolean p b) = refl
  as_is_expr (Expr.string p b) = refl
  as_is_expr (Expr.array p es) = λ i. Expr.array p (as_is_exprs es i)
  as_is_expr (Expr.index p a b) = λ i. Expr.index p (as_is_expr a i) (as_is_expr b i)
  as_is_expr (Expr.hash p es) = λ i. Expr.hash p (as_is_exprs es i)
  as_is_expr (Expr.macro p) = refl

  as_is_exprs : (es : Exprs) → map_exprs as_is es ≡ es
  as_is_exprs Exprs.no_exprs = refl
  as_is_exprs (Exprs.exprs e es) = λ i. Exprs.exprs (as_is_expr e i) (as_is_exprs es i)

pub refined : {S U W : Type 0} {m : Machine S} {n : Machine U} {R D : W → S → U → Type 0} {Q : S → U → Type 0} → Simulation m n as_is R D Q
    → (b : Stmts) {w : W} {s : S} {t : U} → WfStmts b → D w s t → Both Q (λ (_ : Unit {0}). D w) (walk_stmts m b s) (walk_stmts n b t)
refined {m = m} {n} {D = D} {Q} sim b {w} {s} {t} h d = subst (λ c. Both Q (λ (_ : Unit {0}). D w) (walk_stmts m b s) (walk_stmts n c t)) (as_is_stmts b) (both_stmts sim b h d)
