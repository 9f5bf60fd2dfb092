-- Where the walk comes to the end of a branch of an If, at whatever depth, and what code the branch has emitted then: number 22's premise
-- in plain words.
use Rattle.std.specs.Prelude.{ℕ, true, false, List, ◌++◌, ◌≡◌, eqb, ltb}
use Rattle.definition.specs.Basic.{Bytes}
use Rattle.definition.specs.Limit.{arguments_limit}
use Rattle.definition.specs.Syntax.{Stmt, Stmts, Else, Expr, Exprs, count}
use Rattle.definition.specs.Opcode.{Instr, op_jump_not_truthy, op_jump}
use Rattle.definition.specs.Bytecode.{Code}
use Rattle.definition.specs.Walk.{Res, less_than, walk_stmt, walk_stmts, walk_expr}
use Rattle.definition.specs.Compiler.{State, machine, define, jump, patch, dropped, enter}
use Rattle.definition.proofs.Branches.{passes}

-- from a state, an If's condition is walked, and its first jump emitted
pub record ToConsequence (p : ℕ) (e : Expr) (s : State) (j : ℕ) (s₂ : State) : Type 0 where
  pub tested : State
  pub condition : walk_expr machine e s ≡ Res.on tt tested
  pub jumps : jump p op_jump_not_truthy tested ≡ Res.on j s₂

-- then its consequence passes, and the second jump is emitted
pub record ToAlternative (p : ℕ) (e : Expr) (b : Stmts) (s : State) (j : ℕ) (s₅ : State) : Type 0 where
  pub second : ℕ
  pub begun : State
  pub walked : State
  pub left : State
  pub before : ToConsequence p e s j begun
  pub consequence : walk_stmts machine b begun ≡ Res.on tt walked
  pub passes : dropped p walked ≡ Res.on tt left
  pub jumps : jump p op_jump left ≡ Res.on second s₅

mutual
  -- A construct, walked from a state, comes to the end of a branch of the If at p, which has emitted d

  pub data StmtMeets (p : ℕ) (d : Code) : Stmt → State → Type 0 where
    expr_stmt : {q : ℕ} {e : Expr} {s : State} → ExprMeets p d e s → StmtMeets p d (Stmt.expr_stmt q e) s
    let_stmt : {q : ℕ} {n : Bytes} {e : Expr} {s s₁ : State} {i : Instr} → define q n s ≡ Res.on i s₁ → ExprMeets p d e s₁
        → StmtMeets p d (Stmt.let_stmt q n e) s
    return_stmt : {q : ℕ} {e : Expr} {s : State} → ExprMeets p d e s → StmtMeets p d (Stmt.return_stmt q e) s
    block : {q : ℕ} {b : Stmts} {s : State} → StmtsMeets p d b s → StmtMeets p d (Stmt.block q b) s

  pub data StmtsMeets (p : ℕ) (d : Code) : Stmts → State → Type 0 where
    here : {x : Stmt} {xs : Stmts} {s : State} → StmtMeets p d x s → StmtsMeets p d (Stmts.stmts x xs) s
    later : {x : Stmt} {xs : Stmts} {s s₁ : State} → walk_stmt machine x s ≡ Res.on tt s₁ → StmtsMeets p d xs s₁
        → StmtsMeets p d (Stmts.stmts x xs) s

  -- a branch of the If at q: inside it, or at its end
  pub data BranchMeets (p : ℕ) (d : Code) : ℕ → Stmts → State → Type 0 where
    inside : {q : ℕ} {b : Stmts} {s : State} → StmtsMeets p d b s → BranchMeets p d q b s
    end : {b : Stmts} {s s₁ : State} → walk_stmts machine b s ≡ Res.on tt s₁ → s₁.code ≡ d ++ s.code → BranchMeets p d p b s

  -- the other branch, if there is one
  pub data ElseMeets (p : ℕ) (d : Code) : ℕ → Else → State → Type 0 where
    else : {q : ℕ} {b : Stmts} {s : State} → BranchMeets p d q b s → ElseMeets p d q (Else.else b) s

  pub data ExprMeets (p : ℕ) (d : Code) : Expr → State → Type 0 where
    prefix : {q o : ℕ} {e : Expr} {s : State} → ExprMeets p d e s → ExprMeets p d (Expr.prefix q o e) s
    left : {q o : ℕ} {l r : Expr} {s : State} → eqb o less_than ≡ false → ExprMeets p d l s → ExprMeets p d (Expr.infixed q l o r) s
    right : {q o : ℕ} {l r : Expr} {s s₁ : State} → eqb o less_than ≡ false → walk_expr machine l s ≡ Res.on tt s₁ → ExprMeets p d r s₁
        → ExprMeets p d (Expr.infixed q l o r) s
    -- right, then left
    less_right : {q o : ℕ} {l r : Expr} {s : State} → eqb o less_than ≡ true → ExprMeets p d r s → ExprMeets p d (Expr.infixed q l o r) s
    less_left : {q o : ℕ} {l r : Expr} {s s₁ : State} → eqb o less_than ≡ true → walk_expr machine r s ≡ Res.on tt s₁ → ExprMeets p d l s₁
        → ExprMeets p d (Expr.infixed q l o r) s
    condition : {q : ℕ} {e : Expr} {b : Stmts} {f : Else} {s : State} → ExprMeets p d e s → ExprMeets p d (Expr.if q e b f) s
    consequence : {q j : ℕ} {e : Expr} {b : Stmts} {f : Else} {s s₂ : State} → ToConsequence q e s j s₂ → BranchMeets p d q b s₂
        → ExprMeets p d (Expr.if q e b f) s
    alternative : {q j : ℕ} {e : Expr} {b : Stmts} {f : Else} {s s₅ : State} → ToAlternative q e b s j s₅ → ElseMeets p d q f (patch j s₅)
        → ExprMeets p d (Expr.if q e b f) s
    function : {q : ℕ} {n : Bytes} {ps : List Bytes} {b : Stmts} {s s₁ : State} → enter q n ps s ≡ Res.on tt s₁ → StmtsMeets p d b s₁
        → ExprMeets p d (Expr.function q n ps b) s
    callee : {q : ℕ} {e : Expr} {es : Exprs} {s : State} → ExprMeets p d e s → ExprMeets p d (Expr.call q e es) s
    arguments : {q : ℕ} {e : Expr} {es : Exprs} {s s₁ : State} → walk_expr machine e s ≡ Res.on tt s₁
        → ltb arguments_limit (count es) ≡ false → ExprsMeets p d es s₁ → ExprMeets p d (Expr.call q e es) s
    array : {q : ℕ} {es : Exprs} {s : State} → ExprsMeets p d es s → ExprMeets p d (Expr.array q es) s
    indexed : {q : ℕ} {l i : Expr} {s : State} → ExprMeets p d l s → ExprMeets p d (Expr.index q l i) s
    index : {q : ℕ} {l i : Expr} {s s₁ : State} → walk_expr machine l s ≡ Res.on tt s₁ → ExprMeets p d i s₁
        → ExprMeets p d (Expr.index q l i) s
    hash : {q : ℕ} {es : Exprs} {s : State} → ExprsMeets p d es s → ExprMeets p d (Expr.hash q es) s

  pub data ExprsMeets (p : ℕ) (d : Code) : Exprs → State → Type 0 where
    first : {x : Expr} {xs : Exprs} {s : State} → ExprMeets p d x s → ExprsMeets p d (Exprs.exprs x xs) s
    next : {x : Expr} {xs : Exprs} {s s₁ : State} → walk_expr machine x s ≡ Res.on tt s₁ → ExprsMeets p d xs s₁
        → ExprsMeets p d (Exprs.exprs x xs) s

-- the walk of statements from a state comes to the end of a branch of the If at p that has emitted nothing, or whose last instruction is
-- neither Pop nor ReturnValue
pub record NoValueAt (p : ℕ) (b : Stmts) (s : State) : Type 0 where
  pub emitted : Code
  pub meets : StmtsMeets p emitted b s
  pub fails : passes emitted ≡ false
