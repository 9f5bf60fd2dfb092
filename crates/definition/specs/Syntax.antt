-- The syntax tree, each node with the tree offset of its field.
use Rattle.std.specs.Prelude.{ℕ, zero, suc, List}
use Rattle.definition.specs.Basic.{Bytes}

mutual
  pub data Stmt : Type 0 where
    expr_stmt : ℕ → Expr → Stmt
    let_stmt : ℕ → Bytes → Expr → Stmt
    return_stmt : ℕ → Expr → Stmt
    block : ℕ → Stmts → Stmt

  pub data Stmts : Type 0 where
    no_stmts : Stmts
    stmts : Stmt → Stmts → Stmts

  pub data Else : Type 0 where
    no_else : Else
    else : Stmts → Else

  pub data Expr : Type 0 where
    identifier : ℕ → Bytes → Expr
    prefix : ℕ → ℕ → Expr → Expr
    infixed : ℕ → Expr → ℕ → Expr → Expr
    if : ℕ → Expr → Stmts → Else → Expr
    -- its name (empty: none), its parameters, its body
    function : ℕ → Bytes → List Bytes → Stmts → Expr
    call : ℕ → Expr → Exprs → Expr
    integer : ℕ → Bytes → Expr
    boolean : ℕ → ℕ → Expr
    string : ℕ → Bytes → Expr
    array : ℕ → Exprs → Expr
    index : ℕ → Expr → Expr → Expr
    -- key, value, key, value, ..
    hash : ℕ → Exprs → Expr
    macro : ℕ → Expr

  pub data Exprs : Type 0 where
    no_exprs : Exprs
    exprs : Expr → Exprs → Exprs

abbrev pub count : Exprs → ℕ
count no_exprs = zero
count (exprs e es) = suc (count es)
