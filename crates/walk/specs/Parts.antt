-- What the walk's functions ask of the memory; the walk of parts that functions of their own compile; a whole tree.
use Rattle.std.specs.Prelude.{ℕ, ◌+◌, ◌≤◌, ◌≡◌, length}
use Rattle.definition.specs.Basic.{Bytes}
use Rattle.definition.specs.Limit.{tree_limit}
use Rattle.definition.specs.Opcode.{instr, op_jump}
use Rattle.definition.specs.Syntax.{Stmt, Stmts, Else, Expr, Exprs, count}
use Rattle.definition.specs.Tree.{read_tree, Parsed}
use Rattle.definition.specs.Walk.{on, bind, Go, walk_stmts, walk_else, walk_exprs}
use Rattle.scope.specs.View.{View, then}
use Rattle.scope.specs.Machine.{machine, emit, jump, patch}
use Rattle.scope.specs.declared.State.{State}
use Rattle.step.specs.Memory.{Rest, FineState}
use Rattle.field.specs.Layout.{after}
use Rattle.tree.specs.At.{LetAt, PrefixAt, InfixAt, IfAt, FunctionAt, CallAt, IndexAt}
use Rattle.tree.specs.Reads.{ReadsExpr, ReadsExprs, ReadsBlock, Branches}

-- all stands well for a walk on from a state
pub record Standing (tree : Bytes) (m : Rest) (s : State) : Type 0 where
  pub fine : FineState tree m s
  pub short : length tree ≤ tree_limit

-- an array or a hash: its items, then their number
abbrev pub walk_list : ℕ → ℕ → Exprs → Go View
walk_list p o es v = then (walk_exprs machine es v) (emit p (instr o (count es) 0))

-- a branch of the if at a place: a block without its last Pop
abbrev pub walk_branch : ℕ → Stmts → Go View
walk_branch p b v = then (walk_stmts machine b v) (machine.drop_pop p)

-- the other branch of the if at a place
abbrev pub walk_other : ℕ → Else → Go View
walk_other p e = walk_else machine e p

-- the branches of the if at a place, whose first jump stands at a position
abbrev pub walk_branches : ℕ → ℕ → Branches → Go View
walk_branches p j b v =
    bind (walk_stmts machine b.first v) (λ _ v₁.
    bind (machine.drop_pop p v₁) (λ _ v₂.
    bind (jump p op_jump v₂) (λ k v₃.
    bind (walk_else machine b.other p (patch j v₃)) (λ _ v₄.
    on tt (patch k v₄)))))

-- the statements that a whole tree reads as
pub record ReadsTree (tree : Bytes) (b : Stmts) : Type 0 where
  pub end : ℕ
  pub reads : read_tree tree ≡ Parsed.parsed b end

-- what stands at an offset, with its parts: each construct that a function of its own compiles
module _ (tree : Bytes) where
  abbrev pub Let : ℕ → Stmt → Type 0
  Let = LetAt tree (ReadsExpr tree)

  abbrev pub Prefix : ℕ → Expr → Type 0
  Prefix = PrefixAt tree (ReadsExpr tree)

  abbrev pub Infix : ℕ → Expr → Type 0
  Infix = InfixAt tree (ReadsExpr tree)

  abbrev pub If : ℕ → Expr → Type 0
  If = IfAt tree (ReadsBlock tree) (ReadsExpr tree)

  abbrev pub Function : ℕ → Expr → Type 0
  Function = FunctionAt tree (ReadsBlock tree)

  abbrev pub Call : ℕ → Expr → Type 0
  Call = CallAt tree (ReadsExpr tree)

  abbrev pub Index : ℕ → Expr → Type 0
  Index = IndexAt tree (ReadsExpr tree)

  abbrev pub Items : ℕ → Exprs → Type 0
  Items at = ReadsExprs tree (at + 3) (after tree at)
