-- A child's field lies inside its parent's, so what is left to walk falls.
use Prim.Native.Nat.{ℕ, ◌+◌, ◌≤◌}
use native.Mathlib.Omega.{arith}
use mathlib.Core.Path.{◌≡◌}
use Rattle.definition.specs.Basic.{Bytes}
use Rattle.definition.specs.Syntax.{Stmt, Stmts, Else, Expr}
use Rattle.field.specs.Layout.{after}
use Rattle.tree.specs.At.{ValueAt, LetAt, PrefixAt, InfixAt, IfAt, FunctionAt, CallAt, IndexAt}
use Rattle.tree.specs.Reads.{ReadsOther}

-- behind the parent's head, and not past its end
pub record Inside (tree : Bytes) (child parent : ℕ) : Type 0 where
  pub from : parent + 3 ≤ child
  pub upto : after tree child ≤ after tree parent

-- the same of an offset by another name
pub inside_at : {tree : Bytes} {child at parent : ℕ} → child ≡ at → Inside tree at parent → Inside tree child parent
inside_at q i = rw q i

module _ {tree : Bytes} {at : ℕ} where
  module _ {E : ℕ → Expr → Type 0} where
    -- a statement's expression
    pub value-inside : {make : ℕ → Expr → Stmt} {s : Stmt} → ValueAt tree E make at s → Inside tree (at + 3) at
    value-inside r = omega arith

    -- a let's name and value
    pub let_inside : {s : Stmt} → LetAt tree E at s → Inside tree (at + 3) at × Inside tree (after tree (at + 3)) at
    let_inside r = omega arith

    -- a prefix's operator and operand
    pub prefix_inside : {e : Expr} → PrefixAt tree E at e → Inside tree (at + 3) at × Inside tree (at + 7) at
    prefix_inside r = omega arith

    -- an infix's operands, and its operator between them
    pub infix_inside : {e : Expr} → InfixAt tree E at e → Inside tree (at + 3) at × Inside tree (after tree (at + 3)) at × Inside tree (after tree (at + 3) + 4) at
    infix_inside r = omega arith

    -- a call's callee
    pub call-inside : {e : Expr} → CallAt tree E at e → Inside tree (at + 3) at
    call-inside r = omega arith

    -- what is indexed, and by what
    pub index_inside : {e : Expr} → IndexAt tree E at e → Inside tree (at + 3) at × Inside tree (after tree (at + 3)) at
    index_inside r = omega arith

    -- an if's test and first branch
    pub if_inside : {B : ℕ → Stmts → Type 0} {e : Expr} → IfAt tree B E at e → Inside tree (at + 3) at × Inside tree (after tree (at + 3)) at
    if_inside r = omega arith

  -- an if's other branch
  pub else_inside : {b : Stmts} → ReadsOther tree at (Else.else b) → Inside tree (after tree (after tree (at + 3))) at
  else_inside r = omega (arith, r.reads.0)

  -- a function's name, parameters and body
  pub function_inside : {B : ℕ → Stmts → Type 0} {e : Expr} → FunctionAt tree B at e → Inside tree (at + 3) at × Inside tree (after tree (at + 3)) at × Inside tree (after tree (after tree (at + 3))) at
  function_inside r = omega arith
