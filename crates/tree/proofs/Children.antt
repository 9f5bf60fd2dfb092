-- The children of what stands at an offset, at their own offsets, as the walk's functions ask for them.
use Prim.Native.Nat.{ℕ, ◌+◌, ◌≤◌, ◌<◌}
use native.Mathlib.Omega.{arith}
use mathlib.Core.Path.{◌≡◌, refl}
use Rattle.definition.specs.Basic.{Bytes}
use Rattle.definition.specs.Tag.{tag_expr_stmt, tag_block, tag_let, tag_return, tag_identifier, tag_prefix, tag_infix, tag_if, tag_function, tag_call, tag_integer, tag_boolean, tag_string, tag_array, tag_index, tag_hash, tag_macro}
use Rattle.definition.specs.Syntax.{Stmt, Stmts, Else, Expr, Exprs}
use Rattle.definition.specs.Tree.{stmt_tag}
use Rattle.field.specs.Layout.{tag, after}
use Rattle.tree.specs.At.{ReadsNames, ValueAt, BlockStmtAt, LetAt, PrefixAt, InfixAt, IfAt, FunctionAt, CallAt, ListAt, IndexAt, StmtIs, expr_kind, ExprIs}
use Rattle.tree.specs.Reads.{Some, ReadsStmt, ReadsExpr, ReadsStmts, ReadsExprs, ReadsBlock, ReadsOther, ReadsBranches}
use Rattle.tree.proofs.Parts.{stmt_is, expr_is}

module _ {tree : Bytes} {at : ℕ} where
  -- the statement of a tag
  pub stmt_here : (t : ℕ) → tag tree at ≡ t → Some (ReadsStmt tree at) → Some (StmtIs tree (stmt_tag t) (ReadsStmt tree) (ReadsExpr tree) at)
  stmt_here t h (s, r) = (s, stmt_is t h r)

  -- the expression of a tag
  pub expr_here : (t : ℕ) → tag tree at ≡ t → Some (ReadsExpr tree at) → Some (ExprIs tree (expr_kind t) (ReadsBlock tree) (ReadsExpr tree) at)
  expr_here t h (e, r) = (e, expr_is t h r)

  -- a statement of no other tag is a return
  pub return-tag : (tag tree at ≡ tag_expr_stmt → ⊥) → (tag tree at ≡ tag_block → ⊥) → (tag tree at ≡ tag_let → ⊥) → Some (ReadsStmt tree at) → tag tree at ≡ tag_return
  return-tag n₁ n₂ n₃ (s, r) = omega arith

  -- an expression of no other tag is a macro
  pub macro-tag : (tag tree at ≡ tag_identifier → ⊥) → (tag tree at ≡ tag_prefix → ⊥) → (tag tree at ≡ tag_infix → ⊥) → (tag tree at ≡ tag_if → ⊥) → (tag tree at ≡ tag_function → ⊥) → (tag tree at ≡ tag_call → ⊥)
      → (tag tree at ≡ tag_integer → ⊥) → (tag tree at ≡ tag_boolean → ⊥) → (tag tree at ≡ tag_string → ⊥) → (tag tree at ≡ tag_array → ⊥) → (tag tree at ≡ tag_index → ⊥) → (tag tree at ≡ tag_hash → ⊥)
      → Some (ReadsExpr tree at) → tag tree at ≡ tag_macro
  macro-tag n₀ n₁ n₂ n₃ n₄ n₅ n₆ n₇ n₈ n₉ n₁₀ n₁₁ (e, r) = last r.field.upto (next (next (next (next (next (next (next (next (next (next (next (next r.field.from n₀) n₁) n₂) n₃) n₄) n₅) n₆) n₇) n₈) n₉) n₁₀) n₁₁)
    where
      next : {n t : ℕ} → n ≤ t → (t ≡ n → ⊥) → n + 1 ≤ t
      next h k = omega arith

      last : {n t : ℕ} → t ≤ n → n ≤ t → t ≡ n
      last h k = omega arith

  -- the expression of a statement
  pub value_expr : {make : ℕ → Expr → Stmt} → Some (ValueAt tree (ReadsExpr tree) make at) → Some (ReadsExpr tree (at + 3))
  value_expr (s, r) = (r.value, r.on_value)

  -- the value of a let
  pub let_value : {value : ℕ} → value ≡ after tree (at + 3) → Some (LetAt tree (ReadsExpr tree) at) → Some (ReadsExpr tree value)
  let_value q (s, r) = (r.value, rw q r.on_value)

  -- the statements of a block
  pub block_body : {end : ℕ} → end ≡ after tree at → Some (BlockStmtAt tree (ReadsStmt tree) at) → Some (ReadsStmts tree (at + 3) end)
  block_body q (s, r) = (r.body, rw q (record { row = r.on_body }))

  -- the operand of a prefix
  pub prefix_operand : Some (PrefixAt tree (ReadsExpr tree) at) → Some (ReadsExpr tree (at + 7))
  prefix_operand (e, r) = (r.operand, r.on-operand)

  -- the operands of an infix
  pub infix_left : Some (InfixAt tree (ReadsExpr tree) at) → Some (ReadsExpr tree (at + 3))
  infix_left (e, r) = (r.left, r.on_left)

  pub infix_right : {op : ℕ} → op ≡ after tree (at + 3) → Some (InfixAt tree (ReadsExpr tree) at) → Some (ReadsExpr tree (op + 4))
  infix_right q (e, r) = (r.right, rw q r.on_right)

  -- the test and the branches of an if
  pub if_test : Some (IfAt tree (ReadsBlock tree) (ReadsExpr tree) at) → Some (ReadsExpr tree (at + 3))
  if_test (e, r) = (r.test, r.on_test)

  pub if_branches : Some (IfAt tree (ReadsBlock tree) (ReadsExpr tree) at) → Some (ReadsBranches tree at)
  if_branches (e, r) = (record { first = r.branch; other = r.other }, record { on_first = r.on_branch; on_other = record { reads = r.on_other } })

  pub first_branch : {branch : ℕ} → branch ≡ after tree (at + 3) → Some (ReadsBranches tree at) → Some (ReadsBlock tree branch)
  first_branch q (b, r) = (b.first, rw q r.on_first)

  pub other_branch : Some (ReadsBranches tree at) → Some (ReadsOther tree at)
  other_branch (b, r) = (b.other, r.on_other)

  -- the statements of a branch
  pub branch_body : {end : ℕ} → end ≡ after tree at → Some (ReadsBlock tree at) → Some (ReadsStmts tree (at + 3) end)
  branch_body q (b, r) = (b, rw q r.body)

  -- the parameters and the body of a function
  pub function_params : {params end : ℕ} → params ≡ after tree (at + 3) → end ≡ after tree params → Some (FunctionAt tree (ReadsBlock tree) at) → Some (ReadsNames tree (params + 3) end)
  function_params q z (e, r) = (r.params, rw (z, q) r.on_params.names)

  pub function_body : {params body : ℕ} → params ≡ after tree (at + 3) → body ≡ after tree params → Some (FunctionAt tree (ReadsBlock tree) at) → Some (ReadsBlock tree body)
  function_body q z (e, r) = (r.body, rw (z, q) r.on_body)

  -- the callee and the arguments of a call
  pub call_callee : Some (CallAt tree (ReadsExpr tree) at) → Some (ReadsExpr tree (at + 3))
  call_callee (e, r) = (r.callee, r.on_callee)

  pub call_args : {args end : ℕ} → args ≡ after tree (at + 3) → end ≡ after tree at → Some (CallAt tree (ReadsExpr tree) at) → Some (ReadsExprs tree args end)
  call_args q z (e, r) = (r.args, rw (q, z) (record { row = r.on_args }))

  -- the items of an array or a hash
  pub list_items : {make : ℕ → Exprs → Expr} {end : ℕ} → end ≡ after tree at → Some (ListAt tree (ReadsExpr tree) make at) → Some (ReadsExprs tree (at + 3) end)
  list_items q (e, r) = (r.items, rw q (record { row = r.on-items }))

  -- what is indexed, and by what
  pub index_left : Some (IndexAt tree (ReadsExpr tree) at) → Some (ReadsExpr tree (at + 3))
  index_left (e, r) = (r.left, r.on_left)

  pub index_right : {right : ℕ} → right ≡ after tree (at + 3) → Some (IndexAt tree (ReadsExpr tree) at) → Some (ReadsExpr tree right)
  index_right q (e, r) = (r.right, rw q r.on_right)

  -- an if has another branch where its content goes on
  pub has_else : (o : Else) → after tree (after tree (at + 3)) < after tree at → ReadsOther tree at o → (b : Stmts) × (o ≡ Else.else b) × ReadsBlock tree (after tree (after tree (at + 3))) b
  has_else Else.no_else h r = absurd (omega (arith, r.reads))
  has_else (Else.else b) h r = (b, refl, r.reads.1)

  -- and none where it has ended
  pub no-else : (o : Else) → after tree at ≤ after tree (after tree (at + 3)) → ReadsOther tree at o → o ≡ Else.no_else
  no-else Else.no_else h r = refl
  no-else (Else.else b) h r = absurd (omega (arith, r.reads.0))
