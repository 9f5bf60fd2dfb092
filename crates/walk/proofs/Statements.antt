-- Statements: from what their parts did to what they did.
use Prim.Native.Nat.{ℕ, ◌+◌, ◌≤◌}
use mathlib.Core.Path.{◌≡◌, refl, ap, ◌∙◌}
use lib.ListN.{length}
use Rattle.definition.specs.Basic.{Bytes}
use Rattle.definition.specs.Limit.{code_size}
use Rattle.definition.specs.Opcode.{instr, plain, op_pop, op_return_value}
use Rattle.definition.specs.Tag.{tag_expr_stmt, tag_block, tag_return}
use Rattle.definition.specs.Syntax.{Stmt, Expr}
use Rattle.definition.specs.Tree.{stmt_tag}
use Rattle.definition.specs.Walk.{walk_stmt, walk_stmts, walk_expr}
use Rattle.field.specs.Layout.{tag, after, content}
use Rattle.scope.specs.View.{then, Done}
use Rattle.scope.specs.Machine.{machine, emit, define}
use Rattle.definition.specs.declared.reason.Refusal.{Refusal}
use Rattle.scope.specs.Walked.{Walked, stopped}
use Rattle.scope.specs.declared.State.{State}
use Rattle.std.specs.Prelude.{Ok, Err}
use Rattle.step.specs.Memory.{Rest, memory, Walks}
use Rattle.step.specs.Contract.{Defines}
use Rattle.symbol_table.specs.declared.Access.{Access}
use Rattle.tree.specs.At.{ValueAt, LetAt, StmtIs}
use Rattle.tree.specs.Reads.{ReadsStmt, ReadsExpr, ReadsStmts}
use Rattle.step.proofs.Memory.{follow, stop_deeper}
use Rattle.tree.proofs.Parts.{stmt_is}
use Rattle.walk.proofs.Sequence.{walks_as, walk_done}

module _ {tree : Bytes} {at : ℕ} {c c₁ : Bytes} {m m₁ : Rest} {w r : Walked} where
  -- the statement of a tag
  pub stmt_walks : (t : ℕ) → tag tree at ≡ t → Walks tree (StmtIs tree (stmt_tag t) (ReadsStmt tree) (ReadsExpr tree) at) (walk_stmt machine) c c₁ m m₁ w r
      → Walks tree (ReadsStmt tree at) (walk_stmt machine) c c₁ m m₁ w r
  stmt_walks t h = walks_as (λ s i. (s, stmt_is t h i, refl))

  -- a block
  pub block_walks : {end : ℕ} → tag tree at ≡ tag_block → end ≡ after tree at → Walks tree (ReadsStmts tree (at + 3) end) (walk_stmts machine) c c₁ m m₁ w r
      → Walks tree (ReadsStmt tree at) (walk_stmt machine) c c₁ m m₁ w r
  unfolding walk_stmt
  block_walks h e d = stmt_walks tag_block h (walks_as (λ s i. (i.body, rw e (record { row = i.on_body }), ap (walk_stmt machine) i.is)) d)

-- a statement that is one expression, and then an instruction
pub value_walks : {tree : Bytes} {at : ℕ} {c c₁ c₂ : Bytes} {m m₁ : Rest} {w v r : Walked} {make : ℕ → Expr → Stmt} (op : ℕ)
    → ((e : Expr) → walk_stmt machine (make at e) ≡ (λ s. then (walk_expr machine e s) (emit at (plain op))))
    → Walks tree (ReadsExpr tree (at + 3)) (walk_expr machine) c c₁ m m₁ w v → Done c₁ c₂ v r (emit at (plain op))
    → Walks tree (ValueAt tree (ReadsExpr tree) make at) (walk_stmt machine) c c₂ m m₁ w r
value_walks op f d e = walks_as (λ s i. (i.value, i.on_value, ap (walk_stmt machine) i.is ∙ f i.value)) (walk_done d e)

module _ {tree : Bytes} {at : ℕ} {c c₁ c₂ : Bytes} {m m₁ : Rest} {w v r : Walked} where
  -- an expression as a statement
  pub expr_stmt_walks : tag tree at ≡ tag_expr_stmt → Walks tree (ReadsExpr tree (at + 3)) (walk_expr machine) c c₁ m m₁ w v → Done c₁ c₂ v r (emit at (plain op_pop))
      → Walks tree (ReadsStmt tree at) (walk_stmt machine) c c₂ m m₁ w r
  unfolding walk_stmt
  expr_stmt_walks h d e = stmt_walks tag_expr_stmt h (value_walks op_pop (λ _. refl) d e)

  -- a return
  pub return_walks : tag tree at ≡ tag_return → Walks tree (ReadsExpr tree (at + 3)) (walk_expr machine) c c₁ m m₁ w v → Done c₁ c₂ v r (emit at (plain op_return_value))
      → Walks tree (ReadsStmt tree at) (walk_stmt machine) c c₂ m m₁ w r
  unfolding walk_stmt
  return_walks h d e = stmt_walks tag_return h (value_walks op_return_value (λ _. refl) d e)

module _ {tree : Bytes} {at : ℕ} {c : Bytes} {m m₁ : Rest} {s : State} where
  -- a let: the name is defined, then its value walked, then it is set
  pub let_walks : {value : ℕ} {c₁ c₂ : Bytes} {m₂ : Rest} {v r : Walked} {x : Access} → value ≡ after tree (at + 3) → Defines tree at c m m₁ s (Ok x)
      → Walks tree (ReadsExpr tree value) (walk_expr machine) c c₁ m₁ m₂ (Ok s) v → Done c₁ c₂ v r (emit at (instr x.op x.operand 0))
      → Walks tree (LetAt tree (ReadsExpr tree) at) (walk_stmt machine) c c₂ m m₂ (Ok s) r
  unfolding walk_stmt
  let_walks q f g h =
      record {
        step = λ x i.
            rw i.is (follow (memory tree c m (Ok s)) (λ _. define at (content tree (at + 3))) (λ j v. then (walk_expr machine i.value v) (emit at j)) f.step
            ((walk_done g h).step i.value (rw q i.on_value)));
        ready = h.ready;
        fine = (walk_done g h).fine;
        keeps = (walk_done g h).keeps;
      }

  -- the definition is refused
  pub let_refused : {z : Refusal} → code_size ≤ length c → Defines tree at c m m₁ s (Err z) → Walks tree (LetAt tree (ReadsExpr tree) at) (walk_stmt machine) c c m m₁ (Ok s) (Err (stopped z s))
  unfolding walk_stmt
  let_refused h f =
      record {
        step = λ x i. rw i.is (follow (memory tree c m (Ok s)) (λ _. define at (content tree (at + 3))) (λ j v. then (walk_expr machine i.value v) (emit at j)) f.step refl);
        ready = record { area = h; sound = tt };
        fine = tt;
        keeps = stop_deeper;
      }
