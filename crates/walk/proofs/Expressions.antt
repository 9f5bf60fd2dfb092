-- Expressions: from what their parts did to what they did.
use Prim.Native.Nat.{ℕ, ◌+◌, ◌<◌}
use native.Mathlib.Omega.{arith}
use mathlib.Core.Option.{none}
use mathlib.Core.Path.{◌≡◌, refl, ap, fun_ext, ◌∙◌}
use lib.ListN.{length, get_or}
use borrow.Author.Tests.{eq-eqb, ne_eqb}
use Rattle.definition.specs.Basic.{Bytes, byte_at}
use Rattle.definition.specs.Opcode.{plain, op_index}
use Rattle.definition.specs.Number
use Rattle.definition.specs.Tag.{tag_identifier, tag_integer, tag_boolean, tag_string, tag_macro, tag_integer_const, tag_string_const}
use Rattle.definition.specs.Syntax.{Expr}
use Rattle.definition.specs.Walk.{refuse, Go, walk_expr, operate, prefixes, infixes, less_than}
use Rattle.field.specs.Layout.{tag, after, content}
use Rattle.scope.specs.View.{View, then, Done}
use Rattle.scope.specs.Machine.{machine, emit, literal, load}
use Rattle.scope.specs.Walked.{Walked}
use Rattle.step.specs.Memory.{Rest, Fine, Walks}
use Rattle.step.specs.Contract.{Steps}
use Rattle.tree.specs.At.{PrefixAt, InfixAt, IndexAt, expr_kind, ExprIs}
use Rattle.tree.specs.Reads.{Some, ReadsExpr, ReadsBlock}
use Rattle.step.proofs.Memory.{done_steps}
use Rattle.tree.proofs.Parts.{expr_is}
use Rattle.walk.proofs.Sequence.{walks_as, walk_walk, walk_done}

module _ {tree : Bytes} {at : ℕ} {c c₁ : Bytes} {m m₁ : Rest} {w r : Walked} where
  -- the expression of a tag
  pub expr_walks : (t : ℕ) → tag tree at ≡ t → Walks tree (ExprIs tree (expr_kind t) (ReadsBlock tree) (ReadsExpr tree) at) (walk_expr machine) c c₁ m m₁ w r
      → Walks tree (ReadsExpr tree at) (walk_expr machine) c c₁ m m₁ w r
  expr_walks t h = walks_as (λ e i. (e, expr_is t h i, refl))

  -- an expression that is one step
  step_walks : (t : ℕ) (g : Go View) → tag tree at ≡ t → ((e : Expr) → ExprIs tree (expr_kind t) (ReadsBlock tree) (ReadsExpr tree) at e → walk_expr machine e ≡ g) → Steps tree g c c₁ m m₁ w r
      → Walks tree (ReadsExpr tree at) (walk_expr machine) c c₁ m m₁ w r
  step_walks t g h f d = expr_walks t h (walks_as (λ e i. (tt, tt, f e i)) d)

  -- an identifier
  pub identifier_walks : tag tree at ≡ tag_identifier → Steps tree (load at (content tree at)) c c₁ m m₁ w r → Walks tree (ReadsExpr tree at) (walk_expr machine) c c₁ m m₁ w r
  unfolding walk_expr
  identifier_walks h d = step_walks tag_identifier (load at (content tree at)) h (λ e i. ap (walk_expr machine) i.is) d

  -- an integer
  pub integer_walks : tag tree at ≡ tag_integer → Steps tree (literal at tag_integer_const (content tree at)) c c₁ m m₁ w r → Walks tree (ReadsExpr tree at) (walk_expr machine) c c₁ m m₁ w r
  unfolding walk_expr
  integer_walks h d = step_walks tag_integer (literal at tag_integer_const (content tree at)) h (λ e i. ap (walk_expr machine) i.is) d

  -- a string
  pub string_walks : tag tree at ≡ tag_string → Steps tree (literal at tag_string_const (content tree at)) c c₁ m m₁ w r → Walks tree (ReadsExpr tree at) (walk_expr machine) c c₁ m m₁ w r
  unfolding walk_expr
  string_walks h d = step_walks tag_string (literal at tag_string_const (content tree at)) h (λ e i. ap (walk_expr machine) i) d

module _ {tree : Bytes} {at : ℕ} {c : Bytes} {m : Rest} {w r : Walked} where
  -- a boolean
  pub boolean_walks : {c₁ : Bytes} → tag tree at ≡ tag_boolean → Fine tree m w → Done c c₁ w r (machine.boolean at (byte_at tree (at + 3))) → Walks tree (ReadsExpr tree at) (walk_expr machine) c c₁ m m w r
  unfolding walk_expr
  boolean_walks h f d = step_walks tag_boolean (machine.boolean at (byte_at tree (at + 3))) h (λ e i. ap (walk_expr machine) i.is) (done_steps f d)

  -- a macro is refused
  pub macro_walks : {c₁ : Bytes} → tag tree at ≡ tag_macro → Fine tree m w → Done c c₁ w r (refuse Number.macro at) → Walks tree (ReadsExpr tree at) (walk_expr machine) c c₁ m m w r
  unfolding walk_expr
  macro_walks h f d = step_walks tag_macro _ h (λ e i. ap (walk_expr machine) i) (done_steps f d)

-- a boolean has its byte
pub boolean_byte : {tree : Bytes} {at : ℕ} → tag tree at ≡ tag_boolean → Some (ReadsExpr tree at) → at + 3 < length tree
boolean_byte h (e, i) = omega (arith, i.field.whole.fits, (expr_is tag_boolean h i).one)

-- an infix by its operator: right before left for `<`
less_is : (p o : ℕ) (l r : Expr) → o ≡ less_than → walk_expr machine (Expr.infixed p l o r) ≡ (λ s. then (walk_expr machine r s) (λ s₁. then (walk_expr machine l s₁) (operate machine p (get_or infixes o none))))
unfolding walk_expr
less_is p o l r h = fun_ext (λ s. simp (eq-eqb o less_than h))

infix_is : (p o : ℕ) (l r : Expr) → (o ≡ less_than → ⊥) → walk_expr machine (Expr.infixed p l o r) ≡ (λ s. then (walk_expr machine l s) (λ s₁. then (walk_expr machine r s₁) (operate machine p (get_or infixes o none))))
unfolding walk_expr
infix_is p o l r h = fun_ext (λ s. simp (ne_eqb o less_than h))

-- a prefix: its operand, then its operator
pub prefix_walks : {tree : Bytes} {at : ℕ} {c c₁ c₂ : Bytes} {m m₁ : Rest} {w v r : Walked} → Walks tree (ReadsExpr tree (at + 7)) (walk_expr machine) c c₁ m m₁ w v
    → Done c₁ c₂ v r (operate machine at (get_or prefixes (byte_at tree (at + 6)) none)) → Walks tree (PrefixAt tree (ReadsExpr tree) at) (walk_expr machine) c c₂ m m₁ w r
unfolding walk_expr
prefix_walks d e = walks_as (λ x i. (i.operand, i.on-operand, ap (walk_expr machine) i.is)) (walk_done d e)

module _ {tree : Bytes} {at op : ℕ} {c c₁ c₂ c₃ : Bytes} {m m₁ m₂ : Rest} {w v u r : Walked} where
  -- `<`: its right operand, then its left one
  pub less_walks : op ≡ after tree (at + 3) → byte_at tree (op + 3) ≡ less_than
      → Walks tree (ReadsExpr tree (op + 4)) (walk_expr machine) c c₁ m m₁ w v → Walks tree (ReadsExpr tree (at + 3)) (walk_expr machine) c₁ c₂ m₁ m₂ v u
      → Done c₂ c₃ u r (operate machine at (get_or infixes (byte_at tree (op + 3)) none))
      → Walks tree (InfixAt tree (ReadsExpr tree) at) (walk_expr machine) c c₃ m m₂ w r
  less_walks q o d e f =
      walks_as (λ x i.
      let y : x ≡ Expr.infixed at i.left (byte_at tree (op + 3)) i.right = rw q i.is in
      ((i.right, i.left), (rw q i.on_right, i.on_left), ap (walk_expr machine) y ∙ less_is at (byte_at tree (op + 3)) i.left i.right o))
      (walk_walk d (walk_done e f))

  -- the others: left, then right
  pub infix_walks : op ≡ after tree (at + 3) → (byte_at tree (op + 3) ≡ less_than → ⊥)
      → Walks tree (ReadsExpr tree (at + 3)) (walk_expr machine) c c₁ m m₁ w v → Walks tree (ReadsExpr tree (op + 4)) (walk_expr machine) c₁ c₂ m₁ m₂ v u
      → Done c₂ c₃ u r (operate machine at (get_or infixes (byte_at tree (op + 3)) none))
      → Walks tree (InfixAt tree (ReadsExpr tree) at) (walk_expr machine) c c₃ m m₂ w r
  infix_walks q o d e f =
      walks_as (λ x i.
      let y : x ≡ Expr.infixed at i.left (byte_at tree (op + 3)) i.right = rw q i.is in
      ((i.left, i.right), (i.on_left, rw q i.on_right), ap (walk_expr machine) y ∙ infix_is at (byte_at tree (op + 3)) i.left i.right o))
      (walk_walk d (walk_done e f))

-- an index: what is indexed, then by what
pub index_walks : {tree : Bytes} {at right : ℕ} {c c₁ c₂ c₃ : Bytes} {m m₁ m₂ : Rest} {w v u r : Walked} → right ≡ after tree (at + 3)
    → Walks tree (ReadsExpr tree (at + 3)) (walk_expr machine) c c₁ m m₁ w v → Walks tree (ReadsExpr tree right) (walk_expr machine) c₁ c₂ m₁ m₂ v u → Done c₂ c₃ u r (emit at (plain op_index))
    → Walks tree (IndexAt tree (ReadsExpr tree) at) (walk_expr machine) c c₃ m m₂ w r
unfolding walk_expr
index_walks q d e f = walks_as (λ x i. ((i.left, i.right), (i.on_left, rw q i.on_right), ap (walk_expr machine) i.is)) (walk_walk d (walk_done e f))
