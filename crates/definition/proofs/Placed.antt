-- Every place in a syntax tree is within a bound, and so is every place that reading refuses.
use Prim.Native.Nat.{ℕ, zero, suc, ◌+◌, ◌≤◌}
use native.Mathlib.Omega.{arith}
use mathlib.Core.Bool.{Bool, true, false}
use mathlib.Core.Option.{Option, none, some}
use mathlib.Core.Path.{◌≡◌}
use lib.Dec.{leb, ltb, eqb}
use borrow.Author.Tests.{leb-true}
use Rattle.definition.specs.Basic.{pick, both}
use Rattle.definition.specs.Limit.{level_limit}
use Rattle.definition.specs.Syntax.{Stmt, Stmts, Else, Expr, Exprs}
use Rattle.definition.specs.Field.{Head, fits, head}
use Rattle.definition.specs.Tree.{Read, first, after, seq, met, child, last, many, head_at, one_byte}
use Rattle.definition.proofs.Basic.{chosen, both_true}

module _ (bound : ℕ) where
  -- a tree's places
  unfoldable mutual
    pub PlacedStmt : Stmt → Type 0
    PlacedStmt (Stmt.expr_stmt p e) = (p ≤ bound) × PlacedExpr e
    PlacedStmt (Stmt.let_stmt p n e) = (p ≤ bound) × PlacedExpr e
    PlacedStmt (Stmt.return_stmt p e) = (p ≤ bound) × PlacedExpr e
    PlacedStmt (Stmt.block p b) = PlacedStmts b

    pub PlacedStmts : Stmts → Type 0
    PlacedStmts Stmts.no_stmts = Unit {0}
    PlacedStmts (Stmts.stmts x xs) = PlacedStmt x × PlacedStmts xs

    pub PlacedElse : Else → Type 0
    PlacedElse Else.no_else = Unit {0}
    PlacedElse (Else.else b) = PlacedStmts b

    pub PlacedExpr : Expr → Type 0
    PlacedExpr (Expr.identifier p n) = p ≤ bound
    PlacedExpr (Expr.prefix p o e) = (p ≤ bound) × PlacedExpr e
    PlacedExpr (Expr.infixed p l o r) = (p ≤ bound) × PlacedExpr l × PlacedExpr r
    PlacedExpr (Expr.if p c t e) = (p ≤ bound) × PlacedExpr c × PlacedStmts t × PlacedElse e
    PlacedExpr (Expr.function p n ps b) = (p ≤ bound) × PlacedStmts b
    PlacedExpr (Expr.call p f es) = (p ≤ bound) × PlacedExpr f × PlacedExprs es
    PlacedExpr (Expr.integer p b) = p ≤ bound
    PlacedExpr (Expr.boolean p b) = p ≤ bound
    PlacedExpr (Expr.string p b) = p ≤ bound
    PlacedExpr (Expr.array p es) = (p ≤ bound) × PlacedExprs es
    PlacedExpr (Expr.index p l i) = (p ≤ bound) × PlacedExpr l × PlacedExpr i
    PlacedExpr (Expr.hash p es) = (p ≤ bound) × PlacedExprs es
    PlacedExpr (Expr.macro p) = p ≤ bound

    pub PlacedExprs : Exprs → Type 0
    PlacedExprs Exprs.no_exprs = Unit {0}
    PlacedExprs (Exprs.exprs x xs) = PlacedExpr x × PlacedExprs xs

  -- the first field that is too deep, if any
  pub data Deep : Option ℕ → Type 0 where
    nowhere : Deep none
    somewhere : {p : ℕ} → p ≤ bound → Deep (some p)

  -- what was read is P, with the offset after it; or something is wrong, within the bound
  pub data Finds {A : Type 0} (P : A → ℕ → Type 0) : Read A → Type 0 where
    right : {a : A} {n : ℕ} {d : Option ℕ} {l : ℕ → Bool} → P a n → Deep d → Finds P (Read.ok a n d l)
    wrong : (p : ℕ) {d : Option ℕ} {l : ℕ → Bool} → p ≤ bound → Deep d → Finds P (Read.wrong p d l)

-- what was read is W, and ends at an offset or before it
pub record Before {A : Type 0} (W : A → Type 0) (end : ℕ) (a : A) (n : ℕ) : Type 0 where
  pub ends : n ≤ end
  pub placed : W a

-- a reader of fields that are W, before an end that is within the bound
pub record PlacedFields {A : Type 0} (bound : ℕ) (W : A → Type 0) (f : ℕ → ℕ → Read A) : Type 0 where
  pub each : (at end : ℕ) → at ≤ end → end ≤ bound → Finds bound (Before W end) (f at end)

module _ {bound : ℕ} where
  first_deep : {d e : Option ℕ} → Deep bound d → Deep bound e → Deep bound (first d e)
  first_deep Deep.nowhere k = k
  first_deep (Deep.somewhere h) k = Deep.somewhere h

  -- what came before
  finds_after : {A : Type 0} {P : A → ℕ → Type 0} (n : ℕ) {d : Option ℕ} (l : ℕ → Bool) {x : Read A} → Deep bound d → Finds bound P x → Finds bound P (after n d l x)
  finds_after n l h (Finds.right p k) = Finds.right p (first_deep h k)
  finds_after n l h (Finds.wrong q p k) = Finds.wrong q p (first_deep h k)

  -- one after the other
  pub finds_seq : {A B : Type 0} {P : A → ℕ → Type 0} {Q : B → ℕ → Type 0} {x : Read A} {k : A → ℕ → Read B}
      → Finds bound P x → ((a : A) (n : ℕ) → P a n → Finds bound Q (k a n)) → Finds bound Q (seq x k)
  finds_seq (Finds.right {a = a} {n = n} {l = l} p h) f = finds_after n l h (f a n p)
  finds_seq (Finds.wrong q p h) f = Finds.wrong q p h

  -- one or the other, by a test
  pub finds_pick : {A : Type 0} {P : A → ℕ → Type 0} {x y : Read A} (b : Bool) → (b ≡ true → Finds bound P x) → (b ≡ false → Finds bound P y) → Finds bound P (pick b x y)
  finds_pick {P = P} = chosen (Finds bound P)

  -- a field at its level
  met_deep : (level at : ℕ) {d : Option ℕ} → at ≤ bound → Deep bound d → Deep bound (pick (ltb level_limit level) (some at) d)
  met_deep level at h k = chosen (Deep bound) (ltb level_limit level) (λ _. Deep.somewhere h) (λ _. k)

  pub finds_met : {A : Type 0} {P : A → ℕ → Type 0} (level at : ℕ) {x : Read A} → at ≤ bound → Finds bound P x → Finds bound P (met level at x)
  finds_met level at h (Finds.right p k) = Finds.right p (met_deep level at h k)
  finds_met level at h (Finds.wrong q p k) = Finds.wrong q p (met_deep level at h k)

  -- a later end
  pub finds_before : {A : Type 0} {W : A → Type 0} {e end : ℕ} {x : Read A} → e ≤ end → Finds bound (Before W e) x → Finds bound (Before W end) x
  finds_before {end = end} h (Finds.right {n = n} p k) = let l : n ≤ end = omega (arith, p.ends) in Finds.right (record { ends = l; placed = p.placed }) k
  finds_before h (Finds.wrong q p k) = Finds.wrong q p k

  -- what is W and ends at an offset
  pub finds_read : {A : Type 0} {W : A → Type 0} {end : ℕ} {a : A} {l : ℕ → Bool} (n : ℕ) → n ≤ end → W a → Finds bound (Before W end) (Read.ok a n none l)
  finds_read n h w = Finds.right (record { ends = h; placed = w }) Deep.nowhere

  -- and nothing follows
  pub finds_last : {A : Type 0} {W : A → Type 0} (a : A) (at end : ℕ) → at ≤ end → end ≤ bound → W a → Finds bound (Before W end) (last a at end)
  finds_last a at end h k w = finds_pick (eqb at end) (λ _. finds_read at h w) (λ _. Finds.wrong at (omega arith) Deep.nowhere)

  -- a child
  pub finds_child : {A : Type 0} {W : A → Type 0} {f : ℕ → ℕ → Read A} → PlacedFields bound W f → (parent at end : ℕ) → parent ≤ bound → at ≤ end → end ≤ bound → Finds bound (Before W end) (child f parent at end)
  finds_child F parent at end p h k = finds_pick (eqb at end) (λ _. Finds.wrong parent p Deep.nowhere) (λ _. F.each at end h k)

  -- a field, whose content ends before `end`
  pub finds_field : {A : Type 0} {W : A → Type 0} (byte : ℕ → ℕ) (good : Head → Bool) (at end : ℕ) {k : Head → ℕ → Read A} → at ≤ end → end ≤ bound
      → ((h : Head) (in₀ : ℕ) → in₀ + h.len ≤ end → good h ≡ true → Finds bound (Before W end) (k h in₀)) → Finds bound (Before W end) (seq (head_at byte good at end) k)
  finds_field {W = W} byte good at end {k} b c f =
      let h = head byte at in
      finds_seq {P = λ x n. Finds bound (Before W end) (k x n)}
      (finds_pick (both (fits at end h) (good h))
      (λ e.
      let e₁ = both_true (fits at end h) (good h) e in
      Finds.right (f h (at + 3) (leb-true _ _ (both_true (leb (at + 3) end) (leb (at + 3 + h.len) end) e₁.0).1) e₁.1) Deep.nowhere)
      (λ _. Finds.wrong at (omega arith) Deep.nowhere))
      (λ _ _ g. g)

  -- a byte alone in its field
  pub finds_byte : {A : Type 0} {W : A → Type 0} {end : ℕ} (byte : ℕ → ℕ) (f : ℕ → A) (most : ℕ) (l : ℕ → Bool) (level at in₀ : ℕ) → at ≤ bound → in₀ + 1 ≤ end
      → ((x : ℕ) → W (f x)) → Finds bound (Before W end) (one_byte byte f most l level at in₀)
  finds_byte byte f most l level at in₀ h k w =
      finds_pick (leb (byte in₀) most) (λ _. finds_met level at h (finds_read (in₀ + 1) k (w (byte in₀)))) (λ _. Finds.wrong at h Deep.nowhere)

  module _ {A B : Type 0} {W : A → Type 0} {U : B → Type 0} (nil : B) (cons : A → B → B) (nils : U nil) (conses : (x : A) (xs : B) → W x → U xs → U (cons x xs)) where
    -- fields up to the end
    pub finds_many : {f : ℕ → ℕ → Read A} → PlacedFields bound W f → (fuel at end : ℕ) → at ≤ end → end ≤ bound → Finds bound (Before U end) (many nil cons f fuel at end)
    finds_many F zero at end h k = finds_last nil at end h k nils
    finds_many F (suc fuel) at end h k =
        finds_pick (eqb at end) (λ _. finds_read at h nils)
        (λ _. finds_seq (F.each at end h k) (λ x at₁ p. finds_seq (finds_many F fuel at₁ end p.ends k) (λ xs n q. finds_read n q.ends (conses x xs p.placed q.placed))))
