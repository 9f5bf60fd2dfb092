-- Walks in a loop: statements in a row, and expressions in a row.
use Prim.Native.Nat.{ℕ, ◌≤◌, ◌<◌}
use native.Mathlib.Omega.{arith}
use mathlib.Core.Path.{◌≡◌, refl, sym, ap, ◌∙◌}
use Rattle.definition.specs.Basic.{Bytes}
use Rattle.definition.specs.Walk.{on, Go, walk_stmt, walk_stmts, walk_expr, walk_exprs}
use Rattle.field.specs.Layout.{after}
use Rattle.scope.specs.View.{View, then, Ready}
use Rattle.scope.specs.Machine.{machine}
use Rattle.scope.specs.Walked.{Walked, Stopped}
use Rattle.std.specs.Prelude.{Ok, Err}
use Rattle.step.specs.Memory.{Rest, settled, memory, Fine, Keeps, Walks}
use Rattle.tree.specs.Reads.{Some, ReadsStmt, ReadsStmts, ReadsExpr, ReadsExprs}
use Rattle.step.proofs.Memory.{chain, keeps_refl, deeper_keeps}
use Rattle.tree.proofs.Rows.{First, first_stmt, no-stmts, first_expr, no-exprs}

-- in a turn: what is left, and that its walk gives what the whole walk gives
pub record Turn {B : Type 0} (tree : Bytes) (R : ℕ → ℕ → B → Type 0) (k : B → Go View) (from end : ℕ) (c₀ : Bytes) (m₀ : Rest) (w : Walked) (at : ℕ) (c : Bytes) (m : Rest) (v : Walked) : Type 0 where
  pub onward : from ≤ at
  pub left : Some (R at end)
  pub ready : Ready c v
  pub fine : Fine tree m v
  pub keeps : Keeps w v
  pub same : (b : B) → R from end b → (b' : B) × R at end b' × (settled (then (memory tree c₀ m₀ w) (k b)) ≡ settled (then (memory tree c m v) (k b')))

module _ {B : Type 0} {tree : Bytes} {R : ℕ → ℕ → B → Type 0} {k : B → Go View} {from end : ℕ} {c₀ : Bytes} {m₀ : Rest} {w : Walked} where
  -- before the first turn
  pub turn_holds : Some (R from end) → Ready c₀ w → Fine tree m₀ w → Turn tree R k from end c₀ m₀ w from c₀ m₀ w
  turn_holds s a f = record { onward = omega arith; left = s; ready = a; fine = f; keeps = keeps_refl w; same = λ b r. (b, r, refl) }

  -- a turn: the first of what is left is walked
  turn_again : {A : Type 0} {P : ℕ → A → Type 0} {one : A → Go View} {cons : A → B → B} {at next : ℕ} {c c₁ : Bytes} {m m₁ : Rest} {v v₁ : Walked}
      → ((x : A) (xs : B) → k (cons x xs) ≡ (λ s. then (one x s) (k xs)))
      → ((b : B) → R at end b → First tree cons P R at end b)
      → next ≡ after tree at
      → Turn tree R k from end c₀ m₀ w at c m v → Walks tree (P at) one c c₁ m m₁ v v₁ → Turn tree R k from end c₀ m₀ w next c₁ m₁ v₁
  turn_again {one = one} {at = at} {c = c} {m = m} {v = v} split first e t d =
      let i = first t.left.0 t.left.1 in
      record {
        onward = omega (arith, t.onward);
        left = (i.others, rw e i.behind);
        ready = d.ready;
        fine = d.fine;
        keeps = deeper_keeps t.keeps d.keeps;
        same = λ b r.
            let s = t.same b r in
            let j = first s.0 s.1 in (
              j.others,
              rw e j.behind,
              s.2 ∙ ap (λ x. settled (then (memory tree c m v) (k x))) j.is ∙ ap (λ f. settled (then (memory tree c m v) f)) (split j.one j.others)
                  ∙ sym (chain (memory tree c m v) (one j.one) (k j.others) (d.step j.one j.here) refl),
            );
      }

  -- after the last turn
  turn_ends : {nil : B} {at : ℕ} {c : Bytes} {m : Rest} {v : Walked} → k nil ≡ on tt → ((b : B) → R at end b → b ≡ nil) → Turn tree R k from end c₀ m₀ w at c m v → Walks tree (R from end) k c₀ c m₀ m w v
  turn_ends {at = at} {c = c} {m = m} {v = v} nothing last t =
      record {
        step = λ b r. let s = t.same b r in sym (s.2 ∙ ap (λ x. settled (then (memory tree c m v) (k x))) (last s.0 s.1) ∙ ap (λ f. settled (then (memory tree c m v) f)) nothing ∙ unit v);
        ready = t.ready;
        fine = t.fine;
        keeps = t.keeps;
      }
    where
      unit : (v : Walked) → settled (then (memory tree c m v) (on tt)) ≡ memory tree c m v
      unit (Ok s) = refl
      unit (Err z) = refl

  -- after a turn that stops
  turn_stops : {at : ℕ} {c : Bytes} {m : Rest} {z : Stopped} → Turn tree R k from end c₀ m₀ w at c m (Err z) → Walks tree (R from end) k c₀ c m₀ m w (Err z)
  turn_stops t = record { step = λ b r. sym (t.same b r).2; ready = t.ready; fine = tt; keeps = t.keeps }

module _ {tree : Bytes} {from end at : ℕ} {c₀ c : Bytes} {m₀ m : Rest} {w v : Walked} where
  -- a statement more
  pub stmts_again : {next : ℕ} {c₁ : Bytes} {m₁ : Rest} {v₁ : Walked} → at < end → next ≡ after tree at
      → Turn tree (ReadsStmts tree) (walk_stmts machine) from end c₀ m₀ w at c m v → Walks tree (ReadsStmt tree at) (walk_stmt machine) c c₁ m m₁ v v₁
      → Turn tree (ReadsStmts tree) (walk_stmts machine) from end c₀ m₀ w next c₁ m₁ v₁
  unfolding walk_stmt
  stmts_again h = turn_again (λ _ _. refl) (λ b. first_stmt b h)

  -- a statement at which the walk stops
  pub stmts_stop : {c₁ : Bytes} {m₁ : Rest} {z : Stopped} → at < end
      → Turn tree (ReadsStmts tree) (walk_stmts machine) from end c₀ m₀ w at c m v → Walks tree (ReadsStmt tree at) (walk_stmt machine) c c₁ m m₁ v (Err z)
      → Walks tree (ReadsStmts tree from end) (walk_stmts machine) c₀ c₁ m₀ m₁ w (Err z)
  stmts_stop h t d = turn_stops (stmts_again h refl t d)

  -- no statement more
  pub stmts_end : end ≤ at → Turn tree (ReadsStmts tree) (walk_stmts machine) from end c₀ m₀ w at c m v → Walks tree (ReadsStmts tree from end) (walk_stmts machine) c₀ c m₀ m w v
  unfolding walk_stmt
  stmts_end h = turn_ends refl (λ b r. (no-stmts b h r).0)

  -- an expression more
  pub exprs_again : {next : ℕ} {c₁ : Bytes} {m₁ : Rest} {v₁ : Walked} → at < end → next ≡ after tree at
      → Turn tree (ReadsExprs tree) (walk_exprs machine) from end c₀ m₀ w at c m v → Walks tree (ReadsExpr tree at) (walk_expr machine) c c₁ m m₁ v v₁
      → Turn tree (ReadsExprs tree) (walk_exprs machine) from end c₀ m₀ w next c₁ m₁ v₁
  unfolding walk_expr
  exprs_again h = turn_again (λ _ _. refl) (λ b. first_expr b h)

  -- an expression at which the walk stops
  pub exprs_stop : {c₁ : Bytes} {m₁ : Rest} {z : Stopped} → at < end
      → Turn tree (ReadsExprs tree) (walk_exprs machine) from end c₀ m₀ w at c m v → Walks tree (ReadsExpr tree at) (walk_expr machine) c c₁ m m₁ v (Err z)
      → Walks tree (ReadsExprs tree from end) (walk_exprs machine) c₀ c₁ m₀ m₁ w (Err z)
  exprs_stop h t d = turn_stops (exprs_again h refl t d)

  -- no expression more
  pub exprs_end : end ≤ at → Turn tree (ReadsExprs tree) (walk_exprs machine) from end c₀ m₀ w at c m v → Walks tree (ReadsExprs tree from end) (walk_exprs machine) c₀ c m₀ m w v
  unfolding walk_expr
  exprs_end h = turn_ends refl (λ b r. (no-exprs b h r).0)

module _ {tree : Bytes} {at end : ℕ} where
  -- the statement in a turn, and that it ends before the end
  pub stmts_first : at < end → Some (ReadsStmts tree at end) → Some (ReadsStmt tree at)
  stmts_first h (b, r) = let i = first_stmt b h r in (i.one, i.here)

  pub stmts_fit : at < end → Some (ReadsStmts tree at end) → after tree at ≤ end
  stmts_fit h (b, r) = (first_stmt b h r).fits

  -- the expression likewise
  pub exprs_first : at < end → Some (ReadsExprs tree at end) → Some (ReadsExpr tree at)
  exprs_first h (b, r) = let i = first_expr b h r in (i.one, i.here)

  pub exprs_fit : at < end → Some (ReadsExprs tree at end) → after tree at ≤ end
  exprs_fit h (b, r) = (first_expr b h r).fits
