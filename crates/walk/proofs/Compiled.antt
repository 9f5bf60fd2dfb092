-- Loops over the fields of a row, by the compiler that the memory is lent to.
use Prim.Native.Nat.{ℕ}
use mathlib.Core.Path.{◌≡◌, refl, sym, subst, ◌∙◌}
use Rattle.definition.specs.Basic.{Bytes}
use Rattle.definition.specs.Walk.{Go, walk_stmt, walk_stmts, walk_expr, walk_exprs}
use Rattle.definition.specs.declared.reason.Refusal.{Refusal}
use Rattle.scope.specs.View.{View}
use Rattle.scope.specs.Machine.{machine}
use Rattle.std.specs.Prelude.{Ok, Err}
use Rattle.field.specs.Fields.{NextIs, Ended, Begins}
use Rattle.field.specs.declared.fields.Fields.{Fields}
use Rattle.field.proofs.EachField.{Over, over_new, starts_at, over_again, is_before, is_behind, is_over}
use Rattle.tree.specs.Reads.{Some, ReadsStmt, ReadsStmts, ReadsExpr, ReadsExprs}
use Rattle.walk.specs.declared.Compiler.{Compiler}
use Rattle.walk.specs.Compiles.{beside, names, Stands, Compiles}
use Rattle.walk.proofs.Turns.{Turn, turn_holds, stmts_again, stmts_stop, stmts_end, exprs_again, exprs_stop, exprs_end}

-- in a turn: the iterator is over the row, and what was walked stands before its offset
pub record LoopTurn {B : Type 0} (tree : Bytes) (R : ℕ → ℕ → B → Type 0) (k : B → Go View) (from end : ℕ) (z : Compiler) (s : Fields) (y : Compiler) : Type 0 where
  pub over : Over tree end s
  pub turn : Turn tree R k from end z.scope.now.code.now (beside z) (Ok z.scope.now.state) s.at y.scope.now.code.now (beside y) (Ok y.scope.now.state)
  pub same : names y ≡ names z

module _ {B : Type 0} {tree : Bytes} {R : ℕ → ℕ → B → Type 0} {k : B → Go View} {from end : ℕ} {z : Compiler} where
  -- before the first turn
  pub loop_holds : {s n : Fields} → s ≡ n → Begins tree from end n → Some (R from end) → Stands tree z → LoopTurn tree R k from end z s z
  loop_holds {s} e g i h =
      let o = z.scope.now in
      let w = Ok z.scope.now.state in
      record {
        over = over_new e g;
        turn = subst (λ at. Turn tree R k from end o.code.now (beside z) w at o.code.now (beside z) w) (starts_at e g) (turn_holds i (record { area = o.area; sound = o.fits }) h.fine);
        same = refl;
      }

  module _ {s : Fields} {y : Compiler} (l : LoopTurn tree R k from end z s y) {at : ℕ} {t : Fields} (n : NextIs s at t) where
    -- at the field that the iterator gave
    pub turn_at : Turn tree R k from end z.scope.now.code.now (beside z) (Ok z.scope.now.state) at y.scope.now.code.now (beside y) (Ok y.scope.now.state)
    turn_at = subst (λ at. Turn tree R k from end z.scope.now.code.now (beside z) (Ok z.scope.now.state) at y.scope.now.code.now (beside y) (Ok y.scope.now.state)) (sym n.here) l.turn

module _ {tree : Bytes} {from end : ℕ} {z : Compiler} {s : Fields} {y : Compiler} where
  module _ {at : ℕ} {t : Fields} (n : NextIs s at t) {y' : Compiler} where
    -- a statement more
    pub stmt_turn : LoopTurn tree (ReadsStmts tree) (walk_stmts machine) from end z s y → Compiles tree (ReadsStmt tree at) (walk_stmt machine) y y' (Ok tt) → LoopTurn tree (ReadsStmts tree) (walk_stmts machine) from end z t y'
    stmt_turn l d = record { over = over_again l.over n; turn = stmts_again (is_before l.over n) (is_behind l.over n) (turn_at l n) d.walks; same = d.same ∙ l.same }

    -- an expression more
    pub expr_turn : LoopTurn tree (ReadsExprs tree) (walk_exprs machine) from end z s y → Compiles tree (ReadsExpr tree at) (walk_expr machine) y y' (Ok tt) → LoopTurn tree (ReadsExprs tree) (walk_exprs machine) from end z t y'
    expr_turn l d = record { over = over_again l.over n; turn = exprs_again (is_before l.over n) (is_behind l.over n) (turn_at l n) d.walks; same = d.same ∙ l.same }

    -- one that is refused
    pub stmt_refused : {r : Refusal} → LoopTurn tree (ReadsStmts tree) (walk_stmts machine) from end z s y → Compiles tree (ReadsStmt tree at) (walk_stmt machine) y y' (Err r) → Compiles tree (ReadsStmts tree from end) (walk_stmts machine) z y' (Err r)
    stmt_refused l d = record { walks = stmts_stop (is_before l.over n) (turn_at l n) d.walks; same = d.same ∙ l.same }

    pub expr_refused : {r : Refusal} → LoopTurn tree (ReadsExprs tree) (walk_exprs machine) from end z s y → Compiles tree (ReadsExpr tree at) (walk_expr machine) y y' (Err r) → Compiles tree (ReadsExprs tree from end) (walk_exprs machine) z y' (Err r)
    expr_refused l d = record { walks = exprs_stop (is_before l.over n) (turn_at l n) d.walks; same = d.same ∙ l.same }

  -- after the last turn
  pub stmts_walked : Ended s → LoopTurn tree (ReadsStmts tree) (walk_stmts machine) from end z s y → Compiles tree (ReadsStmts tree from end) (walk_stmts machine) z y (Ok tt)
  stmts_walked e l = record { walks = stmts_end (is_over l.over e) l.turn; same = l.same }

  pub exprs_walked : Ended s → LoopTurn tree (ReadsExprs tree) (walk_exprs machine) from end z s y → Compiles tree (ReadsExprs tree from end) (walk_exprs machine) z y (Ok tt)
  exprs_walked e l = record { walks = exprs_end (is_over l.over e) l.turn; same = l.same }
