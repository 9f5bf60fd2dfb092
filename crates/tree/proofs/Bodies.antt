-- What a field holds, by its tag: the check of its content agrees with the definition's reading.
use Prim.Native.Nat.{ℕ, ◌+◌, ◌≤◌}
use native.Mathlib.Omega.{arith}
use mathlib.Core.Bool.{false}
use mathlib.Core.List.{[], ◌∷◌}
use mathlib.Core.Path.{◌≡◌, refl}
use lib.Dec.{eqb}
use Rattle.definition.specs.Basic.{pick}
use Rattle.definition.specs.Tag.{tag_expr_stmt, tag_return, tag_identifier, tag_boolean, tag_hash, tag_macro, tag_params}
use Rattle.definition.specs.Syntax.{Stmt, Stmts, Else, Expr, Exprs}
use Rattle.definition.specs.Tree.{Read, expr_tag, stmt_tag, stmts_of, exprs_of, names_of, read_name, read_operator, read_params, expr_body, stmt_body}
use Rattle.tree.specs.Grammar.{Kind, Statement, Block, Expression, Name, Params, Operator, Nothing, is_leaf, child_kind, least_of}
use Rattle.tree.specs.Check.{Checked, Good, bad_tree, check_children}
use Rattle.tree.proofs.Agrees.{Agrees, agrees_good}
use Rattle.tree.proofs.Checking.{Reads, Rest, must, may, over, item, rest-map, every, pairs}
use Rattle.tree.proofs.Table.{between}

-- the readers of the fields that stand at a level, in a content
pub record Readers (byte : ℕ → ℕ) (check : Kind → ℕ → ℕ → Checked) (level from end : ℕ) (f : ℕ → ℕ → Read Stmt) (b : ℕ → ℕ → Read Stmts) (e : ℕ → ℕ → Read Expr) : Type 0 where
  pub stmt : Reads byte check from end Statement f
  pub block : Reads byte check from end Block b
  pub expr : Reads byte check from end Expression e
  pub name : (least : ℕ) → Reads byte check from end (Name least) (read_name byte least level)
  pub params : Reads byte check from end Params (read_params byte level)
  pub operator : Reads byte check from end Operator (read_operator byte level)
  pub nothing : (i : ℕ) → check Nothing i end ≡ bad_tree i

-- what the content of a tag's field is read as agrees with its check
abbrev pub Body : (ℕ → ℕ) → (Kind → ℕ → ℕ → Checked) → ℕ → ℕ → ℕ → ℕ → {A : Type 0} → Read A → Type 0
Body byte check at in₀ n t x = Agrees (in₀ + n) (in₀ + n) x (pick (is_leaf t) Good (check_children byte check t at n 0 in₀ (in₀ + n)))

-- all children
pub whole : {byte : ℕ → ℕ} {check : Kind → ℕ → ℕ → Checked} {t parent from end : ℕ} {B : Type 0} {x : Read B} (n : ℕ) → end ≡ from + n → Rest byte check t parent from end 0 from x
    → Agrees end end x (check_children byte check t parent n 0 from end)
whole n e r = r.each n (record { start = omega arith; finish = omega arith; room = omega arith })

-- parameters
pub params_inside : {byte : ℕ → ℕ} {check : Kind → ℕ → ℕ → Checked} (level at in₀ n : ℕ) → Reads byte check in₀ (in₀ + n) (Name 1) (read_name byte 1 (level + 1)) → Body byte check at in₀ n tag_params (names_of (read_name byte 1 (level + 1)) n in₀ (in₀ + n))
params_inside level at in₀ n N = whole n refl (every [] (λ x xs. x ∷ xs) n 0 in₀ N (λ j. refl) refl (omega arith) (omega arith))

module _ {byte : ℕ → ℕ} {check : Kind → ℕ → ℕ → Checked} (level at in₀ n : ℕ) {f : ℕ → ℕ → Read Stmt} {b : ℕ → ℕ → Read Stmts} {e : ℕ → ℕ → Read Expr} (R : Readers byte check (level + 1) in₀ (in₀ + n) f b e) where
  -- statements, which a block and Program hold
  pub stmts_inside : {t : ℕ} → ((j : ℕ) → child_kind t j ≡ Statement) → eqb t tag_hash ≡ false → least_of t ≤ 0 → Rest byte check t at in₀ (in₀ + n) 0 in₀ (stmts_of f n in₀ (in₀ + n))
  stmts_inside isKind noHash least = every Stmts.no_stmts (λ x xs. Stmts.stmts x xs) n 0 in₀ R.stmt isKind noHash least (omega arith)

  -- a statement
  pub stmt_inside : (t : ℕ) → tag_expr_stmt ≤ t → t ≤ tag_return → Body byte check at in₀ n t (stmt_body byte (stmt_tag t) f e level at in₀ n)
  stmt_inside t low high =
      between (λ t. Body byte check at in₀ n t (stmt_body byte (stmt_tag t) f e level at in₀ n)) tag_expr_stmt 4 t (
        whole n refl (must R.expr refl refl (λ x i _. over (Stmt.expr_stmt at x) R.nothing refl refl)),
        (
          whole n refl (rest-map (λ b. Stmt.block at b) (stmts_inside (λ j. refl) refl (omega arith))),
          (
            whole n refl (must (R.name 1) refl refl (λ x i _. must R.expr refl refl (λ v i₁ _. over (Stmt.let_stmt at x v) R.nothing refl refl))),
            (
              whole n refl (must R.expr refl refl (λ x i _. over (Stmt.return_stmt at x) R.nothing refl refl)),
              tt,
            ),
          ),
        ),
      ) low (omega arith)

  -- expressions up to the end, from child k on
  exprs_inside : {t : ℕ} (k i : ℕ) → ((j : ℕ) → child_kind t j ≡ Expression) → eqb t tag_hash ≡ false → least_of t ≤ k → in₀ ≤ i → Rest byte check t at in₀ (in₀ + n) k i (exprs_of e n i (in₀ + n))
  exprs_inside k i isKind noHash least h = every Exprs.no_exprs (λ x xs. Exprs.exprs x xs) n k i R.expr isKind noHash least (omega arith)

  -- an expression that is no boolean
  pub expr_inside : (t : ℕ) → tag_identifier ≤ t → t ≤ tag_macro → (t ≡ tag_boolean → ⊥) → Body byte check at in₀ n t (expr_body byte (expr_tag t) e b level at in₀ n)
  expr_inside t low high =
      between (λ t. (t ≡ tag_boolean → ⊥) → Body byte check at in₀ n t (expr_body byte (expr_tag t) e b level at in₀ n)) tag_identifier 13 t
      -- Identifier, Prefix, Infix, If, Function
      (
        λ _. agrees_good refl (omega arith),
        (
          λ _. whole n refl (must R.operator refl refl (λ o i _. must R.expr refl refl (λ x i₁ _. over (Expr.prefix at o x) R.nothing refl refl))),
          (
            λ _. whole n refl (must R.expr refl refl (λ l i _. must R.operator refl refl (λ o i₁ _. must R.expr refl refl (λ r i₂ _. over (Expr.infixed at l o r) R.nothing refl refl)))),
            (
              λ _. whole n refl (must R.expr refl refl (λ c i _. must R.block refl refl (λ s i₁ _. rest-map (λ z. Expr.if at c s z) (may Else.no_else refl (λ no. item R.block refl no (λ z i₂ _. over (Else.else z) R.nothing refl refl)))))),
              (
                λ _. whole n refl (must (R.name 0) refl refl (λ x i _. must R.params refl refl (λ xs i₁ _. must R.block refl refl (λ s i₂ _. over (Expr.function at x xs s) R.nothing refl refl)))),
                -- Call, Integer, Boolean, String, Array
                (
                  λ _. whole n refl (must R.expr refl refl (λ g i past. rest-map (λ xs. Expr.call at g xs) (exprs_inside 1 i (λ j. refl) refl (omega arith) (omega arith)))),
                  (
                    λ _. agrees_good refl (omega arith),
                    (
                      λ no. absurd (no refl),
                      (
                        λ _. agrees_good refl (omega arith),
                        (
                          λ _. whole n refl (rest-map (λ xs. Expr.array at xs) (exprs_inside 0 in₀ (λ j. refl) refl (omega arith) (omega arith))),
                          -- Index, Hash, MacroLit
                          (
                            λ _. whole n refl (must R.expr refl refl (λ l i _. must R.expr refl refl (λ x i₁ _. over (Expr.index at l x) R.nothing refl refl))),
                            (
                              λ _. whole n refl (rest-map (λ xs. Expr.hash at xs) (pairs n in₀ R.expr (omega arith))),
                              (
                                λ _. whole n refl (must R.params refl refl (λ xs i _. must R.block refl refl (λ s i₁ _. over (Expr.macro at) R.nothing refl refl))),
                                tt,
                              ),
                            ),
                          ),
                        ),
                      ),
                    ),
                  ),
                ),
              ),
            ),
          ),
        ),
      ) low (omega arith)
