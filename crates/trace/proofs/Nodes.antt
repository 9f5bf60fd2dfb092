-- What stands at an offset of a tree, by its tag: its children, in a row, whose walk one after the other is its own.
use Prim.Native.Nat.{ℕ, ◌+◌, ◌≤◌}
use native.Mathlib.Omega.{arith}
use mathlib.Core.Bool.{true, false}
use mathlib.Core.List.{List, [], ◌∷◌}
use mathlib.Core.Logic.{◌⊎◌, inl, inr}
use mathlib.Core.Option.{Option, none, some}
use mathlib.Core.Path.{◌≡◌, refl, sym, ap, subst}
use lib.ListN.{get_or}
use lib.Dec.{ltb}
use borrow.Author.Tests.{ne_eqb}
use Rattle.definition.specs.Basic.{Bytes, byte_at}
use Rattle.definition.specs.Limit.{arguments_limit}
use Rattle.definition.specs.Tag.{tag_let, tag_identifier, tag_infix, tag_function, tag_macro, tag_name, tag_operator}
use Rattle.definition.specs.Syntax.{Stmt, Stmts, Else, Expr, Exprs, count}
use Rattle.definition.specs.Walk.{on, bind, Go, operate, prefixes, infixes, less_than, walk_stmt, walk_stmts, walk_else, walk_expr, walk_exprs}
use Rattle.definition.proofs.Basic.{contrary}
use Rattle.field.specs.Layout.{tag, after, Whole}
use Rattle.tree.specs.At.{Row, stmt_list, expr_list, LetAt, PrefixAt, InfixAt, IfAt, CallAt, IndexAt, ElseAt}
use Rattle.tree.specs.Reads.{Some, ReadsStmt, ReadsExpr, ReadsStmts, ReadsBlock}
use Rattle.tree.proofs.Parts.{stmt_is, expr_is}
use Rattle.tree.proofs.Table.{between}
use Rattle.records.specs.Naming.{Names, naming}
use Rattle.trace.specs.Pass.{is_parent, Node, walk_node, walk_nodes, ReadsNode, ReadsNodes}
use Rattle.trace.proofs.Sequence.{Below, below_same, below-bind, below_end, below-pick}

-- children in a row, and that their walk is the parent's
pub record Inner (tree : Bytes) (at : ℕ) (w : Go Names) : Type 0 where
  pub nodes : List Node
  pub row : ReadsNodes tree (at + 3) (after tree at) nodes
  pub below : (s : Names) → Below (w s) (walk_nodes nodes s)

-- Lists of statements and of expressions

abbrev stmt_nodes : Stmts → List Node
stmt_nodes Stmts.no_stmts = []
stmt_nodes (Stmts.stmts x xs) = Node.stmt x ∷ stmt_nodes xs

abbrev expr_nodes : Exprs → List Node
expr_nodes Exprs.no_exprs = []
expr_nodes (Exprs.exprs x xs) = Node.expr x ∷ expr_nodes xs

stmts_row : (tree : Bytes) (at end : ℕ) (b : Stmts) → Row tree (ReadsStmt tree) at end (stmt_list b) → Row tree (ReadsNode tree) at end (stmt_nodes b)
stmts_row tree at end Stmts.no_stmts r = r
stmts_row tree at end (Stmts.stmts x xs) r = (r.0, record { reads = r.1 }, stmts_row tree (after tree at) end xs r.2)

exprs_row : (tree : Bytes) (at end : ℕ) (es : Exprs) → Row tree (ReadsExpr tree) at end (expr_list es) → Row tree (ReadsNode tree) at end (expr_nodes es)
exprs_row tree at end Exprs.no_exprs r = r
exprs_row tree at end (Exprs.exprs x xs) r = (r.0, record { reads = r.1 }, exprs_row tree (after tree at) end xs r.2)

stmts_below : (b : Stmts) (s : Names) → Below (walk_stmts naming b s) (walk_nodes (stmt_nodes b) s)
unfolding walk_stmt
stmts_below Stmts.no_stmts s = Below.on
stmts_below (Stmts.stmts x xs) s = below-bind (walk_stmt naming x s) (λ s₁. stmts_below xs s₁)

exprs_below : (es : Exprs) (s : Names) → Below (walk_exprs naming es s) (walk_nodes (expr_nodes es) s)
unfolding walk_expr
exprs_below Exprs.no_exprs s = Below.on
exprs_below (Exprs.exprs x xs) s = below-bind (walk_expr naming x s) (λ s₁. exprs_below xs s₁)

-- a tree's statements
pub tree_nodes : {tree : Bytes} {end : ℕ} (b : Stmts) → ReadsStmts tree 3 end b → (xs : List Node) × ReadsNodes tree 3 end xs × ((s : Names) → Below (walk_stmts naming b s) (walk_nodes xs s))
tree_nodes {tree} {end} b r = (stmt_nodes b, record { row = stmts_row tree 3 end b r.row }, stmts_below b)

operate-below : (p : ℕ) (o : Option ℕ) (s : Names) → Below (operate naming p o s) (on tt s)
operate-below p none s = Below.stop
operate-below p (some o) s = Below.on

-- a tag that is neither of two
quiet_tag : {t a b : ℕ} → (t ≡ a) ⊎ (t ≡ b) → (t ≡ a → ⊥) → (t ≡ b → ⊥) → ⊥
quiet_tag (inl e) n m = n e
quiet_tag (inr e) n m = m e

-- the other branch
abbrev else_nodes : Else → List Node
else_nodes Else.no_else = []
else_nodes (Else.else b) = Node.block b ∷ []

else_below : (e : Else) (p : ℕ) (s : Names) → Below (bind (walk_else naming e p s) (λ _. on tt)) (walk_nodes (else_nodes e) s)
unfolding walk_expr
else_below Else.no_else p s = Below.on
else_below (Else.else b) p s = below_end (below_same (bind (walk_stmts naming b s) (λ _. on tt)))

else_row : (tree : Bytes) (from end : ℕ) (e : Else) → ElseAt tree (ReadsBlock tree) from end e → Row tree (ReadsNode tree) from end (else_nodes e)
else_row tree from end Else.no_else r = r
else_row tree from end (Else.else b) r = (omega (arith, r.0), record { reads = r.1 }, r.0)

-- The children of each construct

module _ {tree : Bytes} {at : ℕ} where
  -- an expression alone
  value_inner : (e : Expr) {w : Go Names} → ReadsExpr tree (at + 3) e → after tree (at + 3) ≡ after tree at → ((s : Names) → w s ≡ bind (walk_expr naming e s) (λ _. on tt)) → Inner tree at w
  value_inner e r h f =
      record {
        nodes = Node.expr e ∷ [];
        row = record { row = (omega arith, record { reads = r }, h) };
        below = λ s. rw (f s) (below-bind (walk_expr naming e s) (λ s₁. Below.on));
      }

  -- statements
  pub block_inner : (b : Stmts) → Row tree (ReadsStmt tree) (at + 3) (after tree at) (stmt_list b) → Inner tree at (walk_stmts naming b)
  block_inner b r = record { nodes = stmt_nodes b; row = record { row = stmts_row tree (at + 3) (after tree at) b r }; below = stmts_below b }

  -- an array or a hash
  list_inner : (es : Exprs) {w : Go Names} → Row tree (ReadsExpr tree) (at + 3) (after tree at) (expr_list es) → ((s : Names) → w s ≡ bind (walk_exprs naming es s) (λ _. on tt)) → Inner tree at w
  list_inner es r f = record { nodes = expr_nodes es; row = record { row = exprs_row tree (at + 3) (after tree at) es r }; below = λ s. rw (f s) (below_end (exprs_below es s)) }

  -- the statement of a tag
  stmt_inner : (x : Stmt) → ReadsStmt tree at x → is_parent (tag tree at) ≡ true → Inner tree at (walk_stmt naming x)
  unfolding walk_stmt
  stmt_inner x r =
      between (λ t. tag tree at ≡ t → is_parent t ≡ true → Inner tree at (walk_stmt naming x)) 17 4 (tag tree at) (
        λ h _. let i = stmt_is 17 h r in value_inner i.value i.on_value i.ends (λ s. ap (λ y. walk_stmt naming y s) i.is),
        (
          λ h _. let i = stmt_is 18 h r in subst (λ y. Inner tree at (walk_stmt naming y)) (sym i.is) (block_inner i.body i.on_body),
          (
            λ _ e. contrary e,
            (
              λ h _. let i = stmt_is 20 h r in value_inner i.value i.on_value i.ends (λ s. ap (λ y. walk_stmt naming y s) i.is),
              tt,
            ),
          ),
        ),
      )
      r.field.from (omega (arith, r.field.upto)) refl

  -- The expressions

  prefix_inner : (x : Expr) → PrefixAt tree (ReadsExpr tree) at x → Inner tree at (walk_expr naming x)
  unfolding walk_expr
  prefix_inner x i =
      let o = i.operator in
      let e : after tree (at + 3) ≡ at + 7 = omega (arith, o.one) in
      record {
        nodes = Node.quiet ∷ Node.expr i.operand ∷ [];
        row = record { row = (omega (arith, i.ends, o.one), record { reads = record { whole = o.whole; tagged = inr o.tagged } }, rw e (omega (arith, i.ends), record { reads = i.on-operand }, i.ends)) };
        below = λ s. rw i.is (below-bind (walk_expr naming i.operand s) (λ s₁. operate-below at (get_or prefixes (byte_at tree (at + 6)) none) s₁));
      }

  -- an infix that is not `<`
  pub infix_inner : (x : Expr) → (byte_at tree (after tree (at + 3) + 3) ≡ less_than → ⊥) → InfixAt tree (ReadsExpr tree) at x → Inner tree at (walk_expr naming x)
  unfolding walk_expr
  infix_inner x n i =
      let o = i.operator in
      let e : after tree (after tree (at + 3)) ≡ after tree (at + 3) + 4 = omega (arith, o.one) in
      record {
        nodes = Node.expr i.left ∷ Node.quiet ∷ Node.expr i.right ∷ [];
        row = record {
          row = (
            omega (arith, i.ends, o.one),
            record { reads = i.on_left },
            (omega (arith, i.ends, o.one), record { reads = record { whole = o.whole; tagged = inr o.tagged } }, rw e (omega (arith, i.ends), record { reads = i.on_right }, i.ends)),
          );
        };
        below = λ s.
            rw (i.is, ne_eqb (byte_at tree (after tree (at + 3) + 3)) less_than n)
            (below-bind (walk_expr naming i.left s) (λ s₁. below-bind (walk_expr naming i.right s₁) (λ s₂. operate-below at (get_or infixes (byte_at tree (after tree (at + 3) + 3)) none) s₂)));
      }

  index_inner : (x : Expr) → IndexAt tree (ReadsExpr tree) at x → Inner tree at (walk_expr naming x)
  unfolding walk_expr
  index_inner x i =
      record {
        nodes = Node.expr i.left ∷ Node.expr i.right ∷ [];
        row = record { row = (omega (arith, i.ends), record { reads = i.on_left }, (omega (arith, i.ends), record { reads = i.on_right }, i.ends)) };
        below = λ s. rw i.is (below-bind (walk_expr naming i.left s) (λ s₁. below-bind (walk_expr naming i.right s₁) (λ s₂. Below.on)));
      }

  call_inner : (x : Expr) → CallAt tree (ReadsExpr tree) at x → Inner tree at (walk_expr naming x)
  unfolding walk_expr
  call_inner x i =
      record {
        nodes = Node.expr i.callee ∷ expr_nodes i.args;
        row = record { row = (i.fits, record { reads = i.on_callee }, exprs_row tree (after tree (at + 3)) (after tree at) i.args i.on_args) };
        below = λ s. rw i.is (below-bind (walk_expr naming i.callee s) (λ s₁. below-pick (ltb arguments_limit (count i.args)) Below.stop (below_end (exprs_below i.args s₁))));
      }

  if_inner : (x : Expr) → IfAt tree (ReadsBlock tree) (ReadsExpr tree) at x → Inner tree at (walk_expr naming x)
  unfolding walk_expr
  if_inner x i =
      record {
        nodes = Node.expr i.test ∷ Node.block i.branch ∷ else_nodes i.other;
        row = record {
          row = (
            omega (arith, i.fits),
            record { reads = i.on_test },
            (i.fits, record { reads = i.on_branch }, else_row tree (after tree (after tree (at + 3))) (after tree at) i.other i.on_other),
          );
        };
        below = λ s. rw i.is (below-bind (walk_expr naming i.test s) (λ s₁. below-bind (walk_stmts naming i.branch s₁) (λ s₂. else_below i.other at s₂)));
      }

  -- the expression of a tag
  expr_inner : (x : Expr) → ReadsExpr tree at x → is_parent (tag tree at) ≡ true → Inner tree at (walk_expr naming x)
  unfolding walk_expr
  expr_inner x r =
      between (λ t. tag tree at ≡ t → is_parent t ≡ true → Inner tree at (walk_expr naming x)) 32 13 (tag tree at) (
        λ _ e. contrary e,
        (
          λ h _. prefix_inner x (expr_is 33 h r),
          (
            λ _ e. contrary e,
            (
              λ h _. if_inner x (expr_is 35 h r),
              (
                λ _ e. contrary e,
                (
                  λ h _. call_inner x (expr_is 37 h r),
                  (
                    λ _ e. contrary e,
                    (
                      λ _ e. contrary e,
                      (
                        λ _ e. contrary e,
                        (
                          λ h _. let i = expr_is 41 h r in list_inner i.items i.on-items (λ s. ap (λ y. walk_expr naming y s) i.is),
                          (
                            λ h _. index_inner x (expr_is 42 h r),
                            (
                              λ h _. let i = expr_is 43 h r in list_inner i.items i.on-items (λ s. ap (λ y. walk_expr naming y s) i.is),
                              (
                                λ _ e. contrary e,
                                tt,
                              ),
                            ),
                          ),
                        ),
                      ),
                    ),
                  ),
                ),
              ),
            ),
          ),
        ),
      )
      r.field.from (omega (arith, r.field.upto)) refl

  -- what stands there, where its names are those of its children
  pub children : (x : Node) → ReadsNode tree at x → is_parent (tag tree at) ≡ true → Inner tree at (walk_node x)
  children (Node.stmt x) r h = stmt_inner x r.reads h
  children (Node.expr x) r h = expr_inner x r.reads h
  children (Node.block b) r h = block_inner b r.reads.body.row
  children Node.quiet r h = absurd (go r.reads.tagged)
    where
      go : (tag tree at ≡ tag_name) ⊎ (tag tree at ≡ tag_operator) → ⊥
      go (inl e) = contrary (rw e at h)
      go (inr e) = contrary (rw e at h)

  -- The others

  -- what stands there has no names
  pub silent : (tag tree at ≡ tag_identifier → ⊥) → (tag tree at ≡ tag_let → ⊥) → (tag tree at ≡ tag_function → ⊥) → (tag tree at ≡ tag_infix → ⊥) → is_parent (tag tree at) ≡ false
      → (x : Node) → ReadsNode tree at x → (s : Names) → Below (walk_node x s) (on tt s)
  unfolding walk_expr
  silent n₀ n₁ n₂ n₃ h (Node.stmt x) r s =
      between (λ t. tag tree at ≡ t → is_parent t ≡ false → Below (walk_stmt naming x s) (on tt s)) 17 4 (tag tree at)
      (λ _ e. contrary (sym e), (λ _ e. contrary (sym e), (λ i _. absurd (n₁ i), (λ _ e. contrary (sym e), tt))))
      r.reads.field.from (omega (arith, r.reads.field.upto)) refl h
  silent n₀ n₁ n₂ n₃ h (Node.expr x) r s =
      between (λ t. tag tree at ≡ t → is_parent t ≡ false → Below (walk_expr naming x s) (on tt s)) 32 13 (tag tree at) (
        λ i _. absurd (n₀ i),
        (
          λ _ e. contrary (sym e),
          (
            λ i _. absurd (n₃ i),
            (
              λ _ e. contrary (sym e),
              (
                λ i _. absurd (n₂ i),
                (
                  λ _ e. contrary (sym e),
                  (
                    λ i _. rw (expr_is 38 i r.reads).is Below.on,
                    (
                      λ i _. rw (expr_is 39 i r.reads).is Below.on,
                      (
                        λ i _. rw (expr_is 40 i r.reads) Below.on,
                        (
                          λ _ e. contrary (sym e),
                          (
                            λ _ e. contrary (sym e),
                            (
                              λ _ e. contrary (sym e),
                              (
                                λ i _. rw (expr_is 44 i r.reads) Below.stop,
                                tt,
                              ),
                            ),
                          ),
                        ),
                      ),
                    ),
                  ),
                ),
              ),
            ),
          ),
        ),
      )
      r.reads.field.from (omega (arith, r.reads.field.upto)) refl h
  silent n₀ n₁ n₂ n₃ h (Node.block b) r s = contrary (sym (rw r.reads.tagged at h))
  silent n₀ n₁ n₂ n₃ h Node.quiet r s = Below.on

  -- a let
  pub as_let : tag tree at ≡ tag_let → (x : Node) → ReadsNode tree at x → (y : Stmt) × LetAt tree (ReadsExpr tree) at y × ((s : Names) → Below (walk_node x s) (walk_stmt naming y s))
  as_let h (Node.stmt x) r = (x, stmt_is tag_let h r.reads, λ s. below_same (walk_stmt naming x s))
  as_let h (Node.expr x) r = absurd (omega (arith, r.reads.field.from))
  as_let h (Node.block b) r = absurd (omega (arith, r.reads.tagged))
  as_let h Node.quiet r = absurd (quiet_tag r.reads.tagged (omega arith) (omega arith))

  -- an expression of a tag
  pub as_expr : {t : ℕ} → tag tree at ≡ t → tag_identifier ≤ t → t ≤ tag_macro → (x : Node) → ReadsNode tree at x → (e : Expr) × ReadsExpr tree at e × ((s : Names) → Below (walk_node x s) (walk_expr naming e s))
  as_expr h l m (Node.stmt x) r = absurd (omega (arith, r.reads.field.upto))
  as_expr h l m (Node.expr x) r = (x, r.reads, λ s. below_same (walk_expr naming x s))
  as_expr h l m (Node.block b) r = absurd (omega (arith, r.reads.tagged))
  as_expr h l m Node.quiet r = absurd (quiet_tag r.reads.tagged (omega arith) (omega arith))

  -- a whole field stands there
  pub node_whole : (x : Node) → ReadsNode tree at x → Whole tree at
  node_whole (Node.stmt x) r = r.reads.field.whole
  node_whole (Node.expr x) r = r.reads.field.whole
  node_whole (Node.block b) r = r.reads.whole
  node_whole Node.quiet r = r.reads.whole

  pub some_whole : Some (ReadsNode tree at) → Whole tree at
  some_whole (x, r) = node_whole x r
