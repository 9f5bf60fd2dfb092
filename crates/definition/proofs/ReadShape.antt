-- Reading does not see literals: a tree and its shape are read alike.
use Prim.Native.Nat.{ℕ, zero, suc, ◌+◌, ◌≤◌}
use native.Mathlib.Omega.{arith}
use native.Mathlib.Nat.{zero-add}
use mathlib.Core.Bool.{Bool, true, false}
use mathlib.Core.List.{[], ◌∷◌}
use mathlib.Core.Option.{none, some}
use mathlib.Core.Path.{◌≡◌, refl, sym, ap, ◌∙◌}
use lib.ListN.{length, get_or-eq_default}
use lib.Dec.{leb, ltb, eqb}
use Rattle.definition.specs.Basic.{Bytes, byte_at, pick, both}
use Rattle.definition.specs.Limit.{tree_limit, level_limit}
use Rattle.definition.specs.Number
use Rattle.definition.specs.Number.{refusal}
use Rattle.definition.specs.Tag.{tag_boolean, tag_block, tag_params, tag_program}
use Rattle.definition.specs.Syntax.{Stmt, Stmts, Else, Expr, Exprs}
use Rattle.definition.specs.Field.{tagged, name_head, bytes}
use Rattle.definition.specs.Tree.{Read, ExprTag, StmtTag, after, seq, plain, literal, met, expr_tag, stmt_tag, expr_head, stmt_head, operator_head, pair_of, stmts_of, exprs_of, pairs_of, else_of, read_name, read_operator, read_params, expr_body, stmt_body, read_stmt, read_block, read_expr, read_program, read_tree, literals, Parsed, judged}
use Rattle.definition.specs.Shape.{blanked, shape}
use Rattle.definition.proofs.Bytes.{length-bytes}
use Rattle.definition.proofs.Blank.{blank, map_stmt, map_stmts, map_else, map_expr, map_exprs}
use Rattle.definition.proofs.Follows.{map_read, Follows, bytes_same, follows_seq, follows_next, follows_pick, follows_read, follows_fault, follows_child, follows_last, follows_many, follows_head, follows_met, follows_bytes, follows_literal, follows_byte}

module _ {t u : ℕ → ℕ} where
  module _ {f f' : ℕ → ℕ → Read Stmt} (F : (at end : ℕ) → Follows t u (map_stmt blank) at (f at end) (f' at end)) where
    -- statements
    follows_stmts : (fuel at end : ℕ) → Follows t u (map_stmts blank) at (stmts_of f fuel at end) (stmts_of f' fuel at end)
    unfolding map_stmts
    follows_stmts = follows_many Stmts.no_stmts (λ x xs. Stmts.stmts x xs) refl (λ _ _. refl) F

  module _ {f f' : ℕ → ℕ → Read Expr} (F : (at end : ℕ) → Follows t u (map_expr blank) at (f at end) (f' at end)) where
    -- expressions
    follows_exprs : (fuel at end : ℕ) → Follows t u (map_exprs blank) at (exprs_of f fuel at end) (exprs_of f' fuel at end)
    unfolding map_exprs
    follows_exprs = follows_many Exprs.no_exprs (λ x xs. Exprs.exprs x xs) refl (λ _ _. refl) F

    -- a key and its value
    follows_pair : (parent at end : ℕ) → Follows t u (λ x. (map_expr blank x.0, map_expr blank x.1)) at (pair_of f parent at end) (pair_of f' parent at end)
    follows_pair parent at end = follows_seq (F at end) (λ _ _ at₁ k. follows_seq (follows_child F parent at₁ end) (λ _ _ n v. follows_read n (λ i. (k i, v i))))

    -- keys and values
    follows_pairs : (parent fuel at end : ℕ) → Follows t u (map_exprs blank) at (pairs_of f parent fuel at end) (pairs_of f' parent fuel at end)
    unfolding map_exprs
    follows_pairs parent = follows_many Exprs.no_exprs (λ x xs. Exprs.exprs x.0 (Exprs.exprs x.1 xs)) refl (λ _ _. refl) (follows_pair parent)

  -- an else, or none
  follows_else : {f f' : ℕ → ℕ → Read Stmts} → ((at end : ℕ) → Follows t u (map_stmts blank) at (f at end) (f' at end)) → (at end : ℕ) → Follows t u (map_else blank) at (else_of f at end) (else_of f' at end)
  unfolding map_else
  follows_else f at end = follows_pick (eqb at end) (follows_read at refl) (follows_seq (f at end) (λ b _ at₁ p. follows_last (Else.else b) at₁ end (λ i. Else.else (p i))))

  -- a name
  follows_name : (least level at end : ℕ) → Follows t u (λ x. x) at (read_name t least level at end) (read_name u least level at end)
  follows_name least level at end = follows_next (follows_head (name_head least) at end) (λ h in₀. follows_met level at (follows_bytes (λ b. b) (λ b. refl) in₀ h.len))

  -- parameters
  follows_params : (level at end : ℕ) → Follows t u (λ x. x) at (read_params t level at end) (read_params u level at end)
  follows_params level at end = follows_next (follows_head (tagged tag_params) at end) (λ h in₀. follows_met level at (follows_many [] (λ x xs. x ∷ xs) refl (λ _ _. refl) (follows_name 1 (level + 1)) h.len in₀ (in₀ + h.len)))

  -- an operator
  follows_operator : (level at end : ℕ) → Follows t u (λ x. x) at (read_operator t level at end) (read_operator u level at end)
  follows_operator level at end = follows_next (follows_head operator_head at end) (λ h in₀. follows_byte (λ o. o) 9 plain level at in₀ (λ p. p) refl)

  module _ {e e' : ℕ → ℕ → Read Expr} (E : (at end : ℕ) → Follows t u (map_expr blank) at (e at end) (e' at end)) where
    module _ {b b' : ℕ → ℕ → Read Stmts} (B : (at end : ℕ) → Follows t u (map_stmts blank) at (b at end) (b' at end)) where
      -- what an expression holds
      follows_expr_body : (x : ExprTag) (level at in₀ n : ℕ) → Follows t u (map_expr blank) in₀ (expr_body t x e b level at in₀ n) (expr_body u x e' b' level at in₀ n)
      unfolding map_expr
      follows_expr_body ExprTag.identifier_tag level at in₀ n = follows_bytes (λ b. Expr.identifier at b) (λ b. refl) in₀ n
      follows_expr_body ExprTag.prefix_tag level at in₀ n =
          follows_next (follows_child (follows_operator (level + 1)) at in₀ (in₀ + n)) (λ o at₁. follows_seq (follows_child E at at₁ (in₀ + n)) (λ x _ at₂ p. follows_last (Expr.prefix at o x) at₂ (in₀ + n) (λ i. Expr.prefix at o (p i))))
      follows_expr_body ExprTag.infix_tag level at in₀ n =
          follows_seq (follows_child E at in₀ (in₀ + n)) (λ x _ at₁ p. follows_next (follows_child (follows_operator (level + 1)) at at₁ (in₀ + n)) (λ o at₂. follows_seq (follows_child E at at₂ (in₀ + n)) (λ y _ at₃ q.
          follows_last (Expr.infixed at x o y) at₃ (in₀ + n) (λ i. Expr.infixed at (p i) o (q i)))))
      follows_expr_body ExprTag.if_tag level at in₀ n =
          follows_seq (follows_child E at in₀ (in₀ + n)) (λ _ _ at₁ p. follows_seq (follows_child B at at₁ (in₀ + n)) (λ _ _ at₂ q. follows_seq (follows_else B at₂ (in₀ + n)) (λ _ _ at₃ r.
          follows_read at₃ (λ i. Expr.if at (p i) (q i) (r i)))))
      follows_expr_body ExprTag.function_tag level at in₀ n =
          follows_next (follows_child (follows_name 0 (level + 1)) at in₀ (in₀ + n)) (λ x at₁. follows_next (follows_child (follows_params (level + 1)) at at₁ (in₀ + n)) (λ xs at₂. follows_seq (follows_child B at at₂ (in₀ + n)) (λ f _ at₃ p.
          follows_last (Expr.function at x xs f) at₃ (in₀ + n) (λ i. Expr.function at x xs (p i)))))
      follows_expr_body ExprTag.call_tag level at in₀ n =
          follows_seq (follows_child E at in₀ (in₀ + n)) (λ _ _ at₁ p. follows_seq (follows_exprs E n at₁ (in₀ + n)) (λ _ _ at₂ q. follows_read at₂ (λ i. Expr.call at (p i) (q i))))
      follows_expr_body ExprTag.integer_tag level at in₀ n = follows_literal (λ b. Expr.integer at b) (λ b. refl) in₀ n
      follows_expr_body ExprTag.string_tag level at in₀ n = follows_literal (λ b. Expr.string at b) (λ b. refl) in₀ n
      follows_expr_body ExprTag.array_tag level at in₀ n = follows_seq (follows_exprs E n in₀ (in₀ + n)) (λ _ _ at₁ p. follows_read at₁ (λ i. Expr.array at (p i)))
      follows_expr_body ExprTag.index_tag level at in₀ n =
          follows_seq (follows_child E at in₀ (in₀ + n)) (λ x _ at₁ p. follows_seq (follows_child E at at₁ (in₀ + n)) (λ y _ at₂ q. follows_last (Expr.index at x y) at₂ (in₀ + n) (λ i. Expr.index at (p i) (q i))))
      follows_expr_body ExprTag.hash_tag level at in₀ n = follows_seq (follows_pairs E at n in₀ (in₀ + n)) (λ _ _ at₁ p. follows_read at₁ (λ i. Expr.hash at (p i)))
      follows_expr_body ExprTag.macro_tag level at in₀ n =
          follows_next (follows_child (follows_params (level + 1)) at in₀ (in₀ + n)) (λ _ at₁. follows_seq (follows_child B at at₁ (in₀ + n)) (λ _ _ at₂ _. follows_last (Expr.macro at) at₂ (in₀ + n) refl))

    module _ {f f' : ℕ → ℕ → Read Stmt} (F : (at end : ℕ) → Follows t u (map_stmt blank) at (f at end) (f' at end)) where
      -- what a statement holds
      follows_stmt_body : (x : StmtTag) (level at in₀ n : ℕ) → Follows t u (map_stmt blank) in₀ (stmt_body t x f e level at in₀ n) (stmt_body u x f' e' level at in₀ n)
      unfolding map_stmt
      follows_stmt_body StmtTag.expr_stmt_tag level at in₀ n = follows_seq (follows_child E at in₀ (in₀ + n)) (λ x _ at₁ p. follows_last (Stmt.expr_stmt at x) at₁ (in₀ + n) (λ i. Stmt.expr_stmt at (p i)))
      follows_stmt_body StmtTag.block_tag level at in₀ n = follows_seq (follows_stmts F n in₀ (in₀ + n)) (λ _ _ at₁ p. follows_read at₁ (λ i. Stmt.block at (p i)))
      follows_stmt_body StmtTag.let_tag level at in₀ n =
          follows_next (follows_child (follows_name 1 (level + 1)) at in₀ (in₀ + n)) (λ x at₁. follows_seq (follows_child E at at₁ (in₀ + n)) (λ v _ at₂ p. follows_last (Stmt.let_stmt at x v) at₂ (in₀ + n) (λ i. Stmt.let_stmt at x (p i))))
      follows_stmt_body StmtTag.return_tag level at in₀ n = follows_seq (follows_child E at in₀ (in₀ + n)) (λ x _ at₁ p. follows_last (Stmt.return_stmt at x) at₁ (in₀ + n) (λ i. Stmt.return_stmt at (p i)))

  -- by the fuel
  mutual
    unfolding read_stmt map_expr

    -- a statement
    follows_stmt : (fuel level at end : ℕ) → Follows t u (map_stmt blank) at (read_stmt t fuel level at end) (read_stmt u fuel level at end)
    follows_stmt zero level at end = follows_fault at
    follows_stmt (suc fuel) level at end =
        follows_next (follows_head stmt_head at end) (λ h in₀. follows_met level at
        (follows_stmt_body (λ a z. follows_expr fuel (level + 1) a z) (λ a z. follows_stmt fuel (level + 1) a z) (stmt_tag h.tag) level at in₀ h.len))

    -- a block
    follows_block : (fuel level at end : ℕ) → Follows t u (map_stmts blank) at (read_block t fuel level at end) (read_block u fuel level at end)
    follows_block zero level at end = follows_fault at
    follows_block (suc fuel) level at end =
        follows_next (follows_head (tagged tag_block) at end) (λ h in₀. follows_met level at (follows_stmts (λ a z. follows_stmt fuel (level + 1) a z) h.len in₀ (in₀ + h.len)))

    -- an expression
    follows_expr : (fuel level at end : ℕ) → Follows t u (map_expr blank) at (read_expr t fuel level at end) (read_expr u fuel level at end)
    follows_expr zero level at end = follows_fault at
    follows_expr (suc fuel) level at end =
        follows_next (follows_head expr_head at end) (λ h in₀.
        follows_pick (tagged tag_boolean h) (follows_byte (λ b. Expr.boolean at b) 1 literal level at in₀ (λ _. refl) refl)
        (follows_met level at (follows_expr_body (λ a z. follows_expr fuel (level + 1) a z) (λ a z. follows_block fuel (level + 1) a z) (expr_tag h.tag) level at in₀ h.len)))

  -- a program
  follows_program : (n : ℕ) → Follows t u (map_stmts blank) 0 (read_program t n) (read_program u n)
  unfolding read_program
  follows_program n =
      follows_pick (leb n tree_limit) (follows_next (follows_head (λ h. both (tagged tag_program h) (eqb (3 + h.len) n)) 0 n) (λ h in₀. follows_stmts (λ a z. follows_stmt n 2 a z) h.len in₀ n)) (follows_fault 0)

-- the byte at an offset among them
at_bytes : (v : ℕ → ℕ) (a n i : ℕ) → ((j : ℕ) → n ≤ j → v (a + j) ≡ 0) → byte_at (bytes v a n) i ≡ v (a + i)
at_bytes v a zero i h = sym (h i (omega arith))
at_bytes v a (suc n) zero h = ap v (omega arith)
at_bytes v a (suc n) (suc i) h =
    let e : (j : ℕ) → a + 1 + j ≡ a + suc j = λ j. omega arith in
    at_bytes v (a + 1) n i (λ j p. ap v (e j) ∙ h (suc j) (omega arith)) ∙ ap v (e i)

-- past the end there is 0
blanked_end : (l : ℕ → Bool) (tree : Bytes) (i : ℕ) → length tree ≤ i → blanked l (byte_at tree) i ≡ 0
blanked_end l tree i h = ap (λ x. pick (l i) 0 x) (get_or-eq_default tree 0 h) ∙ go (l i)
  where
    go : (b : Bool) → ◌≡◌ {A = ℕ} (pick b 0 0) 0
    go true = refl
    go false = refl

-- a shape is as long as its tree
pub length-shape : (tree : Bytes) → length (shape tree) ≡ length tree
unfolding shape
length-shape tree = length-bytes _ 0 (length tree)

-- which bytes of a tree are literals
abbrev lits : Bytes → ℕ → Bool
lits tree = literals (read_program (byte_at tree) (length tree))

-- the byte of a shape
shape_at : (tree : Bytes) (i : ℕ) → byte_at (shape tree) i ≡ blanked (lits tree) (byte_at tree) i
unfolding shape
shape_at tree i =
    let v = blanked (lits tree) (byte_at tree) in
    at_bytes v 0 (length tree) i (λ j p. ap v (zero-add j) ∙ blanked_end (lits tree) tree j p) ∙ ap v (zero-add i)

-- its shape is read like it
read-program : (tree : Bytes) → map_read (map_stmts blank) (read_program (byte_at tree) (length tree)) ≡ read_program (byte_at (shape tree)) (length (shape tree))
read-program tree = rw (length-shape tree) ((follows_program (length tree)).like (λ i _ _. shape_at tree i))

-- what was read, mapped
abbrev pub map_parsed : {A : Type 0} → (A → A) → Parsed A → Parsed A
map_parsed g (Parsed.parsed a n) = Parsed.parsed (g a) n
map_parsed g (Parsed.refused r) = Parsed.refused r

-- a map over what was read leaves a refusal
judged-map : {A : Type 0} (g : A → A) (x : Read A) → map_parsed g (judged x) ≡ judged (map_read g x)
judged-map g (Read.ok a n none l) = refl
judged-map g (Read.ok a n (some p) l) = refl
judged-map g (Read.wrong p none l) = refl
judged-map g (Read.wrong p (some q) l) = refl

-- a tree's shape is read to the tree's shape, or refused alike
pub read-shape : (tree : Bytes) → map_parsed (map_stmts blank) (read_tree tree) ≡ read_tree (shape tree)
unfolding read_tree
read-shape tree = judged-map (map_stmts blank) (read_program (byte_at tree) (length tree)) ∙ ap judged (read-program tree)

-- a shape is its own
pub shape-shape : (tree : Bytes) → shape (shape tree) ≡ shape tree
unfolding shape
shape-shape tree =
    (λ i. bytes (blanked (same i) (byte_at (shape tree))) 0 (length-shape tree i))
    ∙ sym (bytes_same (blanked (lits tree) (byte_at (shape tree))) (blanked (lits tree) (byte_at tree)) 0 (length tree) (λ i _ _. ap (λ x. pick (lits tree i) 0 x) (shape_at tree i) ∙ twice (lits tree i) (byte_at tree i)))
  where
    kept : {A : Type 0} (g : A → A) (x : Read A) → literals (map_read g x) ≡ literals x
    kept g (Read.ok a n d l) = refl
    kept g (Read.wrong p d l) = refl

    same : lits (shape tree) ≡ lits tree
    same = sym (ap literals (read-program tree)) ∙ kept (map_stmts blank) (read_program (byte_at tree) (length tree))

    twice : (b : Bool) (x : ℕ) → pick b 0 (pick b 0 x) ≡ pick b 0 x
    twice true x = refl
    twice false x = refl

-- reading as code does it that stops at the first refusal: one step, and then another
abbrev pub and_then : {A B : Type 0} → Parsed A → (A → ℕ → Parsed B) → Parsed B
and_then (Parsed.parsed a n) k = k a n
and_then (Parsed.refused r) k = Parsed.refused r

-- nothing too deep before
judged_after : {A : Type 0} (n : ℕ) (l : ℕ → Bool) (z : Read A) → judged (after n none l z) ≡ judged z
judged_after n l (Read.ok a m none r) = refl
judged_after n l (Read.ok a m (some p) r) = refl
judged_after n l (Read.wrong p none r) = refl
judged_after n l (Read.wrong p (some q) r) = refl

-- a field too deep before
judged_deep : {A : Type 0} (n p : ℕ) (l : ℕ → Bool) (z : Read A) → judged (after n (some p) l z) ≡ Parsed.refused (refusal Number.too_deep p)
judged_deep n p l (Read.ok a m d r) = refl
judged_deep n p l (Read.wrong q d r) = refl

-- a sequence goes step by step
pub judged-seq : {A B : Type 0} (x : Read A) (k : A → ℕ → Read B) → judged (seq x k) ≡ and_then (judged x) (λ a n. judged (k a n))
judged-seq (Read.ok a n none l) k = judged_after n l (k a n)
judged-seq (Read.ok a n (some p) l) k = judged_deep n p l (k a n)
judged-seq (Read.wrong p none l) k = refl
judged-seq (Read.wrong p (some q) l) k = refl

-- a field that is too deep is refused at once
pub judged-met : {A : Type 0} (level at : ℕ) (x : Read A) → judged (met level at x) ≡ pick (ltb level_limit level) (Parsed.refused (refusal Number.too_deep at)) (judged x)
judged-met level at (Read.ok a n d l) = go (ltb level_limit level)
  where
    go : (b : Bool) → judged (Read.ok a n (pick b (some at) d) l) ≡ pick b (Parsed.refused (refusal Number.too_deep at)) (judged (Read.ok a n d l))
    go true = refl
    go false = refl
judged-met {A} level at (Read.wrong p d l) = go (ltb level_limit level)
  where
    go : (b : Bool) → ◌≡◌ {A = Parsed A} (judged (Read.wrong p (pick b (some at) d) l)) (pick b (Parsed.refused (refusal Number.too_deep at)) (judged (Read.wrong p d l)))
    go true = refl
    go false = refl
