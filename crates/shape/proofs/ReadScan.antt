-- Reading a tree passes over its fields in a row: what is read at an offset is such a row from there on, with its literals.
use Prim.Native.Nat.{ℕ, zero, suc, ◌+◌, ◌≤◌}
use native.Mathlib.Omega.{arith}
use mathlib.Core.Bool.{Bool, true, false}
use mathlib.Core.List.{[], ◌∷◌}
use mathlib.Core.Option.{Option, none, some}
use mathlib.Core.Path.{◌≡◌, refl, sym, ap, subst, ◌∙◌}
use lib.ListN.{length}
use lib.Dec.{leb, eqb}
use borrow.Author.Tests.{eqb-true, eqb-false, leb-true}
use Rattle.definition.specs.Basic.{Bytes, byte_at, pick, both}
use Rattle.definition.specs.Limit.{tree_limit}
use Rattle.definition.specs.Tag.{tag_expr_stmt, tag_return, tag_identifier, tag_macro, tag_boolean, tag_block, tag_name, tag_params, tag_operator, tag_program}
use Rattle.definition.specs.Syntax.{Stmt, Stmts, Else, Expr, Exprs}
use Rattle.definition.specs.Field.{Head, tagged, name_head, head}
use Rattle.definition.specs.Tree.{Read, StmtTag, expr_tag, stmt_tag, after, seq, plain, literal, met, expr_len, expr_head, stmt_head, operator_head, last, many, pair_of, pairs_of, stmts_of, exprs_of, else_of, head_at, one_byte, read_name, read_operator, read_params, expr_body, stmt_body, read_stmt, read_block, read_expr, read_program, read_tree, Parsed, judged, literals}
use Rattle.definition.proofs.Basic.{chosen, both_left, both_right}
use Rattle.tree.specs.Grammar.{is_leaf}
use Rattle.tree.proofs.Table.{between}
use Rattle.shape.specs.Fields.{is_literal}
use Rattle.shape.proofs.Scan.{Scan, Flat, flat_seq, flat_pick, flat_child, flat_read, flat_last, flat_many, flat_head, flat_inside, flat_leaf}

-- a tag that a test gives
leaf-of : (x t : ℕ) {b : Bool} → is_leaf t ≡ b → eqb x t ≡ true → is_leaf x ≡ b
leaf-of x t e h = ap is_leaf (eqb-true x t h) ∙ e

-- a statement has children
stmt_inside : (h : Head) → stmt_head h ≡ true → is_leaf h.tag ≡ false
stmt_inside h g =
    let low = leb-true tag_expr_stmt h.tag (both_left (leb tag_expr_stmt h.tag) _ g) in
    let high = leb-true h.tag tag_return (both_right (leb tag_expr_stmt h.tag) _ g) in
    between (λ t. is_leaf t ≡ false) tag_expr_stmt 4 h.tag (refl, (refl, (refl, (refl, tt)))) low (omega arith)

-- of a boolean the content is one byte
one-byte : (h : Head) → tagged tag_boolean h ≡ true → expr_len h ≡ true → h.len ≡ 1
one-byte h t e = go h.tag h.len (eqb-true h.tag tag_boolean t) e
  where
    go : (t n : ℕ) → t ≡ tag_boolean → expr_len (record { tag = t; len = n }) ≡ true → n ≡ 1
    go t n i e = eqb-true n 1 (rw i at e)

module _ {byte : ℕ → ℕ} where
  module _ {f : ℕ → ℕ → Read Stmt} (F : (at end : ℕ) → Flat byte at (f at end)) where
    -- statements
    flat_stmts : (fuel at end : ℕ) → Flat byte at (stmts_of f fuel at end)
    flat_stmts = flat_many Stmts.no_stmts (λ x xs. Stmts.stmts x xs) F

  module _ {f : ℕ → ℕ → Read Expr} (F : (at end : ℕ) → Flat byte at (f at end)) where
    -- expressions
    flat_exprs : (fuel at end : ℕ) → Flat byte at (exprs_of f fuel at end)
    flat_exprs = flat_many Exprs.no_exprs (λ x xs. Exprs.exprs x xs) F

    -- a key and its value
    flat_pair : (parent at end : ℕ) → Flat byte at (pair_of f parent at end)
    flat_pair parent at end = flat_seq (F at end) (λ _ at₁. flat_seq (flat_child F parent at₁ end) (λ _ n. flat_read n))

    -- keys and values
    flat_pairs : (parent fuel at end : ℕ) → Flat byte at (pairs_of f parent fuel at end)
    flat_pairs parent = flat_many Exprs.no_exprs (λ x xs. Exprs.exprs x.0 (Exprs.exprs x.1 xs)) (flat_pair parent)

  -- an else, or none
  flat_else : {f : ℕ → ℕ → Read Stmts} → ((at end : ℕ) → Flat byte at (f at end)) → (at end : ℕ) → Flat byte at (else_of f at end)
  flat_else F at end = flat_pick (eqb at end) (λ _. flat_read at) (λ _. flat_seq (F at end) (λ b at₁. flat_last (Else.else b) at₁ end))

  -- a name
  flat_name : (least level at end : ℕ) → Flat byte at (read_name byte least level at end)
  flat_name least level at end =
      flat_head (name_head least) at end _ (λ g. let t = both_left (tagged tag_name (head byte at)) _ g in
      flat_leaf at level (at + 3 + (head byte at).len) _ none plain (leaf-of (byte at) tag_name refl t) (λ _. sym (ap is_literal (eqb-true (byte at) tag_name t))) refl)

  -- parameters
  flat_params : (level at end : ℕ) → Flat byte at (read_params byte level at end)
  flat_params level at end =
      flat_head (tagged tag_params) at end _ (λ g. flat_inside at level (leaf-of (byte at) tag_params refl g) (flat_many [] (λ x xs. x ∷ xs) (flat_name 1 (level + 1)) (head byte at).len (at + 3) (at + 3 + (head byte at).len)))

  -- a byte alone in its field
  flat_byte : {A : Type 0} (f : ℕ → A) (most : ℕ) (l : ℕ → Bool) (level at : ℕ) → is_leaf (byte at) ≡ true
      → ((i : ℕ) → l i ≡ is_literal (byte at)) → (head byte at).len ≡ 1
      → Flat byte at (after (at + 3) none plain (one_byte byte f most l level at (at + 3)))
  flat_byte {A} f most l level at e k h = go (leb (byte (at + 3)) most)
    where
      go : (b : Bool)
          → Flat byte at (after (at + 3) none plain (pick b (met level at (Read.ok (f (byte (at + 3))) (at + 3 + 1) none l)) (Read.wrong at none plain)))
      go true = flat_leaf at level (at + 3 + 1) (f (byte (at + 3))) none l e k (omega arith)
      go false = Flat.wrong

  -- an operator
  flat_operator : (level at end : ℕ) → Flat byte at (read_operator byte level at end)
  flat_operator level at end =
      flat_head operator_head at end _ (λ g. let t = both_left (tagged tag_operator (head byte at)) _ g in
      flat_byte (λ o. o) 9 plain level at (leaf-of (byte at) tag_operator refl t) (λ _. sym (ap is_literal (eqb-true (byte at) tag_operator t))) (eqb-true (head byte at).len 1 (both_right (tagged tag_operator (head byte at)) _ g)))

  module _ {e : ℕ → ℕ → Read Expr} (E : (at end : ℕ) → Flat byte at (e at end)) where
    module _ {b : ℕ → ℕ → Read Stmts} (B : (at end : ℕ) → Flat byte at (b at end)) (level at : ℕ) where
      abbrev start : ℕ
      start = at + 3

      abbrev long : ℕ
      long = (head byte at).len

      -- what a field of a tag holds
      abbrev Held : ℕ → Type 0
      Held t =
          (byte at ≡ t) → (t ≡ tag_boolean → ⊥) → Flat byte at (after (at + 3) none plain (met level at (expr_body byte (expr_tag t) e b level at start long)))

      -- an expression that is no boolean
      flat_expr_body : (t : ℕ) → tag_identifier ≤ t → t ≤ tag_macro → Held t
      flat_expr_body t low high =
          between Held tag_identifier 13 t
          -- Identifier, Prefix, Infix, If, Function
          (
            λ i _. flat_leaf at level (start + long) _ none plain (ap is_leaf i) (λ _. sym (ap is_literal i)) refl,
            (
              λ i _. flat_inside at level (ap is_leaf i) (flat_seq (flat_child (flat_operator (level + 1)) at start (start + long)) (λ o at₁. flat_seq (flat_child E at at₁ (start + long)) (λ x at₂. flat_last (Expr.prefix at o x) at₂ (start + long)))),
              (
                λ i _. flat_inside at level (ap is_leaf i)
                    (flat_seq (flat_child E at start (start + long)) (λ l at₁. flat_seq (flat_child (flat_operator (level + 1)) at at₁ (start + long)) (λ o at₂. flat_seq (flat_child E at at₂ (start + long)) (λ r at₃. flat_last (Expr.infixed at l o r) at₃ (start + long))))),
                (
                  λ i _. flat_inside at level (ap is_leaf i) (flat_seq (flat_child E at start (start + long)) (λ _ at₁. flat_seq (flat_child B at at₁ (start + long)) (λ _ at₂. flat_seq (flat_else B at₂ (start + long)) (λ _ at₃. flat_read at₃)))),
                  (
                    λ i _. flat_inside at level (ap is_leaf i)
                        (flat_seq (flat_child (flat_name 0 (level + 1)) at start (start + long)) (λ x at₁. flat_seq (flat_child (flat_params (level + 1)) at at₁ (start + long)) (λ xs at₂. flat_seq (flat_child B at at₂ (start + long)) (λ f at₃. flat_last (Expr.function at x xs f) at₃ (start + long))))),
                    -- Call, Integer, Boolean, String, Array
                    (
                      λ i _. flat_inside at level (ap is_leaf i) (flat_seq (flat_child E at start (start + long)) (λ _ at₁. flat_seq (flat_exprs E long at₁ (start + long)) (λ _ at₂. flat_read at₂))),
                      (
                        λ i _. flat_leaf at level (start + long) _ none literal (ap is_leaf i) (λ _. sym (ap is_literal i)) refl,
                        (
                          λ i no. absurd (no refl),
                          (
                            λ i _. flat_leaf at level (start + long) _ none literal (ap is_leaf i) (λ _. sym (ap is_literal i)) refl,
                            (
                              λ i _. flat_inside at level (ap is_leaf i) (flat_seq (flat_exprs E long start (start + long)) (λ _ at₁. flat_read at₁)),
                              -- Index, Hash, MacroLit
                              (
                                λ i _. flat_inside at level (ap is_leaf i) (flat_seq (flat_child E at start (start + long)) (λ x at₁. flat_seq (flat_child E at at₁ (start + long)) (λ y at₂. flat_last (Expr.index at x y) at₂ (start + long)))),
                                (
                                  λ i _. flat_inside at level (ap is_leaf i) (flat_seq (flat_pairs E at long start (start + long)) (λ _ at₁. flat_read at₁)),
                                  (
                                    λ i _. flat_inside at level (ap is_leaf i) (flat_seq (flat_child (flat_params (level + 1)) at start (start + long)) (λ _ at₁. flat_seq (flat_child B at at₁ (start + long)) (λ _ at₂. flat_last (Expr.macro at) at₂ (start + long)))),
                                    tt,
                                  ),
                                ),
                              ),
                            ),
                          ),
                        ),
                      ),
                    ),
                  ),
                ),
              ),
            ),
          ) low (omega arith)

      -- an expression
      flat_expr_field : (c : Bool) → tagged tag_boolean (head byte at) ≡ c → expr_head (head byte at) ≡ true
          → Flat byte at (after (at + 3) none plain (pick c (one_byte byte (λ b. Expr.boolean at b) 1 literal level at (at + 3)) (met level at (expr_body byte (expr_tag (byte at)) e b level at (at + 3) (head byte at).len))))
      flat_expr_field true t g =
          flat_byte (λ b. Expr.boolean at b) 1 literal level at (leaf-of (byte at) tag_boolean refl t) (λ _. sym (ap is_literal (eqb-true (byte at) tag_boolean t)))
          (one-byte (head byte at) t (both_right (both (leb tag_identifier (byte at)) (leb (byte at) tag_macro)) _ g))
      flat_expr_field false t g =
          let r = both_left (both (leb tag_identifier (byte at)) (leb (byte at) tag_macro)) _ g in
          flat_expr_body (byte at) (leb-true _ _ (both_left (leb tag_identifier (byte at)) _ r)) (leb-true _ _ (both_right (leb tag_identifier (byte at)) _ r)) refl (eqb-false (byte at) tag_boolean t)

    module _ {f : ℕ → ℕ → Read Stmt} (F : (at end : ℕ) → Flat byte at (f at end)) where
      -- what a statement holds
      flat_stmt_body : (x : StmtTag) (level at in₀ n : ℕ) → Flat byte in₀ (stmt_body byte x f e level at in₀ n)
      flat_stmt_body StmtTag.expr_stmt_tag level at in₀ n =
          flat_seq (flat_child E at in₀ (in₀ + n)) (λ x at₁. flat_last (Stmt.expr_stmt at x) at₁ (in₀ + n))
      flat_stmt_body StmtTag.block_tag level at in₀ n = flat_seq (flat_stmts F n in₀ (in₀ + n)) (λ _ at₁. flat_read at₁)
      flat_stmt_body StmtTag.let_tag level at in₀ n =
          flat_seq (flat_child (flat_name 1 (level + 1)) at in₀ (in₀ + n)) (λ x at₁. flat_seq (flat_child E at at₁ (in₀ + n)) (λ v at₂. flat_last (Stmt.let_stmt at x v) at₂ (in₀ + n)))
      flat_stmt_body StmtTag.return_tag level at in₀ n =
          flat_seq (flat_child E at in₀ (in₀ + n)) (λ x at₁. flat_last (Stmt.return_stmt at x) at₁ (in₀ + n))

  -- by the fuel
  mutual
    unfolding read_stmt

    -- a statement
    flat_stmt : (fuel level at end : ℕ) → Flat byte at (read_stmt byte fuel level at end)
    flat_stmt zero level at end = Flat.wrong
    flat_stmt (suc fuel) level at end =
        flat_head stmt_head at end _ (λ g. flat_inside at level (stmt_inside (head byte at) g)
        (flat_stmt_body (λ a z. flat_expr fuel (level + 1) a z) (λ a z. flat_stmt fuel (level + 1) a z) (stmt_tag (byte at)) level at (at + 3) (head byte at).len))

    -- a block
    flat_block : (fuel level at end : ℕ) → Flat byte at (read_block byte fuel level at end)
    flat_block zero level at end = Flat.wrong
    flat_block (suc fuel) level at end =
        flat_head (tagged tag_block) at end _ (λ g. flat_inside at level (leaf-of (byte at) tag_block refl g) (flat_stmts (λ a z. flat_stmt fuel (level + 1) a z) (head byte at).len (at + 3) (at + 3 + (head byte at).len)))

    -- an expression
    flat_expr : (fuel level at end : ℕ) → Flat byte at (read_expr byte fuel level at end)
    flat_expr zero level at end = Flat.wrong
    flat_expr (suc fuel) level at end =
        flat_head expr_head at end _ (λ g. flat_expr_field (λ a z. flat_expr fuel (level + 1) a z) (λ a z. flat_block fuel (level + 1) a z) level at (tagged tag_boolean (head byte at)) refl g)

  -- a program
  flat_program : (n : ℕ) → Flat byte 0 (read_program byte n)
  unfolding read_program
  flat_program n =
      flat_pick (leb n tree_limit)
      (λ _. flat_head (λ h. both (tagged tag_program h) (eqb (3 + h.len) n)) 0 n _ (λ g.
      enter (leaf-of (byte 0) tag_program refl (both_left (tagged tag_program (head byte 0)) _ g)) (flat_stmts (λ a z. flat_stmt n 2 a z) (head byte 0).len 3 n)))
      (λ _. Flat.wrong)
    where
      -- whatever is too deep
      unmet : {a : Stmts} {m : ℕ} {d d' : Option ℕ} {l : ℕ → Bool} → Flat byte 0 (Read.ok a m d l) → Flat byte 0 (Read.ok a m d' l)
      unmet (Flat.right s) = Flat.right s

      enter : {z : Read Stmts} → is_leaf (byte 0) ≡ false → Flat byte 3 z → Flat byte 0 (after 3 none plain z)
      enter e (Flat.right {a = a} {n = m} {l = l} s) = unmet (flat_inside 0 1 {z = Read.ok a m none l} e (Flat.right s))
      enter e Flat.wrong = Flat.wrong

-- what is read up to an end ends there
data EndsAt {A : Type 0} (end : ℕ) : Read A → Type 0 where
  right : {a : A} {n : ℕ} {d : Option ℕ} {l : ℕ → Bool} → n ≡ end → EndsAt end (Read.ok a n d l)
  wrong : {p : ℕ} {d : Option ℕ} {l : ℕ → Bool} → EndsAt end (Read.wrong p d l)

ends_seq : {A B : Type 0} {end : ℕ} (x : Read A) {k : A → ℕ → Read B} → ((a : A) (n : ℕ) → EndsAt end (k a n)) → EndsAt end (seq x k)
ends_seq {B = B} {end} (Read.ok a n d l) {k} f = go (f a n)
  where
    go : {z : Read B} → EndsAt end z → EndsAt end (after n d l z)
    go (EndsAt.right e) = EndsAt.right e
    go EndsAt.wrong = EndsAt.wrong
ends_seq (Read.wrong p d l) f = EndsAt.wrong

-- then nothing is read
ends_map : {A B : Type 0} {end : ℕ} {x : Read A} (g : A → B) → EndsAt end x → EndsAt end (seq x (λ a n. Read.ok (g a) n none plain))
ends_map g (EndsAt.right e) = EndsAt.right e
ends_map g EndsAt.wrong = EndsAt.wrong

ends_last : {A : Type 0} (a : A) (at end : ℕ) → EndsAt end (last a at end)
ends_last a at end = chosen (EndsAt end) (eqb at end) (λ e. EndsAt.right (eqb-true at end e)) (λ _. EndsAt.wrong)

ends_many : {A B : Type 0} (nil : B) (cons : A → B → B) (f : ℕ → ℕ → Read A) (fuel at end : ℕ) → EndsAt end (many nil cons f fuel at end)
ends_many nil cons f zero at end = ends_last nil at end
ends_many nil cons f (suc fuel) at end =
    chosen (EndsAt end) (eqb at end) (λ e. EndsAt.right (eqb-true at end e)) (λ _. ends_seq (f at end) (λ x at₁. ends_map (cons x) (ends_many nil cons f fuel at₁ end)))

ends_program : (byte : ℕ → ℕ) (n : ℕ) → EndsAt n (read_program byte n)
unfolding read_program
ends_program byte n =
    chosen (EndsAt n) (leb n tree_limit)
    (λ _. ends_seq (head_at byte (λ h. both (tagged tag_program h) (eqb (3 + h.len) n)) 0 n) (λ h in₀. ends_many Stmts.no_stmts (λ x xs. Stmts.stmts x xs) (λ a z. read_stmt byte n 2 a z) h.len in₀ n))
    (λ _. EndsAt.wrong)

-- which bytes of a tree are literals
abbrev pub lits : Bytes → ℕ → Bool
lits tree = literals (read_program (byte_at tree) (length tree))

-- a tree that is read is a row of fields as long as it
pub scan_tree : (tree : Bytes) {b : Stmts} {n : ℕ} → read_tree tree ≡ Parsed.parsed b n → Scan (byte_at tree) (lits tree) 0 (length tree)
unfolding read_tree
scan_tree tree {b} {n = m} h = go (flat_program (length tree)) (ends_program (byte_at tree) (length tree)) h
  where
    go : {x : Read Stmts} → Flat (byte_at tree) 0 x → EndsAt (length tree) x → judged x ≡ Parsed.parsed b m
        → Scan (byte_at tree) (literals x) 0 (length tree)
    go (Flat.right {l = l} s) (EndsAt.right e) h = subst (λ n. Scan (byte_at tree) l 0 n) e s
    go (Flat.wrong {d = none}) EndsAt.wrong h = let z : ◌≡◌ {A = ℕ} 0 1 = cc in absurd (omega arith)
    go (Flat.wrong {d = some q}) EndsAt.wrong h = let z : ◌≡◌ {A = ℕ} 0 1 = cc in absurd (omega arith)
