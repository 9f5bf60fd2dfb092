-- The check of a tree is the definition's verdict on it.
use Prim.Native.Nat.{ℕ, zero, suc, ◌+◌, ◌-◌, ◌≤◌}
use native.Mathlib.Omega.{arith}
use mathlib.Core.Bool.{Bool, true, false}
use mathlib.Core.Option.{none}
use mathlib.Core.Path.{◌≡◌, refl, sym, ◌∙◌}
use lib.ListN.{length}
use lib.Dec.{leb, eqb}
use borrow.Author.Tests.{leb-true, le-leb, lt-leb, eq-eqb, eqb-true, eqb-false}
use Rattle.definition.specs.Basic.{Bytes, byte_at, pick, both}
use Rattle.definition.specs.Limit.{tree_limit}
use Rattle.definition.specs.Tag.{tag_expr_stmt, tag_block, tag_return, tag_identifier, tag_boolean, tag_macro, tag_name, tag_params, tag_operator, tag_program}
use Rattle.definition.specs.Syntax.{Expr}
use Rattle.definition.specs.Field.{Head, tagged, fits, bytes, head}
use Rattle.definition.specs.Tree.{Read, seq, read, fault, literal, plain, met, expr_tag, stmt_tag, expr_len, stmts_of, names_of, head_at, one_byte, read_name, read_operator, read_params, expr_body, stmt_body, read_stmt, read_block, read_expr, read_program, read_tree, judged}
use Rattle.definition.proofs.Basic.{both_true}
use Rattle.tree.specs.Grammar.{Kind, Statement, Block, Expression, Name, Params, Operator, Nothing, good_head, good_own}
use Rattle.tree.specs.Check.{Checked, Good, verdict, bad_tree, next, check_children, check_content, check_inside, check_field, check_all}
use Rattle.tree.proofs.Agrees.{Agrees, agrees_good, agrees_fault, agrees_within, agrees_read, agrees_verdict, Inside, deep, room, agrees_met, agrees_field}
use Rattle.tree.proofs.Checking.{Reads}
use Rattle.tree.proofs.Numbered.{own_other}
use Rattle.tree.proofs.Bodies.{Readers, whole, params_inside, stmts_inside, stmt_inside, expr_inside}

-- what a tree's head must be
abbrev program_head : ℕ → Head → Bool
program_head n h = both (tagged tag_program h) (eqb (3 + h.len) n)

module _ (byte : ℕ → ℕ) where
  -- the check of fields with so many levels left
  abbrev fields : ℕ → Kind → ℕ → ℕ → Checked
  fields levels kind at end = check_field byte levels kind at end

  -- what is inside a field, by the levels left
  inside : {A : Type 0} {x : Read A} (levels level at end : ℕ) → level + levels ≡ 65 → next byte at ≤ end
      → ((l : ℕ) → level + 1 + l ≡ 65 → Agrees (next byte at) (next byte at) x (check_content byte (fields l) (byte at) at))
      → Inside level at (next byte at) end x (check_inside byte levels at)
  unfolding check_inside check_field
  inside zero level at end e fit f = deep (omega arith)
  inside (suc l) level at end e fit f = room (omega arith) (agrees_within fit (f l (omega arith)))

  -- a field without tested bytes
  plain-field : {A : Type 0} (kind : Kind) (x : Head → ℕ → Read A) (levels level at end : ℕ) → level + levels ≡ 65
      → (good_head kind (head byte at) ≡ true → (byte at ≡ tag_boolean → ⊥) × (byte at ≡ tag_operator → ⊥))
      → (next byte at ≤ end → good_head kind (head byte at) ≡ true → (l : ℕ) → level + 1 + l ≡ 65 → Agrees (next byte at) (next byte at) (x (head byte at) (at + 3)) (check_content byte (fields l) (byte at) at))
      → Agrees (next byte at) end (seq (head_at byte (good_head kind) at end) (λ h in₀. met level at (x h in₀))) (check_field byte levels kind at end)
  unfolding check_field
  plain-field kind x levels level at end e tags f =
      agrees_field byte kind at end (check_inside byte levels at)
      (λ h in₀ eh ei fit g. rw (eh, ei, own_other (byte at) (byte (at + 3)) (tags g).0 (tags g).1) (agrees_met (inside levels level at end e fit (f fit g))))

  -- names
  names : (least levels level from end : ℕ) → level + levels ≡ 65 → Reads byte (fields levels) from end (Name least) (read_name byte least level)
  names least levels level from end e =
      record {
        each = λ at _.
            plain-field (Name least) (λ h in₀. read (bytes byte in₀ h.len) (in₀ + h.len)) levels level at end e
            (λ g. let t = tag at g in (λ z. omega arith, λ z. omega arith))
            (λ _ g l e₁. rw (tag at g) (agrees_good refl (omega arith)));
      }
    where
      tag : (at : ℕ) → good_head (Name least) (head byte at) ≡ true → byte at ≡ tag_name
      tag at g = eqb-true (byte at) tag_name (both_true (tagged tag_name (head byte at)) _ g).0

  -- parameters
  parameters : (levels level from end : ℕ) → level + levels ≡ 65 → Reads byte (fields levels) from end Params (read_params byte level)
  parameters levels level from end e =
      record {
        each = λ at _.
            plain-field Params (λ h in₀. names_of (read_name byte 1 (level + 1)) h.len in₀ (in₀ + h.len)) levels level at end e
            (λ g. let t = tag at g in (λ z. omega arith, λ z. omega arith))
            (λ _ g l e₁. rw (tag at g) (params_inside level at (at + 3) (head byte at).len (names 1 l (level + 1) (at + 3) (next byte at) e₁)));
      }
    where
      tag : (at : ℕ) → good_head Params (head byte at) ≡ true → byte at ≡ tag_params
      tag at g = eqb-true (byte at) tag_params g

  -- a byte alone in a field without children
  one-byte : {A : Type 0} (f : ℕ → A) (most : ℕ) (l : ℕ → Bool) (levels level at end : ℕ) → level + levels ≡ 65 → next byte at ≤ end → (head byte at).len ≡ 1
      → ((c : Kind → ℕ → ℕ → Checked) → check_content byte c (byte at) at ≡ Good) → good_own (byte at) (byte (at + 3)) ≡ leb (byte (at + 3)) most
      → Agrees (next byte at) end (one_byte byte f most l level at (at + 3)) (pick (good_own (byte at) (byte (at + 3))) (check_inside byte levels at) (bad_tree at))
  one-byte f most l levels level at end e fit one leaf own = rw own (by (leb (byte (at + 3)) most))
    where
      by : (b : Bool) → Agrees (next byte at) end (pick b (met level at (Read.ok (f (byte (at + 3))) (at + 3 + 1) none l)) (fault at)) (pick b (check_inside byte levels at) (bad_tree at))
      by true = agrees_met {x = Read.ok (f (byte (at + 3))) (at + 3 + 1) none l} (inside levels level at end e fit (λ i e₁. rw (leaf (fields i)) (agrees_good (omega arith) (omega arith))))
      by false = agrees_fault at

  -- operators
  operators : (levels level from end : ℕ) → level + levels ≡ 65 → Reads byte (fields levels) from end Operator (read_operator byte level)
  unfolding check_field
  operators levels level from end e =
      record {
        each = λ at _.
            agrees_field byte Operator at end (check_inside byte levels at)
            (λ h in₀ eh ei fit g.
            let both₁ = both_true (tagged tag_operator (head byte at)) (eqb (head byte at).len 1) g in
            let t = eqb-true (byte at) tag_operator both₁.0 in
            rw ei (one-byte (λ o. o) 9 plain levels level at end e fit (eqb-true _ _ both₁.1) (λ c. rw t) (rw t)));
      }

  -- a boolean's byte
  own_boolean : (first : ℕ) → good_own tag_boolean first ≡ leb first 1
  own_boolean first = by (leb first 1)
    where
      by : (b : Bool) → both b true ≡ b
      by true = refl
      by false = refl

  -- nothing
  nothings : (levels i end : ℕ) → check_field byte levels Nothing i end ≡ bad_tree i
  unfolding check_field
  nothings levels i end = by (fits i end (head byte i))
    where
      by : (b : Bool) → pick (both b false) (check_inside byte levels i) (bad_tree i) ≡ bad_tree i
      by true = refl
      by false = refl

  -- a field does not fit where nothing is left
  no-room : (kind : Kind) (levels at end : ℕ) → end ≤ at → check_field byte levels kind at end ≡ bad_tree at
  unfolding check_field
  no-room kind levels at end h = rw (lt-leb (at + 3) end (omega arith))

  module _ (fuel levels level at end : ℕ) (e : level + levels ≡ 65)
      (R : next byte at ≤ end → (l : ℕ) → level + 1 + l ≡ 65 → Readers byte (fields l) (level + 1) (at + 3) (next byte at) (λ a z. read_stmt byte fuel (level + 1) a z) (λ a z. read_block byte fuel (level + 1) a z) (λ a z. read_expr byte fuel (level + 1) a z)) where
    -- a statement
    stmt_field : Agrees (next byte at) end (read_stmt byte (suc fuel) level at end) (check_field byte levels Statement at end)
    unfolding read_stmt
    stmt_field =
        plain-field Statement (λ h in₀. stmt_body byte (stmt_tag h.tag) (λ a z. read_stmt byte fuel (level + 1) a z) (λ a z. read_expr byte fuel (level + 1) a z) level at in₀ h.len) levels level at end e
        (λ g. let low = (tags g).0 in let high = (tags g).1 in (λ z. omega arith, λ z. omega arith))
        (λ fit g l e₁. stmt_inside level at (at + 3) (head byte at).len (R fit l e₁) (byte at) (tags g).0 (tags g).1)
      where
        tags : good_head Statement (head byte at) ≡ true → (tag_expr_stmt ≤ byte at) × (byte at ≤ tag_return)
        tags g = let both₁ = both_true (leb tag_expr_stmt (byte at)) (leb (byte at) tag_return) g in (leb-true _ _ both₁.0, leb-true _ _ both₁.1)

    -- a block
    block-field : Agrees (next byte at) end (read_block byte (suc fuel) level at end) (check_field byte levels Block at end)
    unfolding read_stmt
    block-field =
        plain-field Block (λ h in₀. stmts_of (λ a z. read_stmt byte fuel (level + 1) a z) h.len in₀ (in₀ + h.len)) levels level at end e
        (λ g. let t = tag g in (λ z. omega arith, λ z. omega arith))
        (λ fit g l e₁. rw (tag g) (whole (head byte at).len refl (stmts_inside level at (at + 3) (head byte at).len (R fit l e₁) (λ j. refl) refl (omega arith))))
      where
        tag : good_head Block (head byte at) ≡ true → byte at ≡ tag_block
        tag g = eqb-true (byte at) tag_block g

    -- an expression
    expr_field : Agrees (next byte at) end (read_expr byte (suc fuel) level at end) (check_field byte levels Expression at end)
    unfolding read_stmt check_field
    expr_field = agrees_field byte Expression at end (check_inside byte levels at) (λ h in₀ eh ei fit g. rw (eh, ei) (by fit g (eqb (byte at) tag_boolean) refl))
      where
        body : Read Expr
        body = expr_body byte (expr_tag (byte at)) (λ a z. read_expr byte fuel (level + 1) a z) (λ a z. read_block byte fuel (level + 1) a z) level at (at + 3) (head byte at).len

        by : next byte at ≤ end → good_head Expression (head byte at) ≡ true → (b : Bool) → eqb (byte at) tag_boolean ≡ b
            → Agrees (next byte at) end (pick b (one_byte byte (λ b. Expr.boolean at b) 1 literal level at (at + 3)) (met level at body)) (pick (good_own (byte at) (byte (at + 3))) (check_inside byte levels at) (bad_tree at))
        by fit g true eb =
            let t = eqb-true (byte at) tag_boolean eb in
            let one : eqb (head byte at).len 1 ≡ true = rw t at (both_true (both (leb tag_identifier (byte at)) (leb (byte at) tag_macro)) (expr_len (head byte at)) g).1 in
            one-byte (λ b. Expr.boolean at b) 1 literal levels level at end e fit (eqb-true _ _ one) (λ c. rw t) (rw t (own_boolean (byte (at + 3))))
        by fit g false eb =
            let tags = both_true (leb tag_identifier (byte at)) (leb (byte at) tag_macro) (both_true (both (leb tag_identifier (byte at)) (leb (byte at) tag_macro)) (expr_len (head byte at)) g).0 in
            let low = leb-true tag_identifier (byte at) tags.0 in
            let high = leb-true (byte at) tag_macro tags.1 in
            let no = eqb-false (byte at) tag_boolean eb in
            rw (own_other (byte at) (byte (at + 3)) no (λ z. omega arith)) (agrees_met {x = body} (inside levels level at end e fit (λ l e₁. expr_inside level at (at + 3) (head byte at).len (R fit l e₁) (byte at) low high no)))

  -- the readers of the definition, with fuel for the bytes that are left, agree with the check with so many levels left
  readers : (fuel levels level from end : ℕ) → level + levels ≡ 65 → end ≤ from + fuel
      → Readers byte (fields levels) level from end (λ a z. read_stmt byte fuel level a z) (λ a z. read_block byte fuel level a z) (λ a z. read_expr byte fuel level a z)
  unfolding read_stmt
  readers zero levels level from end e h =
      record {
        stmt = record { each = λ at l. rw (no-room Statement levels at end (omega arith)) (agrees_fault at) };
        block = record { each = λ at l. rw (no-room Block levels at end (omega arith)) (agrees_fault at) };
        expr = record { each = λ at l. rw (no-room Expression levels at end (omega arith)) (agrees_fault at) };
        name = λ least. names least levels level from end e;
        params = parameters levels level from end e;
        operator = operators levels level from end e;
        nothing = λ i. nothings levels i end;
      }
  readers (suc fuel) levels level from end e h =
      record {
        stmt = record { each = λ at l. stmt_field fuel levels level at end e (λ fit l₁ e₁. readers fuel l₁ (level + 1) (at + 3) (next byte at) e₁ (omega arith)) };
        block = record { each = λ at l. block-field fuel levels level at end e (λ fit l₁ e₁. readers fuel l₁ (level + 1) (at + 3) (next byte at) e₁ (omega arith)) };
        expr = record { each = λ at l. expr_field fuel levels level at end e (λ fit l₁ e₁. readers fuel l₁ (level + 1) (at + 3) (next byte at) e₁ (omega arith)) };
        name = λ least. names least levels level from end e;
        params = parameters levels level from end e;
        operator = operators levels level from end e;
        nothing = λ i. nothings levels i end;
      }

  -- a tree whose head is good, and its statements
  statements : (n : ℕ) → next byte 0 ≡ n → Agrees n n (stmts_of (λ a z. read_stmt byte n 2 a z) (head byte 0).len 3 n) (check_children byte (fields 63) tag_program 0 (head byte 0).len 0 3 n)
  statements n e = rw (sym e) (whole (head byte 0).len refl (stmts_inside 1 0 3 (head byte 0).len (readers (next byte 0) 63 2 3 (next byte 0) refl (omega arith)) (λ j. refl) refl (omega arith)))

  -- the verdict by the tests of a tree's length and head
  by_head : (n : ℕ) → verdict (judged (read_program byte n))
      ≡ pick (leb n tree_limit) (pick (both (fits 0 n (head byte 0)) (program_head n (head byte 0))) (check_children byte (fields 63) tag_program 0 (head byte 0).len 0 3 n) (bad_tree 0)) (bad_tree 0)
  unfolding read_program
  by_head n = by (leb n tree_limit) (both (fits 0 n h) (program_head n h)) refl
    where
      h : Head
      h = head byte 0

      by : (a b : Bool) → both (fits 0 n h) (program_head n h) ≡ b
          → verdict (judged (pick a (seq (pick b (read h 3) (fault 0)) (λ h in₀. stmts_of (λ a z. read_stmt byte n 2 a z) h.len in₀ n)) (fault 0)))
          ≡ pick a (pick b (check_children byte (fields 63) tag_program 0 h.len 0 3 n) (bad_tree 0)) (bad_tree 0)
      by false b e = refl
      by true false e = refl
      by true true e =
          let len = eqb-true (3 + h.len) n (both_true (tagged tag_program h) (eqb (3 + h.len) n) (both_true (fits 0 n h) (program_head n h) e).1).1 in
          sym (agrees_verdict (agrees_read {a = h} (λ (h : Head) in₀. stmts_of (λ a z. read_stmt byte n 2 a z) h.len in₀ n) (statements n len)))

-- a tree of a good length whose head is good: the check of its children is the verdict
pub program_good : (tree : Bytes) → 3 ≤ length tree → length tree ≤ tree_limit → byte_at tree 0 ≡ tag_program → next (byte_at tree) 0 ≡ length tree
    → check_all (byte_at tree) 63 0 (length tree) ≡ verdict (read_tree tree)
unfolding read_tree
program_good tree short long t len =
    let n : length tree - 3 ≡ (head (byte_at tree) 0).len = omega arith in
    rw (t, n, by_head (byte_at tree) (length tree), le-leb (length tree) tree_limit long, le-leb 3 (length tree) short, le-leb (next (byte_at tree) 0) (length tree) (omega arith), t, eq-eqb (next (byte_at tree) 0) (length tree) len)

-- any other is refused at Program
pub program_bad : (tree : Bytes) → (3 ≤ length tree → length tree ≤ tree_limit → byte_at tree 0 ≡ tag_program → next (byte_at tree) 0 ≡ length tree → ⊥) → bad_tree 0 ≡ verdict (read_tree tree)
unfolding read_tree
program_bad tree never =
    by _ (leb (length tree) tree_limit) (both (fits 0 (length tree) h) (program_head (length tree) h)) (λ long test.
    let fit = both_true (fits 0 (length tree) h) (program_head (length tree) h) test in
    let good = both_true (tagged tag_program h) (eqb (3 + h.len) (length tree)) fit.1 in
    never (leb-true 3 (length tree) (both_true (leb 3 (length tree)) _ fit.0).0) (leb-true (length tree) tree_limit long) (eqb-true h.tag tag_program good.0) (eqb-true (3 + h.len) (length tree) good.1))
    ∙ sym (by_head (byte_at tree) (length tree))
  where
    h : Head
    h = head (byte_at tree) 0

    by : (c : Checked) (a b : Bool) → (a ≡ true → b ≡ true → ⊥) → bad_tree 0 ≡ pick a (pick b c (bad_tree 0)) (bad_tree 0)
    by c true true f = absurd (f refl refl)
    by c true false f = refl
    by c false b f = refl
