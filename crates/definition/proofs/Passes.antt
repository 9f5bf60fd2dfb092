-- A good tree passes the tree check, apart from its levels.
use Rattle.std.proofs.Common.{◌≡◌, ℕ, zero, suc, ◌+◌, ◌≤◌, Bool, true, false, eqb, leb, [], ◌∷◌, ◌++◌, length, refl, append-nil, arith, length-append, eq-eqb, le-leb, leb-false, leb-true}
use mathlib.Core.Option.{none, some}
use Rattle.definition.specs.Basic.{Bytes, byte_at, pick, both}
use Rattle.definition.specs.Limit.{tree_limit, level_limit, name_limit}
use Rattle.definition.specs.Number
use Rattle.definition.specs.Number.{refusal}
use Rattle.definition.specs.Tag.{tag_program, tag_expr_stmt, tag_block, tag_let, tag_return, tag_identifier, tag_prefix, tag_infix, tag_if, tag_function, tag_call, tag_integer, tag_boolean, tag_string, tag_array, tag_index, tag_hash, tag_name, tag_params, tag_operator}
use Rattle.definition.specs.Syntax.{Stmts, Exprs}
use Rattle.definition.specs.Field.{field, tagged, name_head}
use Rattle.definition.specs.Tree.{Read, expr_head, stmt_head, operator_head, expr_tag, stmt_tag, expr_body, stmt_body, read_name, read_operator, read_params, read_expr, read_block, read_stmt, read_program, read_tree, Parsed, judged}
use Rattle.definition.proofs.Basic.{both_intro}
use Rattle.definition.proofs.Bytes.{stands_head, stands_self}
use Rattle.definition.proofs.Fields.{head_of}
use Rattle.definition.specs.Node
use Rattle.definition.specs.Node.{Node, leaf, node, Nodes, ◌then◌, one, operator, written, written_all, levels, levels_all, larger}
use Rattle.definition.specs.Good.{GoodNames, GoodStatement, GoodStatements, GoodBlock, GoodExpression, GoodExpressions, GoodPairs}
use Rattle.definition.proofs.Ends.{Ends, ends_plain, ends_seq, ends_met, ends_for, Left, Takes, TakesAll, TakesPairs, left_content, left_inside, ends_part, ends_last, ends_head, ends_many, ends_pairs, ends_no_else, ends_else}

-- fields of so many levels from a level on: none is too deep
abbrev Fits : ℕ → ℕ → Type 0
Fits level n = level + n ≤ suc level_limit

-- one of two and the other
larger_left : (m n : ℕ) → m ≤ larger m n
larger_left m n = go (leb m n) refl
  where
    go : (b : Bool) → leb m n ≡ b → m ≤ pick b n m
    go true e = leb-true m n e
    go false e = omega arith

larger_right : (m n : ℕ) → n ≤ larger m n
larger_right m n = go (leb m n) refl
  where
    go : (b : Bool) → leb m n ≡ b → n ≤ pick b n m
    go true e = omega arith
    go false e = omega (arith, leb-false m n e)

-- a field's content is within, its parts, and the content of what follows
inside : (level t : ℕ) (xs : Nodes) → Fits level (levels (node t xs)) → Fits (level + 1) (levels_all xs)
unfolding levels
inside level t xs h = omega arith

first_fits : (level : ℕ) (x : Node) (xs : Nodes) → Fits level (levels_all (x then xs)) → Fits level (levels x)
unfolding levels
first_fits level x xs h = omega (arith, larger_left (levels x) (levels_all xs))

rest-fits : (level : ℕ) (x : Node) (xs : Nodes) → Fits level (levels_all (x then xs)) → Fits level (levels_all xs)
unfolding levels
rest-fits level x xs h = omega (arith, larger_right (levels x) (levels_all xs))

-- the first, second and third field of a content
part_1 : (level t : ℕ) (x : Node) (xs : Nodes) → Fits level (levels (node t (x then xs))) → Fits (level + 1) (levels x)
part_1 level t x xs h = first_fits (level + 1) x xs (inside level t (x then xs) h)

part_2 : (level t : ℕ) (x y : Node) (xs : Nodes) → Fits level (levels (node t (x then y then xs))) → Fits (level + 1) (levels y)
part_2 level t x y xs h = first_fits (level + 1) y xs (rest-fits (level + 1) x (y then xs) (inside level t (x then y then xs) h))

part_3 : (level t : ℕ) (x y z : Node) (xs : Nodes) → Fits level (levels (node t (x then y then z then xs))) → Fits (level + 1) (levels z)
part_3 level t x y z xs h = first_fits (level + 1) z xs (rest-fits (level + 1) y (z then xs) (rest-fits (level + 1) x (y then z then xs) (inside level t (x then y then z then xs) h)))

-- and the field itself
field_fits : (level t : ℕ) (xs : Nodes) → Fits level (levels (node t xs)) → level ≤ level_limit
unfolding levels
field_fits level t xs h = omega arith

-- where Q holds, P does
takes_for : {A : Type 0} {P Q : Type 0} {byte : ℕ → ℕ} {g : ℕ} {f : ℕ → ℕ → Read A} {x : Node} → (Q → P) → Takes P byte g f x → Takes Q byte g f x
takes_for h t = record { takes = λ at end rest l. ends_for refl h (t.takes at end rest l) }

takes_all_for : {A : Type 0} {P Q : Type 0} {byte : ℕ → ℕ} {g : ℕ} {f : ℕ → ℕ → Read A} {xs : Nodes} → (Q → P) → TakesAll P byte g f xs → TakesAll Q byte g f xs
takes_all_for h TakesAll.nothing = TakesAll.nothing
takes_all_for h (TakesAll.another t ts) = TakesAll.another (takes_for h t) (takes_all_for h ts)

takes-pairs_for : {A : Type 0} {P Q : Type 0} {byte : ℕ → ℕ} {g : ℕ} {f : ℕ → ℕ → Read A} {xs : Nodes} → (Q → P) → TakesPairs P byte g f xs → TakesPairs Q byte g f xs
takes-pairs_for h TakesPairs.no_pairs = TakesPairs.no_pairs
takes-pairs_for h (TakesPairs.pair t u ts) = TakesPairs.pair (takes_for h t) (takes_for h u) (takes-pairs_for h ts)

module _ (byte : ℕ → ℕ) where
  -- a name
  take_name : (least level g : ℕ) (n : Bytes) → least ≤ length n → length n ≤ name_limit → Takes (Fits level 1) byte g (read_name byte least level) (leaf tag_name n)
  unfolding written
  take_name least level g n h k =
      record {
        takes =
            λ at end rest l. ends_for (omega arith) (λ p. p)
            (ends_head (name_head least) _ at end tag_name n rest (both_intro (le-leb least (length n) h) (le-leb (length n) name_limit k)) l (ends_met level at (λ p. omega arith) ends_plain));
      }

  -- an operator
  take-operator : (level g o : ℕ) → o ≤ 9 → Takes (Fits level 1) byte g (read_operator byte level) (operator o)
  unfolding written
  take-operator level g o h =
      record {
        takes =
            λ at end rest l.
            let e : byte (at + 3) ≡ o = stands_head (left_inside tag_operator (o ∷ []) rest l).stands in
            ends_for {n = at + 3 + 1} (omega arith) (λ p. p)
            (ends_head operator_head _ at end tag_operator (o ∷ []) rest refl l (rw (e, le-leb o 9 h) (ends_met level at (λ p. omega arith) ends_plain)));
      }

  -- names
  all_names : {xs : Nodes} → GoodNames xs → (level g : ℕ) → TakesAll (Fits level (levels_all xs)) byte g (read_name byte 1 level) xs
  unfolding levels
  all_names GoodNames.no_names level g = TakesAll.nothing
  all_names (GoodNames.names {n} {xs} k ns) level g =
      TakesAll.another (takes_for (first_fits level (leaf tag_name n) xs) (take_name 1 level g n k.least k.most)) (takes_all_for (rest-fits level (leaf tag_name n) xs) (all_names ns level g))

  -- parameters
  take_params : {xs : Nodes} → GoodNames xs → (level g : ℕ) → Takes (Fits level (levels (node tag_params xs))) byte g (read_params byte level) (node tag_params xs)
  unfolding written
  take_params {xs} ns level g =
      record {
        takes =
            λ at end rest l. ends_for {n = at + 3 + length (written_all xs)} (omega arith) (λ p. p)
            (ends_head (tagged tag_params) _ at end tag_params (written_all xs) rest refl l
            (ends_met level at (field_fits level tag_params xs)
            (ends_many [] (λ x xs. x ∷ xs) (takes_all_for (inside level tag_params xs) (all_names ns (level + 1) (length (written_all xs)))) (length (written_all xs)) (at + 3) (at + 3 + length (written_all xs)) (left_inside tag_params (written_all xs) rest l) (omega arith))));
      }

  -- an expression's field, by what is inside
  expr_at : {P : Type 0} (fuel level at end t : ℕ) (c rest : Bytes) → expr_head (head_of t c) ≡ true → eqb t tag_boolean ≡ false → (P → level ≤ level_limit) → Left byte fuel at (field t c ++ rest) end
      → ((g : ℕ) → Left byte g (at + 3) c (at + 3 + length c) → Ends P (at + 3 + length c) (expr_body byte (expr_tag t) (λ a z. read_expr byte g (level + 1) a z) (λ a z. read_block byte g (level + 1) a z) level at (at + 3) (length c)))
      → Ends P (at + length (field t c)) (read_expr byte fuel level at end)
  unfolding read_expr
  expr_at zero level at end t c rest e n h l f = let z : ⊥ = omega (arith, l.upto, l.fuel, length-append (field t c) rest) in absurd z
  expr_at (suc g) level at end t c rest e n h l f =
      ends_for {n = at + 3 + length c} (omega arith) (λ p. p) (ends_head expr_head _ at end t c rest e l (rw n (ends_met level at h (f g (left_content t c rest l)))))

  -- a statement's
  stmt_at : {P : Type 0} (fuel level at end t : ℕ) (c rest : Bytes) → stmt_head (head_of t c) ≡ true → (P → level ≤ level_limit) → Left byte fuel at (field t c ++ rest) end
      → ((g : ℕ) → Left byte g (at + 3) c (at + 3 + length c) → Ends P (at + 3 + length c) (stmt_body byte (stmt_tag t) (λ a z. read_stmt byte g (level + 1) a z) (λ a z. read_expr byte g (level + 1) a z) level at (at + 3) (length c)))
      → Ends P (at + length (field t c)) (read_stmt byte fuel level at end)
  unfolding read_expr
  stmt_at zero level at end t c rest e h l f = let z : ⊥ = omega (arith, l.upto, l.fuel, length-append (field t c) rest) in absurd z
  stmt_at (suc g) level at end t c rest e h l f = ends_for {n = at + 3 + length c} (omega arith) (λ p. p) (ends_head stmt_head _ at end t c rest e l (ends_met level at h (f g (left_content t c rest l))))

  -- a block's
  block_at : {P : Type 0} (fuel level at end : ℕ) {xs : Nodes} (rest : Bytes) → (P → level ≤ level_limit) → Left byte fuel at (field tag_block (written_all xs) ++ rest) end
      → ((g : ℕ) → TakesAll P byte g (λ a z. read_stmt byte g (level + 1) a z) xs) → Ends P (at + length (field tag_block (written_all xs))) (read_block byte fuel level at end)
  unfolding read_expr
  block_at zero level at end {xs} rest h l f = let z : ⊥ = omega (arith, l.upto, l.fuel, length-append (field tag_block (written_all xs)) rest) in absurd z
  block_at (suc g) level at end {xs} rest h l f =
      ends_for {n = at + 3 + length (written_all xs)} (omega arith) (λ p. p)
      (ends_head (tagged tag_block) _ at end tag_block (written_all xs) rest refl l
      (ends_met level at h (ends_many Stmts.no_stmts (λ x xs. Stmts.stmts x xs) (f g) (length (written_all xs)) (at + 3) (at + 3 + length (written_all xs)) (left_content tag_block (written_all xs) rest l) (omega arith))))

  -- a boolean
  boolean_at : {P : Type 0} (fuel level at end b : ℕ) (rest : Bytes) → b ≤ 1 → (P → level ≤ level_limit) → Left byte fuel at (field tag_boolean (b ∷ []) ++ rest) end → Ends P (at + 4) (read_expr byte fuel level at end)
  unfolding read_expr
  boolean_at zero level at end b rest k h l = let z : ⊥ = omega (arith, l.upto, l.fuel) in absurd z
  boolean_at (suc g) level at end b rest k h l =
      let e : byte (at + 3) ≡ b = stands_head (left_inside tag_boolean (b ∷ []) rest l).stands in
      ends_for {n = at + 3 + 1} (omega arith) (λ p. p) (ends_head expr_head _ at end tag_boolean (b ∷ []) rest refl l (rw (e, le-leb b 1 k) (ends_met level at h ends_plain)))

  mutual
    unfolding written levels

    -- an expression
    take-expression : {x : Node} → GoodExpression x → (g level : ℕ) → Takes (Fits level (levels x)) byte g (λ a z. read_expr byte g level a z) x
    take-expression (GoodExpression.identifier {n} k) g level =
        record { takes = λ at end rest l. expr_at g level at end tag_identifier n rest (both_intro (le-leb 1 (length n) k.least) (le-leb (length n) name_limit k.most)) refl (λ p. omega arith) l (λ _ _. ends_plain) }
    take-expression (GoodExpression.integer {b} e) g level = record { takes = λ at end rest l. expr_at g level at end tag_integer b rest (eq-eqb (length b) 8 e) refl (λ p. omega arith) l (λ _ _. ends_plain) }
    take-expression (GoodExpression.boolean {b} k) g level = record { takes = λ at end rest l. boolean_at g level at end b rest k (λ p. omega arith) l }
    take-expression (GoodExpression.string {b}) g level = record { takes = λ at end rest l. expr_at g level at end tag_string b rest refl refl (λ p. omega arith) l (λ _ _. ends_plain) }
    take-expression (GoodExpression.prefix {o} {e} k x) g level =
        record {
          takes =
              λ at end rest l. expr_at g level at end tag_prefix (written_all (operator o then one e)) rest refl refl (λ p. omega arith) l (λ h c.
              ends_part _ _ at _ _ (takes_for (part_1 level tag_prefix (operator o) (one e)) (take-operator (level + 1) h o k)) c (λ _ c.
              ends_part _ _ at _ _ (takes_for (part_2 level tag_prefix (operator o) e Node.none) (take-expression x h (level + 1))) c (λ _ c.
              ends_last _ c)));
        }
    take-expression (GoodExpression.infixed {o} {l = a} {r = b} x k y) g level =
        record {
          takes =
              λ at end rest l. expr_at g level at end tag_infix (written_all (a then operator o then one b)) rest refl refl (λ p. omega arith) l (λ h c.
              ends_part _ _ at _ _ (takes_for (part_1 level tag_infix a (operator o then one b)) (take-expression x h (level + 1))) c (λ _ c.
              ends_part _ _ at _ _ (takes_for (part_2 level tag_infix a (operator o) (one b)) (take-operator (level + 1) h o k)) c (λ _ c.
              ends_part _ _ at _ _ (takes_for (part_3 level tag_infix a (operator o) b Node.none) (take-expression y h (level + 1))) c (λ _ c.
              ends_last _ c))));
        }
    take-expression (GoodExpression.conditional {e} {t} x b) g level =
        record {
          takes =
              λ at end rest l. expr_at g level at end tag_if (written_all (e then one t)) rest refl refl (λ p. omega arith) l (λ h c.
              ends_part _ _ at _ _ (takes_for (part_1 level tag_if e (one t)) (take-expression x h (level + 1))) c (λ _ c.
              ends_part _ _ at _ _ (takes_for (part_2 level tag_if e t Node.none) (take-block b h (level + 1))) c (λ _ c.
              ends_seq _ (ends_no_else (λ a z. read_block byte h (level + 1) a z) c) (λ _. ends_plain))));
        }
    take-expression (GoodExpression.with_else {e} {t} {f} x b d) g level =
        record {
          takes =
              λ at end rest l. expr_at g level at end tag_if (written_all (e then t then one f)) rest refl refl (λ p. omega arith) l (λ h c.
              ends_part _ _ at _ _ (takes_for (part_1 level tag_if e (t then one f)) (take-expression x h (level + 1))) c (λ _ c.
              ends_part _ _ at _ _ (takes_for (part_2 level tag_if e t (one f)) (take-block b h (level + 1))) c (λ _ c.
              ends_seq _ (ends_else (takes_for (part_3 level tag_if e t f Node.none) (take-block d h (level + 1))) c) (λ _. ends_plain))));
        }
    take-expression (GoodExpression.function {n} {xs} {f} k ns b) g level =
        record {
          takes =
              λ at end rest l. expr_at g level at end tag_function (written_all (leaf tag_name n then node tag_params xs then one f)) rest refl refl (λ p. omega arith) l (λ h c.
              ends_part _ _ at _ _ (takes_for (part_1 level tag_function (leaf tag_name n) (node tag_params xs then one f)) (take_name 0 (level + 1) h n (omega arith) k)) c (λ _ c.
              ends_part _ _ at _ _ (takes_for (part_2 level tag_function (leaf tag_name n) (node tag_params xs) (one f)) (take_params ns (level + 1) h)) c (λ _ c.
              ends_part _ _ at _ _ (takes_for (part_3 level tag_function (leaf tag_name n) (node tag_params xs) f Node.none) (take-block b h (level + 1))) c (λ _ c.
              ends_last _ c))));
        }
    take-expression (GoodExpression.call {f} {xs} x ys) g level =
        record {
          takes =
              λ at end rest l. expr_at g level at end tag_call (written_all (f then xs)) rest refl refl (λ p. omega arith) l (λ h c.
              ends_part _ _ at _ _ (takes_for (part_1 level tag_call f xs) (take-expression x h (level + 1))) c (λ _ c.
              ends_seq _ (ends_many Exprs.no_exprs (λ x xs. Exprs.exprs x xs) (takes_all_for (λ p. rest-fits (level + 1) f xs (inside level tag_call (f then xs) p)) (all_expressions ys h (level + 1))) (length (written_all (f then xs))) (at + 3 + length (written f)) (at + 3 + length (written_all (f then xs))) c (omega arith)) (λ _. ends_plain)));
        }
    take-expression (GoodExpression.array {xs} ys) g level =
        record {
          takes =
              λ at end rest l. expr_at g level at end tag_array (written_all xs) rest refl refl (λ p. omega arith) l (λ h c.
              ends_seq _ (ends_many Exprs.no_exprs (λ x xs. Exprs.exprs x xs) (takes_all_for (inside level tag_array xs) (all_expressions ys h (level + 1))) (length (written_all xs)) (at + 3) (at + 3 + length (written_all xs)) c (omega arith)) (λ _. ends_plain));
        }
    take-expression (GoodExpression.index {l = a} {i} x y) g level =
        record {
          takes =
              λ at end rest l. expr_at g level at end tag_index (written_all (a then one i)) rest refl refl (λ p. omega arith) l (λ h c.
              ends_part _ _ at _ _ (takes_for (part_1 level tag_index a (one i)) (take-expression x h (level + 1))) c (λ _ c.
              ends_part _ _ at _ _ (takes_for (part_2 level tag_index a i Node.none) (take-expression y h (level + 1))) c (λ _ c.
              ends_last _ c)));
        }
    take-expression (GoodExpression.hash {xs} ys) g level =
        record {
          takes =
              λ at end rest l. expr_at g level at end tag_hash (written_all xs) rest refl refl (λ p. omega arith) l (λ h c.
              ends_seq _ (ends_pairs at (takes-pairs_for (inside level tag_hash xs) (all_pairs ys h (level + 1))) (length (written_all xs)) (at + 3) (at + 3 + length (written_all xs)) c (omega arith)) (λ _. ends_plain));
        }

    -- expressions
    all_expressions : {xs : Nodes} → GoodExpressions xs → (g level : ℕ) → TakesAll (Fits level (levels_all xs)) byte g (λ a z. read_expr byte g level a z) xs
    all_expressions GoodExpressions.no_expressions g level = TakesAll.nothing
    all_expressions (GoodExpressions.expressions {x} {xs} y ys) g level =
        TakesAll.another (takes_for (first_fits level x xs) (take-expression y g level)) (takes_all_for (rest-fits level x xs) (all_expressions ys g level))

    -- keys and values
    all_pairs : {xs : Nodes} → GoodPairs xs → (g level : ℕ) → TakesPairs (Fits level (levels_all xs)) byte g (λ a z. read_expr byte g level a z) xs
    all_pairs GoodPairs.no_pairs g level = TakesPairs.no_pairs
    all_pairs (GoodPairs.pairs {k} {v} {xs} x y ys) g level =
        TakesPairs.pair (takes_for (first_fits level k (v then xs)) (take-expression x g level)) (takes_for (λ p. first_fits level v xs (rest-fits level k (v then xs) p)) (take-expression y g level))
        (takes-pairs_for (λ p. rest-fits level v xs (rest-fits level k (v then xs) p)) (all_pairs ys g level))

    -- a block
    take-block : {x : Node} → GoodBlock x → (g level : ℕ) → Takes (Fits level (levels x)) byte g (λ a z. read_block byte g level a z) x
    take-block (GoodBlock.block {xs} ys) g level = record { takes = λ at end rest l. block_at g level at end rest (λ p. omega arith) l (λ h. takes_all_for (inside level tag_block xs) (all_statements ys h (level + 1))) }

    -- statements
    all_statements : {xs : Nodes} → GoodStatements xs → (g level : ℕ) → TakesAll (Fits level (levels_all xs)) byte g (λ a z. read_stmt byte g level a z) xs
    all_statements GoodStatements.no_statements g level = TakesAll.nothing
    all_statements (GoodStatements.statements {x} {xs} y ys) g level =
        TakesAll.another (takes_for (first_fits level x xs) (take-statement y g level)) (takes_all_for (rest-fits level x xs) (all_statements ys g level))

    -- a statement
    take-statement : {x : Node} → GoodStatement x → (g level : ℕ) → Takes (Fits level (levels x)) byte g (λ a z. read_stmt byte g level a z) x
    take-statement (GoodStatement.let_statement {n} {e} k x) g level =
        record {
          takes =
              λ at end rest l. stmt_at g level at end tag_let (written_all (leaf tag_name n then one e)) rest refl (λ p. omega arith) l (λ h c.
              ends_part _ _ at _ _ (takes_for (part_1 level tag_let (leaf tag_name n) (one e)) (take_name 1 (level + 1) h n k.least k.most)) c (λ _ c.
              ends_part _ _ at _ _ (takes_for (part_2 level tag_let (leaf tag_name n) e Node.none) (take-expression x h (level + 1))) c (λ _ c.
              ends_last _ c)));
        }
    take-statement (GoodStatement.return_statement {e} x) g level =
        record {
          takes =
              λ at end rest l. stmt_at g level at end tag_return (written_all (one e)) rest refl (λ p. omega arith) l (λ h c.
              ends_part _ _ at _ _ (takes_for (part_1 level tag_return e Node.none) (take-expression x h (level + 1))) c (λ _ c. ends_last _ c));
        }
    take-statement (GoodStatement.expression_statement {e} x) g level =
        record {
          takes =
              λ at end rest l. stmt_at g level at end tag_expr_stmt (written_all (one e)) rest refl (λ p. omega arith) l (λ h c.
              ends_part _ _ at _ _ (takes_for (part_1 level tag_expr_stmt e Node.none) (take-expression x h (level + 1))) c (λ _ c. ends_last _ c));
        }
    take-statement (GoodStatement.block_statement {xs} ys) g level =
        record {
          takes =
              λ at end rest l. stmt_at g level at end tag_block (written_all xs) rest refl (λ p. omega arith) l (λ h c.
              ends_seq _ (ends_many Stmts.no_stmts (λ x xs. Stmts.stmts x xs) (takes_all_for (inside level tag_block xs) (all_statements ys h (level + 1))) (length (written_all xs)) (at + 3) (at + 3 + length (written_all xs)) c (omega arith)) (λ _. ends_plain));
        }

-- what reading comes to: read, or too deep where P does not hold
pub data Passes (P : Type 0) : Parsed Stmts → Type 0 where
  parsed : {b : Stmts} {n : ℕ} → Passes P (Parsed.parsed b n)
  deep : (p : ℕ) → (P → ⊥) → Passes P (Parsed.refused (refusal Number.too_deep p))

-- as it is judged
judged_passes : {P : Type 0} {n : ℕ} {r : Read Stmts} → Ends P n r → Passes P (judged r)
judged_passes (Ends.ends {d = none} h) = Passes.parsed
judged_passes {P} (Ends.ends {d = some p} h) = Passes.deep p (λ x. absurd_some p (h x))
  where
    absurd_some : (p : ℕ) → some p ≡ none → ⊥
    absurd_some p e = let z : ◌≡◌ {A = ℕ} 0 1 = cc in omega arith

-- a good tree of at most 32,768 bytes passes the tree check, or has a level above 64
pub written_passes : {xs : Nodes} → GoodStatements xs → length (written (node tag_program xs)) ≤ tree_limit → Passes (levels (node tag_program xs) ≤ level_limit) (read_tree (written (node tag_program xs)))
unfolding read_tree read_program written levels
written_passes {xs} ys h =
    let c = written_all xs in
    let b = field tag_program c in
    let n = length b in
    let l : Left (byte_at b) n 0 (b ++ []) n = record { stands = rw (append-nil b) (stands_self b); upto = omega (arith, length-append b []); fuel = omega arith; small = omega arith } in
    judged_passes {n = n} {r = read_program (byte_at b) n}
    (rw (le-leb n tree_limit h)
    (ends_head (λ x. both (tagged tag_program x) (eqb (3 + x.len) n)) _ 0 n tag_program c [] (eq-eqb (3 + length c) n (omega arith)) l
    (ends_many Stmts.no_stmts (λ x xs. Stmts.stmts x xs) (takes_all_for (λ p. omega arith) (all_statements (byte_at b) ys n 2)) (length c) 3 n
    (record { stands = (left_inside tag_program c [] l).stands; upto = omega arith; fuel = omega arith; small = omega arith }) (omega arith))))
