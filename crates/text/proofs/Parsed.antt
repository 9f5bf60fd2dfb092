-- What the grammar derives is what passes 2 and 3 read: by tightness and with counted parentheses.
use Prim.Native.Nat.{ℕ, suc, ◌+◌, ◌-◌, ◌≤◌}
use native.Mathlib.Omega.{arith}
use mathlib.Core.Bool.{true, false}
use mathlib.Core.List.{[], ◌∷◌}
use mathlib.Core.Path.{◌≡◌, refl}
use lib.Dec.{eqb}
use borrow.Author.Tests.{ne_eqb}
use Rattle.definition.specs.Basic.{Bytes}
use Rattle.definition.specs.Tag.{tag_expr_stmt, tag_infix}
use Rattle.text.specs.Kind.{let_word, return_word, a_name, open_paren, else_word, close_paren, comma, semicolon}
use Rattle.text.specs.Token.{token, Row, kind_of, behind}
use Rattle.definition.specs.Node.{Node, node, Nodes, ◌then◌, one, operator}
use Rattle.text.specs.Grammar.{Is, Prefixed, Names, Parameters, Statements, More, Statement, Block, Expression, Binary, Prefix, Postfix, Primary, Branches, Items, SomeItems, Pairs, SomePairs}
use Rattle.text.specs.Shape.{tight_of, closes_group, closing, separating, ending, is_leaf, is_list, operator_of, continued_tag, operand_tag, statement_tag, leaf_bytes}
use Rattle.text.specs.Parse.{item_row, past_semicolon, NamesRow, ParametersRow, LetRow, ExpressionRow, ClimbRow, OperandRow, InsideRow, ListRow, IfRow, ElseRow, FunctionRow, BlockRow, StatementsRow, StatementRow, ClauseRow}
use Rattle.text.proofs.Follow.{Begins, first_expression, first_statement}
use Rattle.text.proofs.KindTests.{not_closes, closes_one, loose_ends, tight_goes, early_loose, InfixKind, infix_kind, begins_open, begins_first, begins-statement, begins-expression}

-- a kind behind which an expression has ended
record Past (k : ℕ) : Type 0 where
  pub loose : tight_of k ≡ 0
  pub no_else : eqb k else_word ≡ false

-- a kind that closes statements
record Final (k : ℕ) : Type 0 where
  pub past : Past k
  pub ends : ending k ≡ true
  pub no_semicolon : eqb k semicolon ≡ false

-- a kind that closes a list
record Closed (k : ℕ) : Type 0 where
  pub past : Past k
  pub closes : closing k ≡ true

-- names
row-names : {ts us : Row} {xs : Nodes} → Names ts us xs → eqb (kind_of us) a_name ≡ false → eqb (kind_of us) comma ≡ false → NamesRow ts (behind us) xs
row-names (Names.last_name Is.is) a b = NamesRow.a_name refl (NamesRow.no_name a b)
row-names (Names.more_names Is.is Is.is d) a b = NamesRow.a_name refl (NamesRow.a_comma refl refl (row-names d a b))

row-parameters : {ts us : Row} {xs : Nodes} → Parameters ts us xs → eqb (kind_of us) a_name ≡ false → eqb (kind_of us) comma ≡ false → NamesRow ts (behind us) xs
row-parameters Parameters.no_parameters a b = NamesRow.no_name a b
row-parameters (Parameters.parameters d) a b = row-names d a b

-- an infix operator behind an operand
climb_infix : {m k o least opened : ℕ} {b : Bytes} {vs ws rest : Row} {l r y : Node} → InfixKind m k o → (opened ≡ 0 → least + m ≤ 4) → ExpressionRow (tight_of k) 0 vs ws r → ClimbRow least opened (node tag_infix (l then operator o then one r)) ws rest y → ClimbRow least opened l (token k b ∷ vs) rest y
climb_infix {k = k} {least = least} {opened = opened} {ws = ws} {rest = rest} {l = l} {r = r} {y = y} i f e c =
    let d : ClimbRow least opened (node (continued_tag k) (l then operator (operator_of k) then one r)) ws rest y = rw (i.operator, i.tag) c in
    ClimbRow.goes (not_closes opened k i.no_close) (tight_goes opened least k i.some (λ h. omega (arith, i.tight, f h))) (InsideRow.an_operator i.no_if i.no_fn i.no_list e) d

-- a call or an index behind an operand
climb_list : {k least opened : ℕ} {b : Bytes} {vs ws rest : Row} {l y : Node} {xs : Nodes} → eqb k close_paren ≡ false → tight_of k ≡ 6 → eqb k 7 ≡ false → eqb k 8 ≡ false → is_list k ≡ true → least ≤ 5 → ListRow vs ws xs → ClimbRow least opened (node (continued_tag k) (l then xs)) ws rest y → ClimbRow least opened l (token k b ∷ vs) rest y
climb_list {k} {least} {opened} a t i f l h e c =
    ClimbRow.goes (not_closes opened k a) (tight_goes opened least k (omega arith) (λ _. omega arith)) (InsideRow.a_list i f l e) c

-- a `)` behind it
climb_closes : {least opened : ℕ} {b : Bytes} {us rest : Row} {x y : Node} → ClimbRow least opened x us rest y → ClimbRow least (suc opened) x (token close_paren b ∷ us) rest y
climb_closes {least} {opened} {b} {us} {rest} {x} {y} c =
    let k : suc opened - 1 ≡ opened = omega arith in
    let d : ClimbRow least (suc opened - 1) x us rest y = rw k c in
    ClimbRow.closes (closes_one (suc opened) (omega arith)) d

-- the end of one
climb_ends : {least : ℕ} {x : Node} (ts : Row) → tight_of (kind_of ts) ≤ least → ClimbRow least 0 x ts ts x
unfolding closes_group
climb_ends {least} ts h = ClimbRow.ends refl (loose_ends least (kind_of ts) h)

-- what stands behind a statement
past_statement : {ts us : Row} {xs : Nodes} → More ts us xs → Final (kind_of us) → Past (kind_of ts)
unfolding tight_of
past_statement More.no_more f = f.past
past_statement (More.after_semicolon Is.is _) f = record { loose = refl; no_else = refl }
past_statement {ts} (More.at_once h _ _) f = record { loose = early_loose (kind_of ts) h; no_else = ne_eqb (kind_of ts) else_word (λ e. omega arith) }

-- an item, the first of its list
first_item : {us vs : Row} {x : Node} {xs : Nodes} (ts : Row) → Begins (kind_of ts) → ExpressionRow 0 0 ts us x → ListRow us vs xs → ListRow ts vs (x then xs)
first_item {us} {x = x} ts b e r =
    let i : item_row ts ≡ ts = rw (begins_first (kind_of ts) b.most) refl in
    let d : ExpressionRow 0 0 (item_row ts) us x = rw i e in
    ListRow.item (begins_open (kind_of ts) b.most) d r

-- a statement that is an expression
plain-statement : {ts us : Row} {x : Node} → Begins (kind_of ts) → ExpressionRow 0 0 ts us x → StatementRow ts (past_semicolon us) (node tag_expr_stmt (one x))
plain-statement {ts} {us} {x} b e =
    let c : ClauseRow ts us (one x) = ClauseRow.an_expression (ne_eqb (kind_of ts) let_word (λ e. omega (arith, b.least))) (ne_eqb (kind_of ts) return_word (λ e. omega (arith, b.least))) e in
    let s : StatementRow ts (past_semicolon us) (node (statement_tag (kind_of ts)) (one x)) = StatementRow.statement_row c in
    rw (begins-expression (kind_of ts) b.least) at s

mutual
  unfolding tight_of closing separating ending is_leaf is_list operator_of continued_tag operand_tag statement_tag leaf_bytes

  -- an expression of some levels, with what is made of it
  row_binary : {n : ℕ} {ts us : Row} {x : Node} → Binary n ts us x → tight_of (kind_of us) + n ≤ 5 → eqb (kind_of us) else_word ≡ false → {least opened : ℕ} {rest : Row} {y : Node} → least ≤ 5 → (opened ≡ 0 → least + n ≤ 4) → ClimbRow least opened x us rest y → ExpressionRow least opened ts rest y
  row_binary (Binary.unary d) t e l f c = row_prefix d (omega arith) e l c
  row_binary (Binary.tighter d) t e l f c = row_binary d (omega arith) e l (λ h. omega (arith, f h)) c
  row_binary {us = ws} (Binary.infixed {n} {k} {o} d i Is.is r) t e l f c =
      let j = infix_kind i in
      row_binary d (omega (arith, j.tight)) j.no_else l f (climb_infix j f (row_binary r (omega arith) e (omega (arith, j.tight)) (λ h. omega (arith, j.tight)) (climb_ends ws (omega (arith, j.tight)))) c)

  row_prefix : {ts us : Row} {x : Node} → Prefix ts us x → tight_of (kind_of us) ≤ 5 → eqb (kind_of us) else_word ≡ false → {least opened : ℕ} {rest : Row} {y : Node} → least ≤ 5 → ClimbRow least opened x us rest y → ExpressionRow least opened ts rest y
  row_prefix {us = us} (Prefix.prefix Prefixed.not Is.is d) t e l c =
      ExpressionRow.begins refl (OperandRow.deeper refl refl (InsideRow.an_operator refl refl refl (row_prefix d t e (omega arith) (climb_ends us t)))) c
  row_prefix {us = us} (Prefix.prefix Prefixed.negative Is.is d) t e l c =
      ExpressionRow.begins refl (OperandRow.deeper refl refl (InsideRow.an_operator refl refl refl (row_prefix d t e (omega arith) (climb_ends us t)))) c
  row_prefix (Prefix.postfix d) t e l c = row_postfix d e l c

  row_postfix : {ts us : Row} {x : Node} → Postfix ts us x → eqb (kind_of us) else_word ≡ false → {least opened : ℕ} {rest : Row} {y : Node} → least ≤ 5 → ClimbRow least opened x us rest y → ExpressionRow least opened ts rest y
  row_postfix (Postfix.call d Is.is xs Is.is) e l c =
      row_postfix d refl l (climb_list refl refl refl refl refl l (row-items xs (record { past = record { loose = refl; no_else = refl }; closes = refl })) c)
  row_postfix (Postfix.index {vs = vs} d Is.is i Is.is) e l c =
      row_postfix d refl l (climb_list refl refl refl refl refl l (first_item vs (first_expression i) (row-expression i (record { loose = refl; no_else = refl })) (ListRow.closed refl)) c)
  row_postfix (Postfix.primary d) e l c = row_primary d e l c

  row_primary : {ts us : Row} {x : Node} → Primary ts us x → eqb (kind_of us) else_word ≡ false → {least opened : ℕ} {rest : Row} {y : Node} → least ≤ 5 → ClimbRow least opened x us rest y → ExpressionRow least opened ts rest y
  row_primary (Primary.identifier Is.is) e l c = ExpressionRow.begins refl (OperandRow.a_leaf refl) c
  row_primary (Primary.integer Is.is) e l c = ExpressionRow.begins refl (OperandRow.a_leaf refl) c
  row_primary (Primary.string Is.is) e l c = ExpressionRow.begins refl (OperandRow.a_leaf refl) c
  row_primary (Primary.yes Is.is) e l c = ExpressionRow.begins refl (OperandRow.a_leaf refl) c
  row_primary (Primary.no Is.is) e l c = ExpressionRow.begins refl (OperandRow.a_leaf refl) c
  row_primary (Primary.group Is.is d Is.is) e {opened = opened} l c =
      ExpressionRow.grouped refl (row-whole d (omega arith) refl l (λ (h : suc opened ≡ 0). absurd (omega arith)) (climb_closes c))
  row_primary (Primary.array Is.is xs Is.is) e l c =
      ExpressionRow.begins refl (OperandRow.deeper refl refl (InsideRow.a_list refl refl refl (row-items xs (record { past = record { loose = refl; no_else = refl }; closes = refl })))) c
  row_primary (Primary.hash Is.is xs Is.is) e l c =
      ExpressionRow.begins refl (OperandRow.deeper refl refl (InsideRow.a_list refl refl refl (row-pairs xs (record { past = record { loose = refl; no_else = refl }; closes = refl })))) c
  row_primary (Primary.conditional Is.is Is.is d Is.is bs) e l c =
      ExpressionRow.begins refl (OperandRow.deeper refl refl (InsideRow.an_if refl (row_branches bs e (row-expression d (record { loose = refl; no_else = refl }))))) c
  row_primary (Primary.function Is.is Is.is ps Is.is d) e l c =
      ExpressionRow.begins refl (OperandRow.deeper refl refl (InsideRow.a_function refl refl (FunctionRow.function_row (ParametersRow.parameters_row (row-parameters ps refl refl)) (row_block d)))) c

  -- a condition in parentheses and what is behind it
  row_branches : {vs ys zs : Row} {a b : Bytes} {x : Node} {xs : Nodes} → Branches ys zs xs → eqb (kind_of zs) else_word ≡ false → ExpressionRow 0 0 vs (token close_paren b ∷ ys) x → IfRow (token open_paren a ∷ vs) zs (x then xs)
  row_branches (Branches.without_else t) e d = IfRow.if_row d (row_block t) (ElseRow.no_else e)
  row_branches (Branches.with_else t Is.is f) e d = IfRow.if_row d (row_block t) (ElseRow.an_else refl (row_block f))

  -- a whole expression, with what is made of it
  row-whole : {ts us : Row} {x : Node} → Expression ts us x → tight_of (kind_of us) ≤ 1 → eqb (kind_of us) else_word ≡ false → {least opened : ℕ} {rest : Row} {y : Node} → least ≤ 5 → (opened ≡ 0 → least ≡ 0) → ClimbRow least opened x us rest y → ExpressionRow least opened ts rest y
  row-whole (Expression.expression d) t e l f c = row_binary d (omega arith) e l (λ h. omega (arith, f h)) c

  -- and alone
  row-expression : {ts us : Row} {x : Node} → Expression ts us x → Past (kind_of us) → ExpressionRow 0 0 ts us x
  row-expression {us = us} (Expression.expression d) p = row_binary d (omega (arith, p.loose)) p.no_else (omega arith) (λ _. omega arith) (climb_ends us (omega (arith, p.loose)))

  -- items
  row-items : {ts us : Row} {xs : Nodes} → Items ts us xs → Closed (kind_of us) → ListRow ts (behind us) xs
  row-items Items.no_items c = ListRow.closed c.closes
  row-items (Items.items d) c = row_some_items d c

  row_some_items : {ts us : Row} {xs : Nodes} → SomeItems ts us xs → Closed (kind_of us) → ListRow ts (behind us) xs
  row_some_items {ts} (SomeItems.last_item d) c = first_item ts (first_expression d) (row-expression d c.past) (ListRow.closed c.closes)
  row_some_items {ts} (SomeItems.more_items d Is.is r) c =
      first_item ts (first_expression d) (row-expression d (record { loose = refl; no_else = refl })) (row_more_items r c)

  row_more_items : {ts us : Row} {xs : Nodes} {b : Bytes} → SomeItems ts us xs → Closed (kind_of us) → ListRow (token comma b ∷ ts) (behind us) xs
  row_more_items (SomeItems.last_item d) c = ListRow.item refl (row-expression d c.past) (ListRow.closed c.closes)
  row_more_items (SomeItems.more_items d Is.is r) c = ListRow.item refl (row-expression d (record { loose = refl; no_else = refl })) (row_more_items r c)

  -- keys and values
  row-pairs : {ts us : Row} {xs : Nodes} → Pairs ts us xs → Closed (kind_of us) → ListRow ts (behind us) xs
  row-pairs Pairs.no_pairs c = ListRow.closed c.closes
  row-pairs (Pairs.pairs d) c = row_some_pairs d c

  row_some_pairs : {ts us : Row} {xs : Nodes} → SomePairs ts us xs → Closed (kind_of us) → ListRow ts (behind us) xs
  row_some_pairs {ts} (SomePairs.last_pair d Is.is v) c =
      first_item ts (first_expression d) (row-expression d (record { loose = refl; no_else = refl }))
      (ListRow.item refl (row-expression v c.past) (ListRow.closed c.closes))
  row_some_pairs {ts} (SomePairs.more_pairs d Is.is v Is.is r) c =
      first_item ts (first_expression d) (row-expression d (record { loose = refl; no_else = refl }))
      (ListRow.item refl (row-expression v (record { loose = refl; no_else = refl })) (row_more_pairs r c))

  row_more_pairs : {ts us : Row} {xs : Nodes} {b : Bytes} → SomePairs ts us xs → Closed (kind_of us) → ListRow (token comma b ∷ ts) (behind us) xs
  row_more_pairs (SomePairs.last_pair d Is.is v) c =
      ListRow.item refl (row-expression d (record { loose = refl; no_else = refl })) (ListRow.item refl (row-expression v c.past) (ListRow.closed c.closes))
  row_more_pairs (SomePairs.more_pairs d Is.is v Is.is r) c =
      ListRow.item refl (row-expression d (record { loose = refl; no_else = refl })) (ListRow.item refl (row-expression v (record { loose = refl; no_else = refl })) (row_more_pairs r c))

  row_block : {ts us : Row} {x : Node} → Block ts us x → BlockRow ts us x
  row_block (Block.block Is.is d Is.is) = BlockRow.block_row (row_statements d (record { past = record { loose = refl; no_else = refl }; ends = refl; no_semicolon = refl }))

  -- statements
  row_statements : {ts us : Row} {xs : Nodes} → Statements ts us xs → Final (kind_of us) → StatementsRow ts us xs
  row_statements Statements.no_statements f = StatementsRow.no_statement f.ends
  row_statements {ts} (Statements.statements d m) f = StatementsRow.a_statement (begins-statement (kind_of ts) (first_statement d)) (row-statement d (past_statement m f)) (row_more m f)

  row_more : {ts us : Row} {xs : Nodes} → More ts us xs → Final (kind_of us) → StatementsRow (past_semicolon ts) us xs
  row_more {ts} More.no_more f = rw f.no_semicolon (StatementsRow.no_statement f.ends)
  row_more (More.after_semicolon Is.is d) f = row_statements d f
  row_more {ts} (More.at_once h d m) f =
      rw (ne_eqb (kind_of ts) semicolon (λ e. omega arith)) (StatementsRow.a_statement (begins-statement (kind_of ts) (first_statement d)) (row-statement d (past_statement m f)) (row_more m f))

  row-statement : {ts us : Row} {x : Node} → Statement ts us x → Past (kind_of us) → StatementRow ts (past_semicolon us) x
  row-statement {us = us} (Statement.let_statement {n = n} {e = e} Is.is Is.is Is.is d v) p = rw v (StatementRow.statement_row (ClauseRow.a_let refl (LetRow.let_row refl (row-expression d p))))
  row-statement (Statement.return_statement Is.is d) p = StatementRow.statement_row (ClauseRow.a_return refl refl (row-expression d p))
  row-statement {ts} {us} (Statement.expression_statement {e = e} d) p = plain-statement (first_expression d) (row-expression d p)

-- a script
pub parsed : {ts : Row} {xs : Nodes} → Statements ts [] xs → StatementsRow ts [] xs
unfolding tight_of ending
parsed d = row_statements d (record { past = record { loose = refl; no_else = refl }; ends = refl; no_semicolon = refl })
