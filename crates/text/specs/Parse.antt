-- How passes 2 and 3 read a row of tokens: with counted parentheses, operators by their tightness, and no look at what pass 1 has seen to.
use Rattle.std.specs.Prelude.{ℕ, suc, ◌-◌, true, false, [], ◌≡◌, eqb}
use Rattle.definition.specs.Basic.{pick}
use Rattle.definition.specs.Tag.{tag_block, tag_name, tag_params}
use Rattle.text.specs.Kind.{let_word, return_word, a_name as nameKind, if_word, fn_word, open_paren, else_word, comma, semicolon, ended}
use Rattle.text.specs.Token.{Row, kind_of, bytes_of, behind}
use Rattle.definition.specs.Node.{Node, leaf, node, Nodes, none, ◌then◌, one, operator}
use Rattle.text.specs.Named.{named}
use Rattle.text.specs.Shape.{tight_of, closes_group, ends_at, closing, separating, ending, is_leaf, is_list, operator_of, continued_tag, operand_tag, statement_tag, leaf_bytes}

-- behind what stands between two items; behind a `;`
abbrev pub item_row : Row → Row
item_row ts = pick (separating (kind_of ts)) (behind ts) ts

abbrev pub past_semicolon : Row → Row
past_semicolon ts = pick (eqb (kind_of ts) semicolon) (behind ts) ts

-- parameters, and the token behind them
pub data NamesRow : Row → Row → Nodes → Type 0 where
  a_name : {ts us : Row} {xs : Nodes} → eqb (kind_of ts) nameKind ≡ true → NamesRow (behind ts) us xs → NamesRow ts us (leaf tag_name (bytes_of ts) then xs)
  a_comma : {ts us : Row} {xs : Nodes} → eqb (kind_of ts) nameKind ≡ false → eqb (kind_of ts) comma ≡ true → NamesRow (behind ts) us xs → NamesRow ts us xs
  no_name : {ts : Row} → eqb (kind_of ts) nameKind ≡ false → eqb (kind_of ts) comma ≡ false → NamesRow ts (behind ts) none

-- the same in their parentheses
pub data ParametersRow : Row → Row → Node → Type 0 where
  parameters_row : {ts us : Row} {xs : Nodes} → NamesRow (behind ts) us xs → ParametersRow ts us (node tag_params xs)

mutual
  -- an expression with operators tighter than a level, behind so many parentheses of its own
  pub data ExpressionRow : ℕ → ℕ → Row → Row → Node → Type 0 where
    grouped : {least opened : ℕ} {ts us : Row} {y : Node} → eqb (kind_of ts) open_paren ≡ true → ExpressionRow least (suc opened) (behind ts) us y → ExpressionRow least opened ts us y
    begins : {least opened : ℕ} {ts us vs : Row} {x y : Node} → eqb (kind_of ts) open_paren ≡ false → OperandRow ts us x → ClimbRow least opened x us vs y → ExpressionRow least opened ts vs y

  -- what is made of an operand by the tokens behind it
  pub data ClimbRow : ℕ → ℕ → Node → Row → Row → Node → Type 0 where
    closes : {least opened : ℕ} {ts us : Row} {x y : Node} → closes_group opened (kind_of ts) ≡ true → ClimbRow least (opened - 1) x (behind ts) us y → ClimbRow least opened x ts us y
    ends : {least opened : ℕ} {ts : Row} {x : Node} → closes_group opened (kind_of ts) ≡ false → ends_at opened least (kind_of ts) ≡ true → ClimbRow least opened x ts ts x
    goes : {least opened : ℕ} {ts us vs : Row} {x y : Node} {xs : Nodes} → closes_group opened (kind_of ts) ≡ false → ends_at opened least (kind_of ts) ≡ false → InsideRow (kind_of ts) (tight_of (kind_of ts)) (behind ts) us xs → ClimbRow least opened (node (continued_tag (kind_of ts)) (x then xs)) us vs y → ClimbRow least opened x ts vs y

  pub data OperandRow : Row → Row → Node → Type 0 where
    a_leaf : {ts : Row} → is_leaf (kind_of ts) ≡ true → OperandRow ts (behind ts) (leaf (operand_tag (kind_of ts)) (leaf_bytes (kind_of ts) (bytes_of ts)))
    deeper : {ts us : Row} {xs : Nodes} → eqb (kind_of ts) ended ≡ false → is_leaf (kind_of ts) ≡ false → InsideRow (kind_of ts) 5 (behind ts) us xs → OperandRow ts us (node (operand_tag (kind_of ts)) xs)

  -- what stands behind a token inside its field; an operand after an operator with operators tighter than a level
  pub data InsideRow : ℕ → ℕ → Row → Row → Nodes → Type 0 where
    an_if : {k least : ℕ} {ts us : Row} {xs : Nodes} → eqb k if_word ≡ true → IfRow ts us xs → InsideRow k least ts us xs
    a_function : {k least : ℕ} {ts us : Row} {xs : Nodes} → eqb k if_word ≡ false → eqb k fn_word ≡ true → FunctionRow ts us xs → InsideRow k least ts us xs
    a_list : {k least : ℕ} {ts us : Row} {xs : Nodes} → eqb k if_word ≡ false → eqb k fn_word ≡ false → is_list k ≡ true → ListRow ts us xs → InsideRow k least ts us xs
    an_operator : {k least : ℕ} {ts us : Row} {x : Node} → eqb k if_word ≡ false → eqb k fn_word ≡ false → is_list k ≡ false → ExpressionRow least 0 ts us x → InsideRow k least ts us (operator (operator_of k) then one x)

  -- items, keys and values up to the token that closes them, and that token
  pub data ListRow : Row → Row → Nodes → Type 0 where
    closed : {ts : Row} → closing (kind_of ts) ≡ true → ListRow ts (behind ts) none
    item : {ts us vs : Row} {x : Node} {xs : Nodes} → closing (kind_of ts) ≡ false → ExpressionRow 0 0 (item_row ts) us x → ListRow us vs xs → ListRow ts vs (x then xs)

  pub data IfRow : Row → Row → Nodes → Type 0 where
    if_row : {ts us vs ws : Row} {e b : Node} {xs : Nodes} → ExpressionRow 0 0 (behind ts) us e → BlockRow (behind us) vs b → ElseRow vs ws xs → IfRow ts ws (e then b then xs)

  pub data ElseRow : Row → Row → Nodes → Type 0 where
    no_else : {ts : Row} → eqb (kind_of ts) else_word ≡ false → ElseRow ts ts none
    an_else : {ts us : Row} {b : Node} → eqb (kind_of ts) else_word ≡ true → BlockRow (behind ts) us b → ElseRow ts us (one b)

  pub data FunctionRow : Row → Row → Nodes → Type 0 where
    function_row : {ts us vs : Row} {ns b : Node} → ParametersRow ts us ns → BlockRow us vs b → FunctionRow ts vs (leaf tag_name [] then ns then one b)

  pub data BlockRow : Row → Row → Node → Type 0 where
    block_row : {ts us : Row} {xs : Nodes} → StatementsRow (behind ts) us xs → BlockRow ts (behind us) (node tag_block xs)

  pub data StatementsRow : Row → Row → Nodes → Type 0 where
    no_statement : {ts : Row} → ending (kind_of ts) ≡ true → StatementsRow ts ts none
    a_statement : {ts us vs : Row} {x : Node} {xs : Nodes} → ending (kind_of ts) ≡ false → StatementRow ts us x → StatementsRow us vs xs → StatementsRow ts vs (x then xs)

  pub data StatementRow : Row → Row → Node → Type 0 where
    statement_row : {ts us : Row} {xs : Nodes} → ClauseRow ts us xs → StatementRow ts (past_semicolon us) (node (statement_tag (kind_of ts)) xs)

  -- a name and its value
  pub data LetRow : Row → Row → Nodes → Type 0 where
    let_row : {ts us : Row} {e : Node} → kind_of ts ≡ nameKind → ExpressionRow 0 0 (behind (behind ts)) us e → LetRow ts us (leaf tag_name (bytes_of ts) then one (named (bytes_of ts) e))

  -- what a statement has inside
  pub data ClauseRow : Row → Row → Nodes → Type 0 where
    a_let : {ts us : Row} {xs : Nodes} → eqb (kind_of ts) let_word ≡ true → LetRow (behind ts) us xs → ClauseRow ts us xs
    a_return : {ts us : Row} {e : Node} → eqb (kind_of ts) let_word ≡ false → eqb (kind_of ts) return_word ≡ true → ExpressionRow 0 0 (behind ts) us e → ClauseRow ts us (one e)
    an_expression : {ts us : Row} {e : Node} → eqb (kind_of ts) let_word ≡ false → eqb (kind_of ts) return_word ≡ false → ExpressionRow 0 0 ts us e → ClauseRow ts us (one e)
