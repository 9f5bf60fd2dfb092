-- Nodes that a tree may have: which fields a field of each tag holds.
use Rattle.std.specs.Prelude.{◌≡◌, ℕ, ◌≤◌, [], ◌∷◌, length}
use Rattle.definition.specs.Basic.{Bytes}
use Rattle.definition.specs.Limit.{name_limit}
use Rattle.definition.specs.Tag.{tag_expr_stmt, tag_block, tag_let, tag_return, tag_identifier, tag_prefix, tag_infix, tag_if, tag_function, tag_call, tag_integer, tag_boolean, tag_string, tag_array, tag_index, tag_hash, tag_name, tag_params}
use Rattle.definition.specs.Node.{Node, leaf, node, Nodes, none, ◌then◌, one, operator}

-- a name's bytes
pub record GoodName (n : Bytes) : Type 0 where
  pub least : 1 ≤ length n
  pub most : length n ≤ name_limit

pub data GoodNames : Nodes → Type 0 where
  no_names : GoodNames none
  names : {n : Bytes} {xs : Nodes} → GoodName n → GoodNames xs → GoodNames (leaf tag_name n then xs)

mutual
  pub data GoodStatement : Node → Type 0 where
    let_statement : {n : Bytes} {e : Node} → GoodName n → GoodExpression e → GoodStatement (node tag_let (leaf tag_name n then one e))
    return_statement : {e : Node} → GoodExpression e → GoodStatement (node tag_return (one e))
    expression_statement : {e : Node} → GoodExpression e → GoodStatement (node tag_expr_stmt (one e))
    block_statement : {xs : Nodes} → GoodStatements xs → GoodStatement (node tag_block xs)

  pub data GoodStatements : Nodes → Type 0 where
    no_statements : GoodStatements none
    statements : {x : Node} {xs : Nodes} → GoodStatement x → GoodStatements xs → GoodStatements (x then xs)

  pub data GoodBlock : Node → Type 0 where
    block : {xs : Nodes} → GoodStatements xs → GoodBlock (node tag_block xs)

  pub data GoodExpression : Node → Type 0 where
    identifier : {n : Bytes} → GoodName n → GoodExpression (leaf tag_identifier n)
    integer : {b : Bytes} → length b ≡ 8 → GoodExpression (leaf tag_integer b)
    boolean : {b : ℕ} → b ≤ 1 → GoodExpression (leaf tag_boolean (b ∷ []))
    string : {b : Bytes} → GoodExpression (leaf tag_string b)
    prefix : {o : ℕ} {e : Node} → o ≤ 9 → GoodExpression e → GoodExpression (node tag_prefix (operator o then one e))
    infixed : {o : ℕ} {l r : Node} → GoodExpression l → o ≤ 9 → GoodExpression r → GoodExpression (node tag_infix (l then operator o then one r))
    conditional : {e t : Node} → GoodExpression e → GoodBlock t → GoodExpression (node tag_if (e then one t))
    with_else : {e t f : Node} → GoodExpression e → GoodBlock t → GoodBlock f → GoodExpression (node tag_if (e then t then one f))
    function : {n : Bytes} {xs : Nodes} {f : Node} → length n ≤ name_limit → GoodNames xs → GoodBlock f → GoodExpression (node tag_function (leaf tag_name n then node tag_params xs then one f))
    call : {f : Node} {xs : Nodes} → GoodExpression f → GoodExpressions xs → GoodExpression (node tag_call (f then xs))
    array : {xs : Nodes} → GoodExpressions xs → GoodExpression (node tag_array xs)
    index : {l i : Node} → GoodExpression l → GoodExpression i → GoodExpression (node tag_index (l then one i))
    hash : {xs : Nodes} → GoodPairs xs → GoodExpression (node tag_hash xs)

  pub data GoodExpressions : Nodes → Type 0 where
    no_expressions : GoodExpressions none
    expressions : {x : Node} {xs : Nodes} → GoodExpression x → GoodExpressions xs → GoodExpressions (x then xs)

  -- keys with their values
  pub data GoodPairs : Nodes → Type 0 where
    no_pairs : GoodPairs none
    pairs : {k v : Node} {xs : Nodes} → GoodExpression k → GoodExpression v → GoodPairs xs → GoodPairs (k then v then xs)
