-- What the kinds of tokens mean for the writing of a tree: tests by their order, tags and operators.
use Rattle.std.specs.Prelude.{ℕ, Bool, [], ◌∷◌, leb, ltb, eqb}
use Rattle.definition.specs.Basic.{Bytes, pick, both}
use Rattle.definition.specs.Tag.{tag_expr_stmt, tag_let, tag_return, tag_identifier, tag_prefix, tag_infix, tag_if, tag_function, tag_call, tag_integer, tag_boolean, tag_string, tag_array, tag_index, tag_hash}
use Rattle.text.specs.Kind.{let_word, return_word, a_name, an_integer, a_string, true_word, false_word, if_word, fn_word, bang, open_brace, open_paren, open_bracket, minus, plus, star, slash, less, equal, unequal, else_word, close_paren, close_brace, comma, colon, ended}
use Rattle.text.specs.Scan.{either}

-- how tight a token holds the operand before it: 0 if it does not continue an expression
unfoldable pub tight_of : ℕ → ℕ
tight_of k = pick (ltb k open_paren) 0 (pick (ltb k minus) 6 (pick (ltb k star) 3 (pick (ltb k less) 4 (pick (ltb k equal) 2 (pick (ltb k else_word) 1 0)))))

-- whether it closes the innermost of the parentheses that an expression began with
unfoldable pub closes_group : ℕ → ℕ → Bool
closes_group opened k = both (ltb 0 opened) (eqb k close_paren)

-- whether an expression with operators tighter than a level ends before it
unfoldable pub ends_at : ℕ → ℕ → ℕ → Bool
ends_at opened least k = either (eqb (tight_of k) 0) (both (eqb opened 0) (leb (tight_of k) least))

-- whether a list ends at it; whether it stands between two items
unfoldable pub closing : ℕ → Bool
closing k = either (both (leb close_paren k) (leb k close_brace)) (eqb k ended)

unfoldable pub separating : ℕ → Bool
separating k = both (leb comma k) (leb k colon)

-- whether statements end at it
unfoldable pub ending : ℕ → Bool
ending k = either (eqb k close_brace) (eqb k ended)

-- whether it is an operand of its own; whether it begins a list
unfoldable pub is_leaf : ℕ → Bool
is_leaf k = both (leb a_name k) (leb k false_word)

unfoldable pub is_list : ℕ → Bool
is_list k = both (leb open_brace k) (leb k open_bracket)

-- the byte of an operator
unfoldable pub operator_of : ℕ → ℕ
operator_of k =
    pick (eqb k plus) 1
    (pick (eqb k minus) 2
    (pick (eqb k bang) 3
    (pick (eqb k star) 4
    (pick (eqb k slash) 5
    (pick (eqb k equal) 6
    (pick (eqb k unequal) 7
    (pick (eqb k less) 8 9)))))))

-- the tag of the field that it makes of the operand before it
unfoldable pub continued_tag : ℕ → ℕ
continued_tag k = pick (eqb k open_paren) tag_call (pick (eqb k open_bracket) tag_index tag_infix)

-- the tag of the operand that it begins
unfoldable pub operand_tag : ℕ → ℕ
operand_tag k =
    pick (eqb k a_name) tag_identifier
    (pick (eqb k an_integer) tag_integer
    (pick (eqb k a_string) tag_string
    (pick (eqb k true_word) tag_boolean
    (pick (eqb k false_word) tag_boolean
    (pick (eqb k open_bracket) tag_array
    (pick (eqb k open_brace) tag_hash
    (pick (eqb k if_word) tag_if
    (pick (eqb k fn_word) tag_function tag_prefix))))))))

-- the tag of the statement that it begins
unfoldable pub statement_tag : ℕ → ℕ
statement_tag k = pick (eqb k let_word) tag_let (pick (eqb k return_word) tag_return tag_expr_stmt)

-- a leaf's content
unfoldable pub leaf_bytes : ℕ → Bytes → Bytes
leaf_bytes k b = pick (eqb k true_word) (1 ∷ []) (pick (eqb k false_word) (0 ∷ []) b)
