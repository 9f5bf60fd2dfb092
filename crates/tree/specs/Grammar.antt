-- The grammar of a tree: the tags, lengths and own bytes of a kind of field, what kind child k of a tag must be, how many are enough.
use Rattle.std.specs.Prelude.{ℕ, zero, suc, ◌%◌, Bool, true, false, not, List, [], ◌∷◌, leb, eqb}
use Rattle.definition.specs.Basic.{pick, both}
use Rattle.definition.specs.Tag.{tag_program, tag_expr_stmt, tag_block, tag_let, tag_return, tag_identifier, tag_prefix, tag_infix, tag_if, tag_function, tag_call, tag_integer, tag_boolean, tag_string, tag_array, tag_index, tag_hash, tag_macro, tag_name, tag_params, tag_operator}
use Rattle.definition.specs.Field.{Head, tagged, name_head}
use Rattle.definition.specs.Tree.{expr_head, stmt_head, operator_head}

-- what a field must be: a statement, a block, an expression, a name of at least so many bytes, parameters, an operator; or that none may stand there
pub data Kind : Type 0 where
  Statement : Kind
  Block : Kind
  Expression : Kind
  Name : ℕ → Kind
  Params : Kind
  Operator : Kind
  Nothing : Kind

-- one test or the other
abbrev pub either : Bool → Bool → Bool
either true b = true
either false b = b

-- the definition's test of a head, by the kind
abbrev pub good_head : Kind → Head → Bool
good_head Statement h = stmt_head h
good_head Block h = tagged tag_block h
good_head Expression h = expr_head h
good_head (Name least) h = name_head least h
good_head Params h = tagged tag_params h
good_head Operator h = operator_head h
good_head Nothing h = false

-- a boolean's or an operator's only byte
abbrev pub good_own : ℕ → ℕ → Bool
good_own t first = both (either (not (eqb t tag_boolean)) (leb first 1)) (either (not (eqb t tag_operator)) (leb first 9))

-- the tags whose fields have no children
abbrev pub is_leaf : ℕ → Bool
is_leaf t = either (either (either (eqb t tag_identifier) (both (leb tag_integer t) (leb t tag_string))) (eqb t tag_name)) (eqb t tag_operator)

-- a tag among some
abbrev pub one_of : List ℕ → ℕ → Bool
one_of [] t = false
one_of (u ∷ us) t = either (eqb t u) (one_of us t)

-- the first, second or third of three kinds, and nothing after them
abbrev pub nth_of : ℕ → Kind → Kind → Kind → Kind
nth_of zero a b c = a
nth_of (suc zero) a b c = b
nth_of (suc (suc zero)) a b c = c
nth_of (suc (suc (suc k))) a b c = Nothing

-- what child k of a tag must be
abbrev pub child_kind : ℕ → ℕ → Kind
child_kind t k =
    pick (one_of (tag_program ∷ tag_block ∷ []) t) Statement
    (pick (one_of (tag_expr_stmt ∷ tag_return ∷ []) t) (nth_of k Expression Nothing Nothing)
    (pick (one_of (tag_let ∷ []) t) (nth_of k (Name 1) Expression Nothing)
    (pick (one_of (tag_prefix ∷ []) t) (nth_of k Operator Expression Nothing)
    (pick (one_of (tag_infix ∷ []) t) (nth_of k Expression Operator Expression)
    (pick (one_of (tag_if ∷ []) t) (nth_of k Expression Block Block)
    (pick (one_of (tag_function ∷ []) t) (nth_of k (Name 0) Params Block)
    (pick (one_of (tag_call ∷ tag_array ∷ tag_hash ∷ []) t) Expression
    (pick (one_of (tag_index ∷ []) t) (nth_of k Expression Expression Nothing)
    (pick (one_of (tag_macro ∷ []) t) (nth_of k Params Block Nothing)
    (pick (one_of (tag_params ∷ []) t) (Name 1) Nothing))))))))))

-- the fewest children of a tag
abbrev pub least_of : ℕ → ℕ
least_of t =
    pick (one_of (tag_expr_stmt ∷ tag_return ∷ tag_call ∷ []) t) 1
    (pick (one_of (tag_let ∷ tag_prefix ∷ tag_if ∷ tag_index ∷ tag_macro ∷ []) t) 2
    (pick (one_of (tag_infix ∷ tag_function ∷ []) t) 3 0))

-- whether k children of a tag are enough: a key wants its value
abbrev pub enough_of : ℕ → ℕ → Bool
enough_of t k = both (leb (least_of t) k) (either (not (eqb t tag_hash)) (eqb (k % 2) 0))
