-- The grammar as the code goes by it: what is wanted of a field and of a tag's first four children, and the tests of a field against it.
use Rattle.std.specs.Prelude.{ℕ, Bool, true, leb, eqb, List, [], ◌∷◌, Option, Some, None}
use Rattle.tree.specs.declared.grammar.Wanted.{Wanted}
use Rattle.definition.specs.Basic.{pick, both}
use Rattle.definition.specs.Limit.{name_limit}
use Rattle.definition.specs.Tag.{tag_expr_stmt, tag_block, tag_return, tag_identifier, tag_call, tag_integer, tag_boolean, tag_macro, tag_name, tag_params, tag_operator}
use Rattle.tree.specs.Grammar.{Kind, Statement, Block, Expression, Name, Params, Operator, Nothing, either, child_kind, enough_of}

-- whether the content of a tag's field may end after k children; whether a call has any is tested on its own
abbrev pub may_end : ℕ → ℕ → Bool
may_end t k = either (eqb t tag_call) (enough_of t k)

-- a field of a kind, before which the content may end, or may not; none where nothing may stand
abbrev pub marked : Bool → Kind → Option Wanted
marked ends Statement = Some (record { low = tag_expr_stmt; high = tag_return; least = 0; ends = ends })
marked ends Block = Some (record { low = tag_block; high = tag_block; least = 0; ends = ends })
marked ends Expression = Some (record { low = tag_identifier; high = tag_macro; least = 0; ends = ends })
marked ends (Name least) = Some (record { low = tag_name; high = tag_name; least = least; ends = ends })
marked ends Params = Some (record { low = tag_params; high = tag_params; least = 0; ends = ends })
marked ends Operator = Some (record { low = tag_operator; high = tag_operator; least = 0; ends = ends })
marked ends Nothing = None

-- what child k of a tag must be
unfoldable pub wanted : ℕ → ℕ → Option Wanted
wanted t k = marked (may_end t k) (child_kind t k)

-- what the first four children of a tag must be
unfoldable pub kinds_of : ℕ → List (Option Wanted)
kinds_of t = wanted t 0 ∷ wanted t 1 ∷ wanted t 2 ∷ wanted t 3 ∷ []

-- a tag that is wanted
abbrev pub good_tag : Wanted → ℕ → Bool
good_tag w t = both (leb w.low t) (leb t w.high)

-- one byte, of which there is a greatest
abbrev pub good_byte : ℕ → ℕ → ℕ → Bool
good_byte len first most = both (eqb len 1) (leb first most)

-- the length and the first byte of a field of a tag
abbrev pub good_content : Wanted → ℕ → ℕ → ℕ → Bool
good_content w t len first =
    pick (eqb t tag_identifier) (both (leb 1 len) (leb len name_limit))
    (pick (eqb t tag_integer) (eqb len 8)
    (pick (eqb t tag_boolean) (good_byte len first 1)
    (pick (eqb t tag_name) (both (leb w.least len) (leb len name_limit))
    (pick (eqb t tag_operator) (good_byte len first 9) true))))
