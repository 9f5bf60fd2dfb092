-- The items of a row, as parts.
use Rattle.std.specs.Prelude.{ℕ, List, [], ◌∷◌}
use Rattle.definition.specs.Tag.{tag_let, tag_name}
use Rattle.definition.specs.Node.{leaf}
use Rattle.load.specs.Draw.{drawn, Part, part, field_of}
use Rattle.load.specs.Load.{expression_need, statement_need, block_need, leaf_of, integer, prefix_operator, infix_operator, let_name, function_name, function_parameters, an_expression, a_statement, a_yielding, a_block, a_branch}
use Rattle.load.specs.declared.row.Item.{Item}
use Rattle.load.specs.declared.row.Item.TheVariants.{PrefixOperator, InfixOperator, Name, LetName, FunctionName, Parameters, Integer, Definition, Expression, Statement, Yielding, Block, Branch}

-- a name of one letter, an Integer, and a Let of both
abbrev pub a_name : ℕ → Part
a_name letter = part 4 (λ m s. drawn (leaf tag_name (letter ∷ [])) s)

abbrev pub an_integer : Part
an_integer = part 11 (λ m s. leaf_of integer s)

abbrev pub a_definition : ℕ → Part
a_definition letter = part statement_need (λ m s. field_of tag_let (a_name letter ∷ an_integer ∷ []) m s)

-- the part that an item stands for, with so many levels below
abbrev pub part_of : ℕ → Item → Part
part_of below PrefixOperator = prefix_operator
part_of below InfixOperator = infix_operator
part_of below (Name letter) = a_name letter
part_of below LetName = let_name
part_of below FunctionName = function_name
part_of below Parameters = function_parameters
part_of below Integer = an_integer
part_of below (Definition letter) = a_definition letter
part_of below Expression = an_expression below
part_of below Statement = a_statement below
part_of below Yielding = a_yielding below
part_of below Block = a_block below
part_of below Branch = a_branch below

-- and the parts of a row
abbrev pub parts : ℕ → List Item → List Part
parts below [] = []
parts below (x ∷ xs) = part_of below x ∷ parts below xs

-- the bytes that an item needs
abbrev pub need_of : Item → ℕ
need_of PrefixOperator = 4
need_of InfixOperator = 4
need_of (Name letter) = 4
need_of LetName = 4
need_of FunctionName = 4
need_of Parameters = 11
need_of Integer = 11
need_of (Definition letter) = statement_need
need_of Expression = expression_need
need_of Statement = statement_need
need_of Yielding = statement_need
need_of Block = block_need
need_of Branch = block_need
