-- What items cost: more where they are fields of items themselves.
use Rattle.std.proofs.Common.{ℕ, ◌+◌, List, [], ◌∷◌}
use Rattle.load.specs.declared.row.Item.{Item}
use Rattle.load.specs.declared.row.Item.TheVariants.{PrefixOperator, InfixOperator, Name, LetName, FunctionName, Parameters, Integer, Definition, Expression, Statement, Yielding, Block, Branch}

-- what an item costs
abbrev pub cost : Item → ℕ
cost PrefixOperator = 0
cost InfixOperator = 0
cost (Name letter) = 0
cost LetName = 0
cost FunctionName = 0
cost Parameters = 12
cost Integer = 0
cost (Definition letter) = 12
cost Expression = 0
cost Statement = 0
cost Yielding = 0
cost Block = 0
cost Branch = 0

-- and a row of them
abbrev pub costs : List Item → ℕ
costs [] = 0
costs (x ∷ xs) = cost x + 7 + costs xs
