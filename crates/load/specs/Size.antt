-- How many bytes fields within fields have.
use Rattle.std.specs.Prelude.{ℕ, ◌+◌, length}
use Rattle.definition.specs.Node.{Node, leaf, node, Nodes, none, ◌then◌}

unfoldable mutual
  -- a field's
  pub size : Node → ℕ
  size (leaf t c) = 3 + length c
  size (node t xs) = 3 + size_all xs

  pub size_all : Nodes → ℕ
  size_all none = 0
  size_all (x then xs) = size x + size_all xs
