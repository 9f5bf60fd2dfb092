-- Fields within fields, and their bytes.
use Rattle.std.specs.Prelude.{ℕ, suc, [], ◌∷◌, ◌++◌, leb}
use Rattle.definition.specs.Basic.{Bytes, pick}
use Rattle.definition.specs.Tag.{tag_operator}
use Rattle.definition.specs.Field.{field}

mutual
  -- a field of bytes, or a field of fields
  pub data Node : Type 0 where
    leaf : ℕ → Bytes → Node
    node : ℕ → Nodes → Node

  pub data Nodes : Type 0 where
    none : Nodes
    ◌then◌ : Node → Nodes → Nodes

infixr 5 ◌then◌
-- one
abbrev pub one : Node → Nodes
one x = x then none

-- an operator's field
abbrev pub operator : ℕ → Node
operator o = leaf tag_operator (o ∷ [])

unfoldable mutual
  -- a field's bytes
  pub written : Node → Bytes
  written (leaf t c) = field t c
  written (node t xs) = field t (written_all xs)

  pub written_all : Nodes → Bytes
  written_all none = []
  written_all (x then xs) = written x ++ written_all xs

-- the larger
abbrev pub larger : ℕ → ℕ → ℕ
larger m n = pick (leb m n) n m

unfoldable mutual
  -- how many levels of fields there are
  pub levels : Node → ℕ
  levels (leaf t c) = 1
  levels (node t xs) = suc (levels_all xs)

  pub levels_all : Nodes → ℕ
  levels_all none = 0
  levels_all (x then xs) = larger (levels x) (levels_all xs)
