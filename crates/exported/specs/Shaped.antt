-- What the exported function promises of the shape of a tree.
use Rattle.std.specs.Prelude.{ℕ, ◌≡◌, length}
use Rattle.definition.specs.Basic.{Bytes}
use Rattle.definition.specs.Tree.{read_tree}
use Rattle.shape.specs.Promise.{answer_of, output_of}
use Rattle.exported.specs.Packed.{Packs}

-- answer and output are those of `write_shape`
pub record ShapesPacked (tree o : Bytes) (r : ℕ) (o' : Bytes) : Type 0 where
  pub answer : Packs (answer_of (read_tree tree) tree (length o)) r
  pub output : o' ≡ output_of (read_tree tree) tree o
