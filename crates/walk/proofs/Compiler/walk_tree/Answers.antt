-- The statements of a tree that reads stand there.
use mathlib.Core.Path.{refl}
use Rattle.walk.proofs.Tree.{tree_inside, tree_walks}
use Rattle.walk.proofs.Compiler.walk_tree.Goals as goal

pub walk_block-requires-clause-some : goal.walk_block-requires-clause-some
walk_block-requires-clause-some c = tree_inside refl c.requires.some

pub returns : goal.returns
returns c = let d = c.walk_block.ensures in record { walks = tree_walks refl d.walks; same = d.same }
