-- `walk::compile_tree` meets its contract: the statements of a tree that reads stand there.
use Rattle.walk.proofs.Tree.{tree_short}
use Rattle.walk.proofs.compile_tree.Goals as goal

pub walk_tree-requires-clause-standing : goal.walk_tree-requires-clause-standing
walk_tree-requires-clause-standing c = record { fine = c.requires.fine; short = tree_short c.requires.some }
