-- `name_tree` meets its contract: the tables from the names, then the pass over the statements.
use borrow.Author.Rules.{rules}
use native.Mathlib.Omega.{arith}
use Rattle.trace.proofs.Tree.{good_reads, tree_row, tree_standing, tree_passes}
use Rattle.trace.proofs.pass.name_tree.Goals as goal

pub name_statements-requires : goal.name_statements-requires
name_statements-requires c =
    record {
      some = tree_row (good_reads c.args.tree.now c.requires.tree_value);
      standing = tree_standing (good_reads c.args.tree.now c.requires.tree_value) c.start_from.ensures c.requires.has_words (omega (arith, c.requires.table_size_in_bounds, c.start_from.auto.table)) c.requires.code_size_in_bounds;
    }

pub returns : goal.returns
returns c =
    tree_passes (good_reads c.args.tree.now c.requires.tree_value) c.start_from.ensures c.name_statements.ensures.named.passes (search rules)
