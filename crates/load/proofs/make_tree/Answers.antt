-- `make_tree` meets its contract: the tree, then a copy of it where it fits.
use Rattle.std.proofs.Common.{arith, ◌∙◌}
use Rattle.load.proofs.Whole.{tree_refused, tree_written}
use Rattle.load.proofs.make_tree.Goals as goal

pub returns-then-output-n : goal.returns-then-output-n
returns-then-output-n c = let facts = tree_refused c.args.seed c.args.output.now c.put_program-n.ensures (omega arith) in
    record { answers = c.refused.ensures ∙ facts.0; writes = facts.1 }

pub returns : goal.returns
returns c = let facts = tree_written c.args.seed c.args.output.now c.put_program-n.ensures (omega arith) c.copy_from_slice.ensures.after in
    record { answers = facts.0; writes = facts.1 }
