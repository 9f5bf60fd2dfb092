-- `symbol_table::globals::child` meets its contract.
use Rattle.symbol_table.specs.Search.{child_of}
use Rattle.symbol_table.proofs.globals.child.Goals as goal

pub returns-in-Left : goal.returns-in-Left
unfolding child_of
returns-in-Left c = rw c.in-Left.is c.standing.ensures

pub returns-in-Right : goal.returns-in-Right
unfolding child_of
returns-in-Right c = rw c.in-Right.is c.standing-in-Right.ensures
