-- `put` meets its contract.
use Rattle.load.proofs.Laws.{leaf_wrote}
use Rattle.load.proofs.leaf.put.Goals as goal

pub returns : goal.returns
returns c s = leaf_wrote _ _ s _ _ c.requires.in_bounds c.put_field.ensures
