-- `write_script` meets its contract.
use Rattle.text.proofs.Read.{puts_tree}
use Rattle.text.proofs.write.write_script.Goals as goal

pub returns : goal.returns
returns c = puts_tree c.write_statements-inside.ensures c.close.ensures.part c.close.ensures.stored
