-- `step::define` meets its contract: the symbol table's answer, told.
use Rattle.step.proofs.Symbols.{beside_good, define-on}
use Rattle.step.proofs.define.Goals as goal

pub define-requires-clause-good : goal.define-requires-clause-good
define-requires-clause-good c = rw (c.new-key.ensures.tree, c.first-name.ensures.bytes) (beside_good c.requires.fine_beside)

pub returns : goal.returns
returns c = define-on _ c.define.auto.table (rw (c.new-key.ensures.tree, c.new-key.ensures.at, c.first-name.ensures.bytes, c.first-name.ensures.at) at c.define.ensures) c.placed.ensures
