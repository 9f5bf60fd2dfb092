-- `put_operator` meets its contract.
use Rattle.definition.specs.Tag.{tag_operator}
use Rattle.text.proofs.Contents.{field_stored}
use mathlib.Core.List.{[], ◌∷◌}
use native.Mathlib.Omega.{arith}
use Rattle.text.proofs.part.put_operator.Goals as goal

pub returns-clause-stored : goal.returns-clause-stored
returns-clause-stored c = field_stored tag_operator (_ ∷ []) c.args.to c.args.output.now c.store.ensures (omega arith) (rw c.empty.ensures at c.close.ensures.stored)
