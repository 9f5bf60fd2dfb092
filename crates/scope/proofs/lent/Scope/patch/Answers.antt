-- A jump is patched where its operand is within the code area.
use mathlib.Core.Path.{refl}
use Rattle.scope.proofs.Leaves.{patched}
use Rattle.scope.proofs.lent.Scope.patch.Goals as goal

pub returns : goal.returns
returns c = let s = c.args.self.now in record { done = patched s.area s.fits c.args.at c.change_operand.ensures; same = refl }
