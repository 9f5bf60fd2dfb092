-- The loop's invariant: what is left of the two names decides.
use mathlib.Core.Path.{◌≡◌}
use lib.ListN.{drop}
use Rattle.definition.specs.SymbolTable.{same}
use Rattle.field.proofs.names.same_name.Given as goal

abbrev pub invariant-loop-i : goal.invariant-loop-i
invariant-loop-i l = same l.x l.y ≡ same (drop l.i l.x) (drop l.i l.y)
