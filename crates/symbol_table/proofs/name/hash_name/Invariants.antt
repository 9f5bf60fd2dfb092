-- The loop's invariant: the hash so far, and what is left of the name, decide.
use Prim.Native.Nat.{◌<◌}
use mathlib.Core.Path.{◌≡◌}
use lib.ListN.{drop}
use Rattle.symbol_table.specs.Name.{hash_bound, hash_from, hash_of}
use Rattle.symbol_table.proofs.name.hash_name.Given as goal

abbrev pub invariant-loop-b : goal.invariant-loop-b
invariant-loop-b l = (l.hash < hash_bound) × (hash_of l.name ≡ hash_from l.hash (drop l.b-index l.name))
