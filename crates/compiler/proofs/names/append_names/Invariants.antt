-- `append_names` appends the fields of the globals from an index on. The invariant: those passed are appended. Assumes nothing.
use Prim.Native.Nat.{◌+◌}
use lib.ListN.{get_or}
use Rattle.compiler.proofs.Appending.{Appending}
use Rattle.compiler.proofs.names.append_names.Given as goal

abbrev pub invariant-loop-v : goal.invariant-loop-v
invariant-loop-v l = Appending l.tree l.table l.from (get_or l.table 0 0) l.at l.initial.session (l.from + l.v-index) l.end l.session
