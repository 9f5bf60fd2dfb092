-- The loop's invariant: the entries below k decide.
use Prim.Native.Nat.{◌≤◌}
use mathlib.Core.Path.{◌≡◌}
use Rattle.definition.specs.SymbolTable.{find}
use Rattle.symbol_table.specs.Layout.{entries_at, entry_of, back, entries, table_of}
use Rattle.symbol_table.proofs.enclosed.find_in.Given as goal

abbrev pub invariant-loop-k : goal.invariant-loop-k
invariant-loop-k l = (l.k ≤ entries l.part.numbers.now) × (find l.name.bytes.now (table_of l.tree l.part.numbers.now).entries ≡ find l.name.bytes.now (back (entry_of l.tree) l.part.numbers.now entries_at l.k))

abbrev pub decreases-loop-k : goal.decreases-loop-k
decreases-loop-k l = l.k
