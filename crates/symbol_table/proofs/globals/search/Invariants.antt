-- The loop's invariant: what is left of the way decides where the search ends.
use Prim.Native.Nat.{◌-◌, ◌%◌}
use Rattle.symbol_table.specs.Search.{side_number, turn_number}
use Rattle.symbol_table.proofs.Seeking.{Sought}
use Rattle.symbol_table.specs.Contract.{standing_as}
use Rattle.symbol_table.proofs.globals.search.Given as goal

abbrev pub invariant-loop-next : goal.invariant-loop-next
invariant-loop-next l = Sought l.bytes (side_number l.fn.side) l.globals l.name.bytes.now l.at (turn_number l.on) (standing_as l.next) l.depth

abbrev pub decreases-loop-next : goal.decreases-loop-next
decreases-loop-next l = (2048 - (standing_as l.next)) % 2048
