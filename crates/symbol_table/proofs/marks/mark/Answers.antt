-- `symbol_table::marks::mark` meets its contract.
use Prim.Native.Nat.{◌%◌}
use native.Mathlib.Omega.{arith}
use Rattle.symbol_table.specs.Store.{mark_in}
use Rattle.symbol_table.proofs.Marking.{shifted}
use Rattle.symbol_table.proofs.marks.mark.Goals as goal

pub returns : goal.returns
unfolding mark_in
returns c = rw (shifted (c.args.code % 1280 % 32) (omega arith))
