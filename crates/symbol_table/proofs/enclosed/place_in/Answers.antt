-- `symbol_table::enclosed::place_in` meets its contract.
use native.Mathlib.Omega.{arith}
use Rattle.symbol_table.proofs.Defining.{locals_full, local_defined}
use Rattle.symbol_table.proofs.enclosed.place_in.Goals as goal

pub returns-then-n-ge-LOCALS : goal.returns-then-n-ge-LOCALS
returns-then-n-ge-LOCALS c = locals_full _ _ _ c.if-n-ge-LOCALS.true

pub returns : goal.returns
returns c = rw (c.define_in-d.ensures.value, c.define_in-d.ensures.part_after) (local_defined _ _ _ c.requires (omega arith) c.args.label.within)
