-- `symbol_table::enclosed::capture_in` meets its contract.
use mathlib.Core.Path.{refl}
use Rattle.symbol_table.specs.Store.{free_in}
use Rattle.symbol_table.proofs.enclosed.capture_in.Goals as goal

pub returns : goal.returns
unfolding free_in
returns c = record {
  value = refl;
  part_after = rw c.push_entry.ensures;
}
