-- `symbol_table::enclosed::define_in` meets its contract.
use mathlib.Core.Path.{refl}
use Rattle.symbol_table.specs.Store.{local_in}
use Rattle.symbol_table.proofs.enclosed.define_in.Goals as goal

pub returns : goal.returns
unfolding local_in
returns c = record {
  value = refl;
  part_after = rw c.push_entry.ensures;
}
