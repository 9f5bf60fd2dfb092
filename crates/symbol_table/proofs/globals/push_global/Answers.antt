-- `symbol_table::globals::push_global` meets its contract.
use mathlib.Core.Path.{refl}
use Rattle.symbol_table.specs.Store.{global_in}
use Rattle.symbol_table.proofs.globals.push_global.Goals as goal

pub returns : goal.returns
unfolding global_in
returns c = refl
