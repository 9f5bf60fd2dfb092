-- `symbol_table::enclosed::enter_in` meets its contract.
use Rattle.symbol_table.specs.Store.{entered_in}
use Rattle.symbol_table.proofs.enclosed.enter_in.Goals as goal

pub returns : goal.returns
unfolding entered_in
returns c = cc
