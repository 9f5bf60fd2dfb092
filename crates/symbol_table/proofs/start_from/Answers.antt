-- `symbol_table::start_from` meets its contract.
use mathlib.Core.List.{[]}
use Rattle.symbol_table.proofs.Starting.{started}
use Rattle.symbol_table.proofs.start_from.Goals as goal

pub returns : goal.returns
returns c =
    let s = c in
    started _ _ _ _ _ (c.start_in.ensures.good []).size c.start_in.ensures
