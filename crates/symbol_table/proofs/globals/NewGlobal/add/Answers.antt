-- `symbol_table::globals::NewGlobal::add` meets its contract.
use mathlib.Core.Path.{sym, ap, ◌∙◌}
use Rattle.symbol_table.specs.Contract.{standing_as}
use Rattle.symbol_table.proofs.globals.NewGlobal.add.Goals as goal

pub add_first-requires : goal.add_first-requires
add_first-requires c = record { addable = c.requires; side_value = sym c.head.ensures ∙ ap standing_as c.in-None.is }
