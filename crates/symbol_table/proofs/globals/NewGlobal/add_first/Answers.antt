-- `symbol_table::globals::NewGlobal::add_first` meets its contract.
use mathlib.Core.Path.{refl}
use Rattle.symbol_table.specs.Search.{hangs}
use Rattle.symbol_table.proofs.Adding.{added}
use Rattle.symbol_table.proofs.globals.NewGlobal.add_first.Goals as goal

pub returns : goal.returns
returns c =
    let number = rw c.turn.ensures at c.with_child-number.ensures in
    added c.requires.addable refl (hangs c.requires.side_value refl number) (rw c.global.ensures at c.push_global.ensures)
