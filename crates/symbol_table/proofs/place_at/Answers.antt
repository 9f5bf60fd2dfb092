-- `symbol_table::place_at` meets its contract.
use mathlib.Core.Path.{subst, sym}
use Rattle.symbol_table.specs.Layout.{Sized}
use Rattle.symbol_table.proofs.Levels.{range_part, at_range}
use Rattle.symbol_table.proofs.place_at.Goals as goal

pub place_in-requires : goal.place_in-requires
place_in-requires c =
    let r = c.part_range.ensures in
    subst Sized (sym (range_part c.args.level c.args.table.now r.start r.end)) c.requires.sized

pub returns : goal.returns
returns c =
    let r = c.part_range.ensures in
    at_range c.args.level c.args.table.now r.start r.end _ _ c.requires.part_size_in_bounds c.place_in.auto.part c.place_in.ensures
