-- `symbol_table::query::cross_at` meets its contract.
use mathlib.Core.Path.{subst, sym}
use Rattle.symbol_table.specs.Layout.{Sized}
use Rattle.symbol_table.proofs.Levels.{range_part, at_range}
use Rattle.symbol_table.proofs.query.cross_at.Goals as goal

pub cross_in-requires-clause-sized : goal.cross_in-requires-clause-sized
cross_in-requires-clause-sized c =
    let r = c.part_range.ensures in
    subst Sized (sym (range_part c.args.level c.args.table.now r.start r.end)) c.requires.sized

pub returns : goal.returns
returns c =
    let r = c.part_range.ensures in
    at_range c.args.level c.args.table.now r.start r.end _ _ c.requires.part_size_in_bounds c.cross_in.auto.part c.cross_in.ensures
