-- `symbol_table::enter` meets its contract.
use mathlib.Core.Path.{◌∙◌, ap}
use Rattle.std.specs.Prelude.{length}
use Rattle.symbol_table.proofs.Levels.{range_part, at_range, part_length}
use Rattle.symbol_table.proofs.Defining.{entered}
use Rattle.symbol_table.proofs.enter.Goals as goal

pub open_in-requires-clause-part_len : goal.open_in-requires-clause-part_len
open_in-requires-clause-part_len c =
    let a = c.args in
    let r = c.part_range.ensures in
    ap length (range_part a.level a.table.now r.start r.end) ∙ part_length a.level a.table.now c.requires.part_size_in_bounds

pub returns : goal.returns
returns c h =
    let r = c.part_range.ensures in
    entered _ _ _ _ _ _ (at_range c.args.level c.args.table.now r.start r.end _ _ c.requires.part_size_in_bounds c.open_in.auto.part (c.open_in.ensures h))
