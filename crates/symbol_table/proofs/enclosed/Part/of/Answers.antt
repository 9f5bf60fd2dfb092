-- `symbol_table::enclosed::Part::of` meets its contract.
use mathlib.Core.Path.{◌∙◌, ap}
use Rattle.std.specs.Prelude.{length}
use Rattle.symbol_table.proofs.Levels.{range_part, part_length}
use Rattle.symbol_table.proofs.enclosed.Part.of.Goals as goal

pub invariant_of-result : goal.invariant_of-result
invariant_of-result c =
    let r = c.part_range.ensures in
    record { size = ap length (range_part c.args.level c.args.table.now r.start r.end) ∙ part_length c.args.level c.args.table.now c.requires }

pub returns : goal.returns
returns c =
    let r = c.part_range.ensures in
    range_part c.args.level c.args.table.now r.start r.end
