-- `symbol_table::marks::next_at` meets its contract.
use Rattle.symbol_table.proofs.Levels.{range_part, at_range, part_length}
use Rattle.symbol_table.proofs.marks.next_at.Goals as goal

pub mark_next-requires : goal.mark_next-requires
mark_next-requires c =
    let a = c.args in
    let r = c.part_range.ensures in
    rw (range_part a.level a.table.now r.start r.end) (record { part_len = part_length a.level a.table.now c.requires.part_size_in_bounds; marked_at_bound = c.requires.marked_at_bound })

pub returns : goal.returns
returns c =
    let r = c.part_range.ensures in
    at_range c.args.level c.args.table.now r.start r.end _ _ c.requires.part_size_in_bounds c.mark_next.auto.part c.mark_next.ensures
