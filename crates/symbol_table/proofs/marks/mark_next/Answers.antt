-- `symbol_table::marks::mark_next` meets its contract.
use mathlib.Core.Path.{◌∙◌}
use Rattle.symbol_table.proofs.Marking.{next_marked}
use Rattle.symbol_table.proofs.marks.mark_next.Goals as goal

pub returns-in-Some : goal.returns-in-Some
returns-in-Some c =
    let s = c in
    let b = c.begin_marks-m in
    rw (c.in-Some.is, c.mark.ensures, b.ensures.value) (next_marked s.args.part.now b.new.part c.in-Some.code (b.auto.part ∙ s.requires.part_len) b.ensures.begins_marks)
