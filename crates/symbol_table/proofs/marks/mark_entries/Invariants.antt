-- The loop's invariant: the first i entries are marked, and nothing else changed.
use Rattle.symbol_table.specs.Lookups.{words_of, globals_of_area}
use Rattle.symbol_table.proofs.Remarking.{Marks}
use Rattle.symbol_table.proofs.marks.mark_entries.Given as goal

abbrev pub invariant-loop-i : goal.invariant-loop-i
invariant-loop-i l = Marks (words_of l.query) (globals_of_area l.query l.initial.table) l.query.key.tree.now l.level l.i l.initial.table l.table
