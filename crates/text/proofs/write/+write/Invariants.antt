-- The measures of the cycle: 16 for each byte that is left of the text, and the order of the calls; and its loops.
use Prim.Native.Nat.{◌+◌, ◌*◌, ◌-◌}
use Rattle.text.proofs.Climbing.{Climbing}
use Rattle.text.proofs.Looping.{Looping}
use Rattle.text.specs.Parse.{StatementsRow, ListRow}
use Rattle.text.specs.Parts.{end_of}
use Rattle.text.proofs.write.+write.Given as goal

abbrev pub decreases-write_block : goal.decreases-write_block
decreases-write_block l = 16 * (end_of l.text.now - l.from.at) + 5

abbrev pub decreases-write_clause : goal.decreases-write_clause
decreases-write_clause l = 16 * (end_of l.text.now - l.from.at) + 2

abbrev pub decreases-write_continued : goal.decreases-write_continued
decreases-write_continued l = 16 * (end_of l.text.now - l.token.end) + 9

abbrev pub decreases-write_else : goal.decreases-write_else
decreases-write_else l = 16 * (end_of l.text.now - l.from.at) + 6

abbrev pub decreases-write_expression : goal.decreases-write_expression
decreases-write_expression l = 16 * (end_of l.text.now - l.from.at) + 1

abbrev pub decreases-write_function : goal.decreases-write_function
decreases-write_function l = 16 * (end_of l.text.now - l.from.at) + 7

abbrev pub decreases-write_if : goal.decreases-write_if
decreases-write_if l = 16 * (end_of l.text.now - l.from.at) + 7

abbrev pub decreases-write_inside : goal.decreases-write_inside
decreases-write_inside l = 16 * (end_of l.text.now - l.from.at) + 8

abbrev pub decreases-write_let : goal.decreases-write_let
decreases-write_let l = 16 * (end_of l.text.now - l.from.at) + 2

abbrev pub decreases-write_list : goal.decreases-write_list
decreases-write_list l = 16 * (end_of l.text.now - l.from.at) + 7

abbrev pub decreases-write_one : goal.decreases-write_one
decreases-write_one l = 16 * (end_of l.text.now - l.from.at) + 3

abbrev pub decreases-write_operand : goal.decreases-write_operand
decreases-write_operand l = 16 * (end_of l.text.now - l.from.at)

abbrev pub decreases-write_statements : goal.decreases-write_statements
decreases-write_statements l = 16 * (end_of l.text.now - l.from.at) + 4

abbrev pub invariant-write_expression-loop-opened : goal.invariant-write_expression-loop-opened
invariant-write_expression-loop-opened l = Climbing l.least l.text l.at l.to l.left l.opened l.fn.output l.output l.so_far

abbrev pub decreases-write_expression-loop-opened : goal.decreases-write_expression-loop-opened
decreases-write_expression-loop-opened l = end_of l.text - l.so_far.at

abbrev pub invariant-write_list-loop-from : goal.invariant-write_list-loop-from
invariant-write_list-loop-from l = Looping ListRow l.text l.from.at l.from.to l.from.left l.initial.output l.output l.so_far

abbrev pub decreases-write_list-loop-from : goal.decreases-write_list-loop-from
decreases-write_list-loop-from l = end_of l.text - l.so_far.at

abbrev pub invariant-write_statements-loop-from : goal.invariant-write_statements-loop-from
invariant-write_statements-loop-from l = Looping StatementsRow l.text l.from.at l.from.to l.from.left l.initial.output l.output l.so_far

abbrev pub decreases-write_statements-loop-from : goal.decreases-write_statements-loop-from
decreases-write_statements-loop-from l = end_of l.text - l.so_far.at
