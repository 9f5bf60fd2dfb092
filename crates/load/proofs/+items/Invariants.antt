-- The measures: the levels below, and within a level what the items cost.
use Rattle.std.proofs.Common.{◌+◌, ◌*◌}
use Rattle.load.proofs.Cost.{cost, costs}
use Rattle.load.proofs.+items.Given as goal

abbrev pub decreases-put_block : goal.decreases-put_block
decreases-put_block l = 128 * l.below + 4

abbrev pub decreases-put_branch : goal.decreases-put_branch
decreases-put_branch l = 128 * l.below + 4

abbrev pub decreases-put_expression : goal.decreases-put_expression
decreases-put_expression l = 128 * l.below + 4

abbrev pub decreases-put_item : goal.decreases-put_item
decreases-put_item l = 128 * l.below + (cost l.item + 6)

abbrev pub decreases-put_items : goal.decreases-put_items
decreases-put_items l = 128 * l.below + costs l.items.now

abbrev pub decreases-put_node : goal.decreases-put_node
decreases-put_node l = 128 * l.below + (costs l.items.now + 1)

abbrev pub decreases-put_row : goal.decreases-put_row
decreases-put_row l = 128 * l.below + 64

abbrev pub decreases-put_statement : goal.decreases-put_statement
decreases-put_statement l = 128 * l.below + 5

abbrev pub decreases-put_yielding : goal.decreases-put_yielding
decreases-put_yielding l = 128 * l.below + 4
