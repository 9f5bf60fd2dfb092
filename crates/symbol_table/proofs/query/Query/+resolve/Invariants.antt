-- The measure is the number of open functions.
use Rattle.symbol_table.proofs.query.Query.+resolve.Given as goal

abbrev pub decreases-resolve : goal.decreases-resolve
decreases-resolve l = l.level
