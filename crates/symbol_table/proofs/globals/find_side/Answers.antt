-- `symbol_table::globals::find_side` meets its contract: the latest of what the search finds.
use Rattle.symbol_table.proofs.Codes.{symbol_global}
use Rattle.symbol_table.proofs.globals.find_side.Goals as goal

pub returns-in-Hit : goal.returns-in-Hit
returns-in-Hit c r w = rw ((rw c.in-Hit.is at c.search.ensures).found r w, symbol_global)

pub returns-in-Open : goal.returns-in-Open
returns-in-Open c r w = rw ((rw c.in-Open.is at c.search.ensures).found r w)
