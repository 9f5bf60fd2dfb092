-- `symbol_table::globals::NewGlobal::find_place` meets its contract: a global more goes where the search for its name ends.
use native.Mathlib.Omega.{arith}
use Rattle.symbol_table.proofs.globals.NewGlobal.find_place.Goals as goal

pub search-requires : goal.search-requires
search-requires c =
    let a = c.requires in
    rw c.content_at.ensures (record { size = a.size; count = omega (arith, a.room); found = a.found; way = a.way })
