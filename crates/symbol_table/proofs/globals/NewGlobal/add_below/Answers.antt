-- `symbol_table::globals::NewGlobal::add_below` meets its contract.
use mathlib.Core.Path.{refl}
use Rattle.symbol_table.proofs.Adding.{place_to}
use Rattle.symbol_table.proofs.globals.NewGlobal.add_below.Goals as goal

pub push_global-requires : goal.push_global-requires
push_global-requires c =
    let a = c.requires in
    record {
      globals_bound = a.room;
      at_lt_globals_size = place_to a refl c.find_place-place.ensures;
    }
