-- `symbol_table::globals::find_global` meets its contract.
use mathlib.Core.Path.{refl, sym, ap, ◌∙◌}
use Rattle.symbol_table.specs.Contract.{hit_of}
use Rattle.symbol_table.proofs.Seeking.{found_new, found_old}
use Rattle.symbol_table.proofs.globals.find_global.Goals as goal

pub find_side-requires : goal.find_side-requires
find_side-requires c =
    let x = c.requires.finds c.args.name.now.bytes.now in
    record { size = c.requires.size; count = c.requires.count; found = x.new; way = x.below_new }

pub find_side-requires-2 : goal.find_side-requires-2
find_side-requires-2 c =
    let x = c.requires.finds c.args.name.now.bytes.now in
    record { size = c.requires.size; count = c.requires.count; found = x.old; way = x.below_old }

pub returns-in-Some : goal.returns-in-Some
returns-in-Some c =
    let x = c.requires.finds c.args.name.now.bytes.now in
    rw x.latest (found_new x.old x.new refl (ap hit_of (sym c.in-Some.is) ∙ c.find_side.ensures x.new x.below_new))

pub returns : goal.returns
returns c =
    let x = c.requires.finds c.args.name.now.bytes.now in
    rw x.latest (found_old x.old x.new (ap hit_of (sym c.in_default.is) ∙ c.find_side.ensures x.new x.below_new) (c.find_side-2.ensures x.old x.below_old))
