-- `symbol_table::globals::place_global` meets its contract.
use Rattle.symbol_table.proofs.Keys.{is_name}
use Rattle.symbol_table.proofs.Adding.{addable_new}
use Rattle.symbol_table.proofs.Defining.{globals_full, global_defined}
use Rattle.symbol_table.proofs.globals.place_global.Goals as goal

pub returns-then-k-ge-GLOBALS : goal.returns-then-k-ge-GLOBALS
returns-then-k-ge-GLOBALS c = globals_full _ _ _ c.if-k-ge-GLOBALS.true

pub add-requires : goal.add-requires
add-requires c = addable_new c.requires.1 c.if-k-ge-GLOBALS.false (is_name c.args.key.now) c.args.key.now.within

pub returns : goal.returns
returns c =
    global_defined _ _ _ _ c.requires.1.size c.if-k-ge-GLOBALS.false c.args.key.now.within c.args.key.now.stands c.add.ensures
