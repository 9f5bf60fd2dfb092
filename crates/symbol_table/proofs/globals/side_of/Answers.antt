-- `symbol_table::globals::side_of` meets its contract.
use borrow.Author.Tests.{lt-ltb, le-ltb, lt-leb, le-leb}
use Rattle.symbol_table.specs.Search.{side_of}
use Rattle.symbol_table.proofs.globals.side_of.Goals as goal

pub returns-then-depth-lt-SIDE_BITS : goal.returns-then-depth-lt-SIDE_BITS
unfolding side_of
returns-then-depth-lt-SIDE_BITS c = rw (lt-ltb _ 22 c.if-depth-lt-SIDE_BITS.true) c.by.ensures

pub returns-then-name-i : goal.returns-then-name-i
unfolding side_of
returns-then-name-i c = rw (le-ltb _ 22 c.if-depth-lt-SIDE_BITS.false, le-leb _ _ c.if-name-i.true)

pub returns : goal.returns
unfolding side_of
returns c = rw (le-ltb _ 22 c.if-depth-lt-SIDE_BITS.false, lt-leb _ _ c.if-name-i.false, ← c.from.ensures) c.by-2.ensures
