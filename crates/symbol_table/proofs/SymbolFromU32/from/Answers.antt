-- `Symbol`'s `from` meets its contract: a code by its range.
use native.Mathlib.Omega.{arith}
use borrow.Author.Tests.{lt-ltb, le-ltb}
use Rattle.symbol_table.specs.Layout.{symbol_of}
use Rattle.symbol_table.proofs.SymbolFromU32.from.Goals as goal

pub returns-in-0-to-255 : goal.returns-in-0-to-255
unfolding symbol_of
returns-in-0-to-255 c = rw (lt-ltb c.args.code 256 (omega arith))

pub returns-in-256-to-511 : goal.returns-in-256-to-511
unfolding symbol_of
returns-in-256-to-511 c = rw (le-ltb c.args.code 256 (omega arith), lt-ltb c.args.code 512 (omega arith))

pub returns-in-512-to-767 : goal.returns-in-512-to-767
unfolding symbol_of
returns-in-512-to-767 c = rw (le-ltb c.args.code 256 (omega arith), le-ltb c.args.code 512 (omega arith), lt-ltb c.args.code 768 (omega arith))

pub returns-in-768-to-1023 : goal.returns-in-768-to-1023
unfolding symbol_of
returns-in-768-to-1023 c =
    rw (le-ltb c.args.code 256 (omega arith), le-ltb c.args.code 512 (omega arith), le-ltb c.args.code 768 (omega arith), lt-ltb c.args.code 1024 (omega arith))

pub returns-in_default : goal.returns-in_default
unfolding symbol_of
returns-in_default c =
    rw (le-ltb c.args.code 256 (omega arith), le-ltb c.args.code 512 (omega arith), le-ltb c.args.code 768 (omega arith), le-ltb c.args.code 1024 (omega arith))
