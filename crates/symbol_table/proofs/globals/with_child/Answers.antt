-- `symbol_table::globals::with_child` meets its contract.
use Prim.Native.Nat.{◌/◌, ◌%◌}
use mathlib.Core.Path.{◌≡◌}
use native.Mathlib.Omega.{arith}
use Rattle.symbol_table.specs.Search.{child_of, with_child}
use Rattle.symbol_table.proofs.globals.with_child.Goals as goal

pub overflow_add-result : goal.overflow_add-result
unfolding child_of
overflow_add-result c =
    let z : c.args.node % 2048 ≡ 0 = rw c.in-Left.is at c.requires.side_value in
    omega arith

pub overflow_add-result-in-Right : goal.overflow_add-result-in-Right
unfolding child_of
overflow_add-result-in-Right c =
    let z : c.args.node / 2048 % 2048 ≡ 0 = rw c.in-Right.is at c.requires.side_value in
    omega arith

pub returns-in-Left : goal.returns-in-Left
unfolding with_child
returns-in-Left c = rw c.in-Left.is

pub returns-in-Right : goal.returns-in-Right
unfolding with_child
returns-in-Right c = rw c.in-Right.is
