-- `bytecode::zero::all_zero` meets its contract: the quarters and the rest are the list.
use Prim.Native.Nat.{◌/◌}
use native.Mathlib.Omega.{arith}
use lib.ListN.{length}
use Rattle.bytecode.proofs.Zeros.{quarters_zero}
use Rattle.bytecode.proofs.zero.all_zero.Goals as goal

pub returns : goal.returns
returns c =
    let b = c.args.bytes.now in
    let join-four = c.join_four-any in
    let join = c.join in
    quarters_zero b (length b / 4) (omega arith) join-four.result join.result join-four.ensures join.ensures
