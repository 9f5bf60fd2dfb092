-- `session::write::copy` meets its contract: a part as long as the copied bytes is lent to `bytes::copy`.
use Prim.Native.Nat.{◌+◌, ◌-◌}
use native.Mathlib.Omega.{arith}
use lib.ListN.{length}
use Rattle.session.proofs.Parts.{part_copied}
use Rattle.session.proofs.write.copy.Goals as goal

pub returns : goal.returns
returns c =
    let a = c.args in
    part_copied a.out.now a.at (a.at + length a.from.now - a.at) (omega arith) a.from.now (omega arith) c.copy_from_slice.ensures.after
