-- `session::zero::clear` meets its contract: the part is filled with zeros.
use Prim.Native.Nat.{◌-◌}
use native.Mathlib.Omega.{arith}
use Rattle.session.proofs.Parts.{part_zeroed}
use Rattle.session.proofs.zero.clear.Goals as goal

pub returns : goal.returns
returns c =
    let a = c.args in
    part_zeroed a.session.now a.from (a.to - a.from) (omega arith) (c.fill.ensures.after (λ y e. e))
