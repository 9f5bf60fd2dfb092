-- `session::write::put_head` meets its contract: three bytes are the head stored.
use Prim.Native.Nat.{◌+◌, ◌-◌}
use native.Mathlib.Omega.{arith}
use mathlib.Core.List.{[], ◌∷◌}
use mathlib.Core.Path.{ap, ◌∙◌}
use lib.ListN.{get_or}
use Rattle.session.proofs.Parts.{part_copied}
use Rattle.session.specs.Write.{heading}
use Rattle.session.proofs.write.put_head.Goals as goal

pub returns : goal.returns
returns c =
    let a = c.args in
    part_copied a.out.now a.at (a.at + 3 - a.at) (omega arith) (heading a.tag a.len) (omega arith)
    (c.copy_from_slice.ensures.after ∙ ap (λ b. a.tag ∷ get_or b 6 0 ∷ get_or b 7 0 ∷ []) c.to_be_bytes.ensures)
