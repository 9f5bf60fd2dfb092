-- `step::pool::put_counts` meets its contract: three bytes are stored.
use Prim.Native.Nat.{◌+◌, ◌-◌, ◌/◌, ◌%◌}
use native.Mathlib.Omega.{arith}
use mathlib.Core.List.{[], ◌∷◌}
use mathlib.Core.Path.{ap, ◌∙◌}
use lib.ListN.{get_or}
use Rattle.session.proofs.Parts.{part_copied}
use Rattle.step.proofs.pool.put_counts.Goals as goal

pub returns : goal.returns
returns c =
    let a = c.args in
    part_copied a.out.now a.at (a.at + 3 - a.at) (omega arith) (a.locals / 256 % 256 ∷ a.locals % 256 ∷ a.params % 256 ∷ []) (omega arith)
    (c.copy_from_slice.ensures.after ∙ ap (λ b. get_or b 6 0 ∷ get_or b 7 0 ∷ a.params % 256 ∷ []) c.to_be_bytes.ensures)
