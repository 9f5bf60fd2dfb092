-- `chin::write_form` meets its contract: by the room.
use mathlib.Core.List.{◌++◌}
use mathlib.Core.Path.{◌∙◌, ap, sym}
use lib.ListN.{length, drop}
use lib.Seq.{take-length}
use Rattle.chin.proofs.Calls.{copied_short, copied_long}
use Rattle.chin.proofs.write_form.Goals as goal

pub returns-then-output-len : goal.returns-then-output-len
returns-then-output-len c =
    let a = c.args in
    rw c.refused.ensures (λ m is. copied_short a.from a.image.now is a.output.now c.if-output-len.true)

pub returns : goal.returns
returns c =
    let a = c.args in
    λ m is. copied_long a.from a.image.now is a.output.now c.if-output-len.false (ap (λ o. o ++ drop (length a.image.now) a.output.now) (c.copy_from_slice.ensures.after ∙ sym (take-length a.image.now))) (c.put_form.ensures m is)
