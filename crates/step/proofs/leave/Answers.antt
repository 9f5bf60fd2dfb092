-- `step::leave` meets its contract: the end of the function's chunk, and its closing.
use mathlib.Core.Path.{refl, ◌∙◌}
use Rattle.definition.proofs.Basic.{passed_on}
use Rattle.step.proofs.Closed.{leave_closable, leave-on, leave_stop}
use Rattle.step.proofs.Framed.{leaves_alone, state_walked}
use Rattle.step.proofs.Memory.{always_ready}
use Rattle.step.proofs.leave.Goals as goal

pub close-requires : goal.close-requires
close-requires c = leave_closable _ c.in_ok-returned.ensures.done c.requires.fits c.requires.deeper c.requires.fine_for

pub returns : goal.returns
returns c =
    let t = c.close.new.scope in
    let left = leave-on _ _ c.in_ok-returned.ensures.done c.close.ensures.closed (always_ready c.close.result t) in
    record { closed = record { leaves = left; same = c.close.ensures.same ∙ c.in_ok-returned.ensures.same }; alone = leaves_alone (state_walked c.close.result t.state) c.requires.fine_for left }

pub returns-in_err-returned : goal.returns-in_err-returned
returns-in_err-returned c =
    let d = c.in_err-returned.ensures in
    let left = leave_stop _ c.args.params d.done in
    rw (passed_on c.from_residual.ensures.1) (record { closed = record { leaves = left; same = d.same }; alone = leaves_alone refl c.requires.fine_for left })
