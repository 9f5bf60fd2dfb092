-- `listing::text::Writer::put_code` meets its contract: a line a turn; what is left decides.
use Rattle.std.proofs.Common.{refl, sym}
use Rattle.opcode.proofs.EachInstruction.{over_again, read_at, all_read}
use Rattle.listing.proofs.Lines.{same, code_ends, code_not_refused, code_again}
use Rattle.listing.proofs.text.Writer.put_code.Goals as goal

pub loop-place-preserved : goal.loop-place-preserved
loop-place-preserved c =
    let l = c.loop-place in
    let n = c.in-Some.ensures.steps in
    let r = read_at l.invariant.over n in
    let q = code_again (same l.invariant.so_far (sym n.here)) c.requires r.before refl r.read c.put_line.ensures in
    record { over = over_again l.invariant.over n; so_far = same q (sym n.behind) }

pub returns : goal.returns
returns c =
    let l = c.loop-place in
    let e = all_read l.invariant.over c.in-None.ensures.steps (λ h q t. code_not_refused l.invariant.so_far c.requires h refl t) in
    λ x k. code_ends l.invariant.so_far e k
