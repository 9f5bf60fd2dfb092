-- `next_token` meets its contract: what the scanner sees at the offset, before where tokens end at the latest.
use native.Mathlib.Omega.{arith}
use mathlib.Core.Path.{ap, ◌∙◌}
use Rattle.std.specs.Prelude.{Err}
use Rattle.text.specs.Next.{three_of}
use Rattle.text.proofs.RowAt.{end_within}
use Rattle.text.proofs.Told.{told_behind, told_seen, found_early, finished_early}
use Rattle.text.proofs.next.next_token.Goals as goal

pub returns-then-end-at : goal.returns-then-end-at
returns-then-end-at c = ap three_of c.refused.ensures ∙ told_behind _ _ c.text_end-end.ensures c.if-end-at.true

pub next_token-requires : goal.next_token-requires
next_token-requires c = omega (arith, c.if-end-at.false, c.text_end-end.ensures, end_within c.args.text.now)

pub overflow_sub-result : goal.overflow_sub-result
overflow_sub-result c = (found_early _ _ c.text_end-end.ensures c.if-end-at.false c.next_token.ensures c.in-Ok.is).0

pub invariant_of-result : goal.invariant_of-result
invariant_of-result c =
    let f = found_early _ _ c.text_end-end.ensures c.if-end-at.false c.next_token.ensures c.in-Ok.is in
    record { early = omega (arith, f.0, f.1) }

pub invariant_of-result-in-Err-Finished : goal.invariant_of-result-in-Err-Finished
invariant_of-result-in-Err-Finished c =
    let f = finished_early _ _ c.text_end-end.ensures c.if-end-at.false c.next_token.ensures (c.in-Err-Finished.is ∙ ap Err c.in-Err-Finished.field-0-is) in
    record { early = omega (arith, f) }

pub returns-in-Ok : goal.returns-in-Ok
returns-in-Ok c = told_seen _ _ c.text_end-end.ensures c.if-end-at.false c.next_token.ensures c.in-Ok.is

pub returns-in-Err-Finished : goal.returns-in-Err-Finished
returns-in-Err-Finished c = told_seen _ _ c.text_end-end.ensures c.if-end-at.false c.next_token.ensures (c.in-Err-Finished.is ∙ ap Err c.in-Err-Finished.field-0-is)

pub returns-in-Err-Broken : goal.returns-in-Err-Broken
returns-in-Err-Broken c = ap three_of c.refused-in-Err-Broken.ensures ∙ told_seen _ _ c.text_end-end.ensures c.if-end-at.false c.next_token.ensures (c.in-Err-Broken.is ∙ ap Err c.in-Err-Broken.field-0-is)

pub returns-in-Err-Large : goal.returns-in-Err-Large
returns-in-Err-Large c = ap three_of c.refused-in-Err-Large.ensures ∙ told_seen _ _ c.text_end-end.ensures c.if-end-at.false c.next_token.ensures (c.in-Err-Large.is ∙ ap Err c.in-Err-Large.field-0-is)
