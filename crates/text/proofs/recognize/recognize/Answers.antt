-- `recognize` meets its contract: what is left of the text decides.
use native.Mathlib.Omega.{arith}
use mathlib.Core.Path.{ap, ◌∙◌}
use Rattle.std.specs.Prelude.{Err}
use Rattle.text.proofs.Turns.{begins, at-end, at_broken, at-large, token_seen, at_stuck, goes-on}
use Rattle.text.proofs.recognize.recognize.Goals as goal

pub loop-token-init : goal.loop-token-init
loop-token-init c = begins _ _

pub returns-in-Err-Finished : goal.returns-in-Err-Finished
returns-in-Err-Finished c =
    let found = c.in-Err-Finished in
    at-end _ _ _ _ _ c.loop-token.invariant c.next_token.ensures (found.is ∙ ap Err found.field-0-is) c.top.ensures c.at_end.ensures

pub returns-in-Err-Broken : goal.returns-in-Err-Broken
returns-in-Err-Broken c =
    let found = c.in-Err-Broken in
    c.refused.ensures ∙ at_broken _ _ _ _ _ c.loop-token.invariant c.next_token.ensures (found.is ∙ ap Err found.field-0-is)

pub returns-in-Err-Large : goal.returns-in-Err-Large
returns-in-Err-Large c =
    let found = c.in-Err-Large in
    at-large _ _ _ _ _ c.loop-token.invariant c.next_token.ensures (found.is ∙ ap Err found.field-0-is) c.top-in-Err-Large.ensures c.at_large.ensures

pub returns-in_default : goal.returns-in_default
returns-in_default c =
    c.refused-in_default.ensures ∙ at_stuck _ _ _ _ _ c.loop-token.invariant c.next_token.ensures c.in-Ok.is _ c.top-in-loop-token.ensures c.step.ensures c.in_default.is

pub change-requires : goal.change-requires
change-requires c =
    let going = c.loop-token.invariant in
    let seen = token_seen _ _ _ _ _ going c.next_token.ensures c.in-Ok.is in
    omega (arith, going.low, seen.behind, seen.early)

pub loop-token-smaller : goal.loop-token-smaller
loop-token-smaller c =
    let seen = token_seen _ _ _ _ _ c.loop-token.invariant c.next_token.ensures c.in-Ok.is in
    omega (arith, seen.behind, seen.inside)

pub loop-token-preserved : goal.loop-token-preserved
loop-token-preserved c =
    goes-on _ _ _ _ _ c.loop-token.invariant c.next_token.ensures c.in-Ok.is _ c.top-in-loop-token.ensures c.step.ensures c.in-Some.is c.change.ensures.is c.change.ensures.low
