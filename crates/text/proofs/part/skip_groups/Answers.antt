-- `skip_groups` meets its contract: each parenthesis passed opens a group.
use native.Mathlib.Omega.{arith}
use mathlib.Core.Path.{ap, ◌∙◌}
use Rattle.text.specs.Kind.{number_of}
use Rattle.text.specs.declared.kind.Kind.TheVariants.{OpenParen}
use Rattle.text.proofs.Climbing.{skips_on, skips_end}
use Rattle.text.proofs.Numbers.{apart}
use Rattle.text.proofs.OverTokens.{given_seen, end_seen}
use Rattle.text.proofs.RowAt.{sees_ahead}
use Rattle.text.proofs.part.skip_groups.Goals as goal

pub loop-token-preserved : goal.loop-token-preserved
loop-token-preserved c =
    let i = c.loop-token.invariant in
    let n = c.in-Some.ensures.steps in
    let s = given_seen i.text i.at i.so_far.within n in
    let k = ap number_of c.in-OpenParen.is in
    record { text = n.text ∙ i.text; at = n.at; so_far = skips_on i.so_far s (sees_ahead s i.so_far.within (λ z. omega arith)) k }

pub returns-in_default : goal.returns-in_default
returns-in_default c =
    let i = c.loop-token.invariant in
    skips_end i.so_far (given_seen i.text i.at i.so_far.within c.in-Some.ensures.steps) (apart _ OpenParen c.in_default.not-OpenParen)

pub returns : goal.returns
returns c =
    let i = c.loop-token.invariant in
    skips_end i.so_far (end_seen i.text i.at i.so_far.within c.in-None.ensures.steps) (λ e. omega arith)
