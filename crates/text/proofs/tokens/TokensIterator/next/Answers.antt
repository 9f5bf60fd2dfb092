-- `next` meets its contract: a token ends behind where it was looked for.
use native.Mathlib.Omega.{arith}
use Rattle.std.proofs.lemmas.Grind.{common_steps}
use Rattle.text.proofs.OverTokens.{next_ends}
use Rattle.text.proofs.tokens.TokensIterator.next.Goals as goal

pub invariant_of-self : goal.invariant_of-self
invariant_of-self c =
    let s = c.args.self.now in
    let m = next_ends s.text.now s.at s.within _ c.next_token.ensures c.ok.ensures.value c.in_ok-token.was in
    record { within = m.inside }

pub returns-clause-goes : goal.returns-clause-goes
returns-clause-goes c =
    let s = c.args.self.now in
    let m = next_ends s.text.now s.at s.within _ c.next_token.ensures c.ok.ensures.value c.in_ok-token.was in
    grind (arith, common_steps, m.behind, m.inside)
