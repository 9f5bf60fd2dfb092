-- `capi::monkey_next_token` meets its contract: the answer of `next_token`, as one number, and its three numbers.
use lib.ListN.{length}
use mathlib.Core.Path.{ap, ◌∙◌}
use Rattle.exported.specs.Token.{numbers_answer, numbers_into}
use Rattle.exported.proofs.Fits.{fits_as, packs_as, token-fits}
use Rattle.capi.proofs.monkey_next_token.Goals as goal

pub pack-requires : goal.pack-requires
pack-requires c = fits_as (c.put_token-answer.ensures.answer ∙ ap (λ r. numbers_answer r (length c.args.token.now)) c.next_token.ensures) (token-fits _ _ _)

pub returns : goal.returns
returns c = record {
  answer = packs_as (c.put_token-answer.ensures.answer ∙ ap (λ r. numbers_answer r (length c.args.token.now)) c.next_token.ensures) c.pack.ensures;
  output = c.put_token-answer.ensures.output ∙ ap (λ r. numbers_into r c.args.token.now) c.next_token.ensures;
}
