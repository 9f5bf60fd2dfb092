-- `listing::text::Writer::put_decimal` meets its contract: one digit, or more.
use mathlib.Core.Path.{sym, ap, ◌∙◌}
use mathlib.Core.List.{[], ◌∷◌}
use Rattle.listing.proofs.Puts.{reworded}
use Rattle.listing.proofs.Digits.{few}
use Rattle.listing.proofs.text.Writer.put_decimal.Goals as goal

pub returns-then-n-lt10 : goal.returns-then-n-lt10
returns-then-n-lt10 c = reworded c.put.ensures (ap (λ d. d ∷ []) c.digit.ensures ∙ sym (few 19 c.args.n c.if-n-lt10.true))
