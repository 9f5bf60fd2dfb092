-- `listing::text::Writer::put_digits` meets its contract: the measure is how many digits there may be.
use mathlib.Core.Path.{sym, ap, ◌∙◌}
use mathlib.Core.List.{[], ◌∷◌}
use Rattle.listing.proofs.Puts.{none, both, reworded}
use Rattle.listing.proofs.Digits.{digits_none, digits_few, digits_more}
use Rattle.listing.proofs.text.Writer.+put_digits.Goals as goal

pub returns-then-most-eq0 : goal.returns-then-most-eq0
returns-then-most-eq0 t c = reworded (none _ c.args.self.now.within) (sym (digits_none _ _ c.if-most-eq0.true))

pub returns-then-n-lt10 : goal.returns-then-n-lt10
returns-then-n-lt10 t c = reworded c.put.ensures (ap (λ d. d ∷ []) c.digit.ensures ∙ sym (digits_few _ _ c.if-most-eq0.false c.if-n-lt10.true))

pub returns : goal.returns
returns t c =
    let last = reworded c.put-2.ensures (ap (λ d. d ∷ []) c.digit-2.ensures) in
    reworded (both c.put_digits.ensures last) (sym (digits_more _ _ c.if-most-eq0.false c.if-n-lt10.false))
