-- `listing::text::Writer::put_signed` meets its contract: by the sign.
use Rattle.std.proofs.Common.{rules}
use mathlib.Core.Path.{ap, sym, ◌∙◌}
use Rattle.definition.specs.Text.{decimal}
use Rattle.listing.proofs.Puts.{both, reworded}
use Rattle.listing.proofs.Numbers.{shown}
use Rattle.listing.proofs.text.Writer.put_signed.Goals as goal

pub returns-then-is_negative : goal.returns-then-is_negative
returns-then-is_negative c =
    let s = shown c.args.bytes.now (search rules) (λ i. search rules) c.integer-n.ensures in
    let size = reworded c.put_decimal.ensures (ap decimal c.unsigned_abs-size.ensures.value) in
    reworded (both c.put.ensures size) (s.negative (sym c.is_negative.ensures ∙ c.if-is_negative.true))

pub returns : goal.returns
returns c =
    let s = shown c.args.bytes.now (search rules) (λ i. search rules) c.integer-n.ensures in
    reworded c.put_decimal-2.ensures (ap decimal c.unsigned_abs-size.ensures.value ∙ s.positive (sym c.is_negative.ensures ∙ c.if-is_negative.false))
