-- `listing::lengths::signed_length` meets its contract: by the sign.
use native.Mathlib.Omega.{arith}
use Rattle.std.proofs.Common.{rules}
use mathlib.Core.Path.{ap, sym, ◌∙◌}
use lib.ListN.{length}
use Rattle.definition.specs.Text.{decimal}
use Rattle.listing.proofs.Numbers.{shown}
use Rattle.listing.proofs.lengths.signed_length.Goals as goal

pub returns-then-is_negative-clause-is : goal.returns-then-is_negative-clause-is
returns-then-is_negative-clause-is c =
    let s = shown c.args.bytes.now (search rules) (λ i. search rules) c.integer-n.ensures in
    omega (arith, c.decimal_length-size.ensures.is, ap (λ n. length (decimal n)) c.unsigned_abs.ensures.value, ap length (s.negative (sym c.is_negative.ensures ∙ c.if-is_negative.true)))

pub returns-else-is_negative-clause-is : goal.returns-else-is_negative-clause-is
returns-else-is_negative-clause-is c =
    let s = shown c.args.bytes.now (search rules) (λ i. search rules) c.integer-n.ensures in
    c.decimal_length-size.ensures.is ∙ ap (λ n. length (decimal n)) c.unsigned_abs.ensures.value ∙ ap length (s.positive (sym c.is_negative.ensures ∙ c.if-is_negative.false))
