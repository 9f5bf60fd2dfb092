-- `listing::lengths::padded_length` meets its contract: by the number's size.
use mathlib.Core.Path.{◌∙◌}
use native.Mathlib.Omega.{arith}
use Rattle.listing.proofs.Digits.{padded_few, padded_more}
use Rattle.listing.proofs.lengths.padded_length.Goals as goal

pub returns-then-n-lt10000 : goal.returns-then-n-lt10000
returns-then-n-lt10000 c =
    let if1 = c.if-n-lt10000 in
    record {
      is = padded_few _ if1.true;
      small = omega arith;
    }

pub returns : goal.returns
returns c =
    let decimal-length = c.decimal_length in
    let if1 = c.if-n-lt10000 in
    record {
      is = decimal-length.ensures.is ∙ padded_more _ if1.false;
      small = omega arith;
    }
