-- `listing::lengths::string_length` meets its contract: by whether there are bytes.
use mathlib.Core.Path.{ap}
use native.Mathlib.Omega.{arith}
use lib.ListN.{length}
use Rattle.definition.specs.Text.{decimal}
use Rattle.listing.proofs.TextLengths.{string_some}
use Rattle.listing.proofs.lengths.string_length.Goals as goal

pub returns : goal.returns
returns c =
    let if1 = c.if-len-eq0 in
    let decimal-length = c.decimal_length-before in
    record {
      is = λ b e. omega (arith, string_some b (λ z. if1.false (omega arith)), decimal-length.ensures.is, ap (λ n. length (decimal n)) e);
      small = omega arith;
    }
