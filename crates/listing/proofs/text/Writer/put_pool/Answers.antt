-- `listing::text::Writer::put_pool` meets its contract: its line, then its constants.
use mathlib.Core.Path.{ap}
use Rattle.definition.specs.Text.{decimal}
use Rattle.definition.specs.Listing.{also}
use Rattle.listing.proofs.Puts.{both, reworded}
use Rattle.listing.proofs.text.Writer.put_pool.Goals as goal

pub returns : goal.returns
returns c = λ cs k n.
    let counted = reworded c.put_field.ensures (ap (λ m. also (decimal m)) n) in
    both (both (both c.put_bytes.ensures counted) c.put_newline.ensures) (c.put_constants.ensures cs k)
