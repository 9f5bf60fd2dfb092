-- `listing::text::Writer::put_field` meets its contract: a space, then the number.
use Rattle.listing.proofs.Puts.{both}
use Rattle.listing.proofs.text.Writer.put_field.Goals as goal

pub returns : goal.returns
returns c = both c.put.ensures c.put_decimal.ensures
