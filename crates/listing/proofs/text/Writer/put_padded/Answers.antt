-- `listing::text::Writer::put_padded` meets its contract: zeros, then the number.
use Rattle.listing.proofs.Puts.{both}
use Rattle.listing.proofs.text.Writer.put_padded.Goals as goal

pub returns : goal.returns
returns c = both c.put_zeros.ensures c.put_decimal.ensures
