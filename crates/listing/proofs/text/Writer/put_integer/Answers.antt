-- `listing::text::Writer::put_integer` meets its contract: its kind, its number and the end of the line.
use Rattle.listing.proofs.Puts.{both}
use Rattle.listing.proofs.text.Writer.put_integer.Goals as goal

pub returns : goal.returns
returns c = both c.put_bytes.ensures (both c.put_signed.ensures c.put_newline.ensures)
