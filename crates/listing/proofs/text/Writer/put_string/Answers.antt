-- `listing::text::Writer::put_string` meets its contract: its kind, its length, its bytes and the end of the line.
use Rattle.listing.proofs.Puts.{both}
use Rattle.listing.proofs.text.Writer.put_string.Goals as goal

pub returns : goal.returns
returns c = both (both (both c.put_bytes.ensures c.put_field.ensures) c.put_hex_field.ensures) c.put_newline.ensures
