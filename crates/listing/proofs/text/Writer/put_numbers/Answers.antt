-- `listing::text::Writer::put_numbers` meets its contract: its kind, its three numbers and the end of the line.
use Rattle.listing.proofs.Puts.{both}
use Rattle.listing.proofs.text.Writer.put_numbers.Goals as goal

pub returns : goal.returns
returns c = both (both (both (both c.put_bytes.ensures c.put_field.ensures) c.put_field-2.ensures) c.put_field-3.ensures) c.put_newline.ensures
