-- `listing::text::Writer::put_hex_field` meets its contract: no field for no bytes.
use Rattle.std.proofs.Common.{rules}
use Rattle.listing.proofs.Puts.{both, reworded}
use Rattle.listing.proofs.Numbers.{some_hex}
use Rattle.listing.proofs.text.Writer.put_hex_field.Goals as goal

pub returns-then-not-is_empty : goal.returns-then-not-is_empty
returns-then-not-is_empty c = reworded (both c.put.ensures c.put_hex.ensures) (some_hex c.args.bytes.now (search rules))
