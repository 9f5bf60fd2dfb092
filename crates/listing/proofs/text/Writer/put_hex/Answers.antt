-- `listing::text::Writer::put_hex` meets its contract: a byte a turn; the bytes so far decide.
use Rattle.listing.proofs.Puts.{both, reworded}
use Rattle.listing.proofs.Numbers.{hex_again}
use Rattle.listing.proofs.text.Writer.put_hex.Goals as goal

pub loop-b-preserved : goal.loop-b-preserved
loop-b-preserved c = reworded (both c.loop-b.invariant c.put_hex_byte.ensures) (hex_again c.args.bytes.now c.loop-b.b-index c.loop-b-test.true)
