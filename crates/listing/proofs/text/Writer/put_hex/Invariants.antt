-- `listing::text::Writer::put_hex` meets its contract: a byte a turn; the bytes so far decide.
use lib.ListN.{take}
use Rattle.definition.specs.Text.{hex}
use Rattle.listing.specs.Put.{Puts}
use Rattle.listing.proofs.text.Writer.put_hex.Given as goal

abbrev pub invariant-loop-b : goal.invariant-loop-b
invariant-loop-b l = Puts l.initial.self l.self (hex (take l.b-index l.bytes))
