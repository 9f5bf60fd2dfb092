-- `listing::text::Writer::put_operands` meets its contract: by the number of operand bytes.
use Rattle.std.proofs.Common.{rules}
use Rattle.listing.proofs.Puts.{both, reworded}
use Rattle.listing.proofs.Lines.{two_operands}
use Rattle.listing.proofs.text.Writer.put_operands.Goals as goal

pub returns-in_default : goal.returns-in_default
returns-in_default c = reworded (both c.put_field-in_default.ensures c.put_field-in_default-2.ensures) (two_operands c.args.a c.args.b c.args.width (search rules))
