-- `listing::text::Writer::put_zeros` meets its contract: by the number's size.
use native.Mathlib.Omega.{arith}
use Rattle.listing.proofs.Puts.{none, reworded}
use Rattle.listing.proofs.Digits.{three_zeros, two_zeros, one_zero, no_zero}
use Rattle.listing.proofs.text.Writer.put_zeros.Goals as goal

pub returns-in-0-to-9 : goal.returns-in-0-to-9
returns-in-0-to-9 c = reworded c.put_bytes.ensures (three_zeros _ (omega arith))

pub returns-in-10-to-99 : goal.returns-in-10-to-99
returns-in-10-to-99 c = reworded c.put_bytes-in-10-to-99.ensures (two_zeros _ (omega arith) (omega arith))

pub returns-in-100-to-999 : goal.returns-in-100-to-999
returns-in-100-to-999 c = reworded c.put_bytes-in-100-to-999.ensures (one_zero _ (omega arith) (omega arith))

pub returns-else-n-lt1000 : goal.returns-else-n-lt1000
returns-else-n-lt1000 c = reworded (none _ c.args.self.now.within) (no_zero _ (omega arith))
