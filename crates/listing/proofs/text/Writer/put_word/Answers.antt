-- `listing::text::Writer::put_word` meets its contract: the word, or nothing.
use mathlib.Core.Path.{sym, ap}
use native.Mathlib.Omega.{arith}
use Rattle.std.proofs.lemmas.List.{get_or_past}
use Rattle.definition.specs.Text.{ascii}
use Rattle.definition.specs.Listing.{words}
use Rattle.listing.proofs.Puts.{none, reworded}
use Rattle.listing.proofs.text.Writer.put_word.Goals as goal

pub returns-then-wide-lt-INSTRUCTIONS : goal.returns-then-wide-lt-INSTRUCTIONS
returns-then-wide-lt-INSTRUCTIONS c = reworded c.put_bytes.ensures c.word_of.ensures.is

pub returns-else-wide-lt-INSTRUCTIONS : goal.returns-else-wide-lt-INSTRUCTIONS
returns-else-wide-lt-INSTRUCTIONS c = reworded (none _ c.args.self.now.within) (sym (ap ascii (get_or_past words c.args.op "" (omega (arith, c.wide.ensures.is, c.if-wide-lt-INSTRUCTIONS.false)))))
