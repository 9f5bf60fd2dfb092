-- `listing::text::Writer::put_function` meets its contract: its line, then its code.
use Rattle.listing.proofs.Puts.{both, reworded}
use Rattle.listing.proofs.Constants.{function_text}
use Rattle.listing.proofs.text.Writer.put_function.Goals as goal

pub returns : goal.returns
returns c = λ x k. reworded (both c.put_numbers.ensures (c.put_code.ensures x k)) (function_text c.args.content.bytes.now c.args.content.start c.args.content.end k c.word-locals.ensures.is c.wide-parameters.ensures.is)
