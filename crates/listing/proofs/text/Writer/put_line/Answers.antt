-- `listing::text::Writer::put_line` meets its contract: position, word, operands and the end of the line.
use Rattle.listing.proofs.Puts.{both, reworded}
use Rattle.definition.specs.Listing.{operand_fields}
use Rattle.listing.proofs.text.Writer.put_line.Goals as goal

pub returns : goal.returns
returns c =
    let fields = reworded c.put_operands.ensures (λ j. operand_fields (c.operand_length.ensures j) c.args.i.operand (c.wide.ensures.is j)) in
    both (both (both c.put_padded.ensures (both c.put.ensures c.put_word.ensures)) fields) c.put_newline.ensures
