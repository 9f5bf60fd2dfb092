-- `opcode::write_word` meets its contract: the word at the start of the output, where it fits.
use mathlib.Core.Path.{◌∙◌, ap, sym}
use native.Mathlib.Omega.{arith}
use lib.ListN.{length}
use Rattle.definition.specs.Output.{over}
use Rattle.opcode.proofs.Words.{word_short, word_written}
use Rattle.opcode.proofs.write_word.Goals as goal

pub returns-then-out-word : goal.returns-then-out-word
returns-then-out-word c =
    let facts = word_short {op = c.args.op} c.args.out.now (omega arith) (ap length (sym c.word_of-word.ensures.is)) (omega arith) in
    record { answers = c.refused-then-out-word.ensures ∙ facts.0; writes = facts.1 }

pub returns : goal.returns
returns c =
    let facts = word_written {op = c.args.op} c.args.out.now (omega arith) (ap length (sym c.word_of-word.ensures.is)) (omega arith) (c.put_word.ensures ∙ ap (λ w. over w c.args.out.now) c.word_of-word.ensures.is) in
    record { answers = facts.0; writes = facts.1 }
