-- `opcode::word_of` meets its contract: the table holds the words.
use Rattle.opcode.proofs.Words.{word_there, word_small}
use Rattle.opcode.proofs.word_of.Goals as goal

pub returns-clause-is : goal.returns-clause-is
returns-clause-is c = search word_there

pub returns-clause-short : goal.returns-clause-short
returns-clause-short c = search word_small
