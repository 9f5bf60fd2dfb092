-- `names::compile_names` meets its contract: the call over numbers, four for each record.
use Rattle.names.proofs.Whole.{written_names}
use Rattle.names.proofs.compile_names.Goals as goal

pub returns : goal.returns
returns c = written_names c.compile_over.ensures
