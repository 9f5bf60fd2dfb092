-- `names::compile_with_records` meets its contract: the call over records.
use Rattle.names.proofs.Whole.{written_records}
use Rattle.names.proofs.compile_with_records.Goals as goal

pub returns : goal.returns
returns c = written_records c.compile_over.ensures
