-- `trial::output::put_cell` meets its contract: a kind, then a word.
use Rattle.std.proofs.Common.{◌∙◌}
use Rattle.trial.proofs.Shown.{cell-stored}
use Rattle.trial.proofs.output.put_cell.Goals as goal

pub returns : goal.returns
returns c = cell-stored c.args.output.now c.args.at c.args.kind c.args.word c.requires.0 (c.copy_from_slice.ensures.after ∙ c.to_be_bytes.ensures)
