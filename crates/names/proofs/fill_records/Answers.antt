-- `names::fill_records` meets its contract: its slots are records.
use mathlib.Core.Path.{◌∙◌}
use Rattle.names.proofs.Rows.{over_alone}
use Rattle.names.proofs.fill_records.Goals as goal

pub returns : goal.returns
returns c = c.fill.ensures ∙ over_alone c.args.log.now c.args.n c.args.records.now
