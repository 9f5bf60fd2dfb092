-- `make_room` meets its contract, by the library's copy.
use mathlib.Core.Path.{◌∙◌}
use Rattle.text.proofs.Storing.{moved_within}
use Rattle.text.proofs.part.make_room.Goals as goal

pub returns-then-end-by : goal.returns-then-end-by
returns-then-end-by c = c.copy_within.ensures.after ∙ moved_within c.args.output.now c.args.from c.args.end c.args.by c.requires.0 c.if-end-by.true
