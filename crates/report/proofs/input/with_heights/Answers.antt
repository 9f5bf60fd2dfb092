-- `report::input::with_heights` meets its contract: the heights are those that were written.
use mathlib.Core.Path.{refl}
use Rattle.report.proofs.input.with_heights.Goals as goal

pub returns-in-Ok : goal.returns-in-Ok
returns-in-Ok g c = λ n e. (_, (_, c.run.ensures, refl))
