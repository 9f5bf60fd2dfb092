-- `report::write_output` meets its contract: what the call answered, and what a refusal is handed to.
use Rattle.std.proofs.Common.{refl}
use Rattle.report.proofs.write_output.Goals as goal

pub returns-in-Some : goal.returns-in-Some
returns-in-Some g c = (_, _, record { shown = _; shows = refl; left = _; met = c.call.ensures; leaves = refl }, rw c.in-Ok.is tt)

pub returns-in-Ok : goal.returns-in-Ok
returns-in-Ok g c = (_, _, record { shown = _; shows = refl; left = _; met = c.call.ensures; leaves = refl }, rw c.in-Ok.is tt)

pub returns : goal.returns
returns g c = (_, _, record { shown = _; shows = refl; left = _; met = c.call.ensures; leaves = refl }, rw c.in-Err.is c.print.ensures)
