-- `definition::output::store` meets its contract: where there is no room, a store changes nothing.
use Rattle.std.proofs.Common.{sym}
use lib.Seq.{set_out}
use Rattle.definition.proofs.output.store.Goals as goal

pub returns-else-at-output : goal.returns-else-at-output
returns-else-at-output g c = let a = c.args in sym (set_out a.output.now a.at a.value c.if-at-output.false)
