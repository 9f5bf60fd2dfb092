-- `step::load` meets its contract: a lookup among the session's names and the tables, and the load of what it finds.
use mathlib.Core.Path.{refl}
use Rattle.step.proofs.Symbols.{load_found, load-refused}
use Rattle.step.proofs.load.Goals as goal

pub resolve_name-requires-clause-good : goal.resolve_name-requires-clause-good
resolve_name-requires-clause-good c = rw c.new.ensures.tree c.requires.fine.symbols

pub returns-in-Ok : goal.returns-in-Ok
returns-in-Ok c = record { steps = load_found _ c.resolve_name.auto.table c.requires.fine (rw (c.new.ensures.tree, c.new.ensures.at) at c.resolve_name.ensures) c.in-Ok.is c.load_of-l.ensures c.emit_operand.ensures.done; same = c.emit_operand.ensures.same }

pub returns-in-Err : goal.returns-in-Err
returns-in-Err c = rw c.refused.ensures (record { steps = load-refused _ c.from.ensures (c.args.scope.now).area (rw (c.new.ensures.tree, c.new.ensures.at) at c.resolve_name.ensures) c.in-Err.is; same = refl })
