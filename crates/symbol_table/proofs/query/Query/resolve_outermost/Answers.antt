-- `symbol_table::query::Query::resolve_outermost` meets its contract.
use mathlib.Core.Path.{refl, sym, ◌∙◌}
use Rattle.symbol_table.proofs.Resolving.{outermost_resolved}
use Rattle.symbol_table.proofs.query.Query.resolve_outermost.Goals as goal

pub returns-in-Code : goal.returns-in-Code
returns-in-Code c = record {
  resolved = sym (outermost_resolved _ _ _ ∙ (rw c.in-Code.is at c.requires.known.code) (rw c.in-Code.is at c.requires.known.far));
  crossed = refl;
}
