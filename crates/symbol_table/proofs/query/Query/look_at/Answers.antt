-- `symbol_table::query::Query::look_at` meets its contract.
use mathlib.Core.Path.{◌∙◌}
use Rattle.symbol_table.proofs.Remarking.{table_then}
use Rattle.symbol_table.proofs.Asking.{opened_then}
use Rattle.symbol_table.proofs.query.Query.look_at.Goals as goal

pub find_at-requires : goal.find_at-requires
find_at-requires c =
    let g = c.requires.opened.good in
    let x = c.is_absent.ensures.remarked in
    opened_then c.args.self.now c.requires.opened x c.is_absent.auto.table

pub returns : goal.returns
returns c =
    let x = c.is_absent.ensures.remarked in
    record {
      entry = c.find_at.ensures ∙ rw (table_then _ _ _ _ _ c.requires.opened.good _ x);
      inside = x;
    }
