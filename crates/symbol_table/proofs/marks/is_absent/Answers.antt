-- `symbol_table::marks::is_absent` meets its contract.
use Rattle.symbol_table.proofs.Remarking.{absent_clear}
use Rattle.symbol_table.proofs.marks.is_absent.Goals as goal

pub returns : goal.returns
returns c =
    rw c.in-Code.is
    (absent_clear _ _ _ _ _ c.requires.opened.good _ _ c.mark_entries.ensures (rw c.in-Code.is at c.requires.known.far) _ (rw c.of-2.ensures at c.is_marked.ensures))
