-- The loop's invariant: the first i entries are marked, and nothing else changed.
use native.Mathlib.Omega.{arith}
use Rattle.symbol_table.proofs.Asking.{outside_then}
use Rattle.symbol_table.proofs.Remarking.{globals_then, marks_next}
use Rattle.symbol_table.proofs.marks.mark_entries.Goals as goal

pub code_outermost-code-requires : goal.code_outermost-code-requires
code_outermost-code-requires c =
    let o = outside_then c.args.query.now c.requires c.loop-i.invariant.remarked c.loop-i.invariant.size in
    record {
      words = o.words;
      size = o.size;
      globals = rw c.new.ensures.tree o.globals;
    }

pub loop-i-preserved : goal.loop-i-preserved
loop-i-preserved c =
    let l = c.loop-i in
    marks_next _ _ _ _ _ c.requires.good _ _ l.invariant (omega (arith, rw c.of-part.ensures at c.entries-n.ensures)) _ _ c.requires.size
    (rw (c.new.ensures.tree, c.new.ensures.at, globals_then _ _ _ _ _ c.requires.good _ l.invariant.remarked, c.of.ensures) at c.code_outermost-code.ensures.outermost)
    c.next_at.auto.table c.next_at.ensures
