-- `series::compile_slices` meets its contract: a call an iteration; what is left decides.
use Rattle.compiler.specs.Stage.{lent_of}
use Rattle.series.proofs.Row.{RowLoop}
use Rattle.series.proofs.compile_slices.Given as goal

abbrev pub invariant-loop-tree : goal.invariant-loop-tree
invariant-loop-tree l =
    RowLoop l.trees (record { answer = l.initial.answer; lent = lent_of l.initial.session l.initial.output l.initial.code l.initial.table }) (record { answer = l.answer; lent = lent_of l.session l.output l.code l.table }) l.tree-index
