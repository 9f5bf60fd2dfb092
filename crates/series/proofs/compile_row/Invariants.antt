-- `series::compile_row` meets its contract: a call an iteration; what is left decides.
use Rattle.compiler.specs.Stage.{lent_of}
use Rattle.series.proofs.Lengths.{LengthsLoop}
use Rattle.series.proofs.compile_row.Given as goal

abbrev pub invariant-loop-length : goal.invariant-loop-length
invariant-loop-length l =
    LengthsLoop l.trees l.lengths (record { answer = l.initial.answer; lent = lent_of l.initial.session l.initial.output l.initial.code l.initial.table }) (record { answer = l.answer; lent = lent_of l.session l.output l.code l.table }) l.at l.length-index
