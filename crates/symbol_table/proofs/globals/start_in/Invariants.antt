-- The loop's invariant: what is left of the names decides.
use Rattle.field.proofs.EachField.{Over}
use Rattle.symbol_table.proofs.Starting.{Begun}
use Rattle.symbol_table.proofs.globals.start_in.Given as goal

abbrev pub invariant-loop-at : goal.invariant-loop-at
invariant-loop-at l =
    record {
      can : (goal.iterator-loop-at).can_next l.at-iterator;
      over : Over l.names.bytes.now l.names.end l.at-iterator;
      begun : Begun l.names.bytes.now l.names.at l.names.end l.globals l.at-iterator.at;
    }
