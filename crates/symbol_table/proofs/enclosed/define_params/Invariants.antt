-- The loop's invariant: what is left of the fields decides.
use Rattle.field.proofs.EachField.{Over}
use Rattle.symbol_table.proofs.Rowing.{Left}
use Rattle.symbol_table.proofs.enclosed.define_params.Given as goal

abbrev pub invariant-loop-at : goal.invariant-loop-at
invariant-loop-at l =
    record {
      can : (goal.iterator-loop-at).can_next l.at-iterator;
      over : Over l.params.bytes.now l.params.end l.at-iterator;
      left : Left l.params.bytes.now l.params.at l.params.end l.initial.part l.part l.at-iterator.at;
    }
