-- `field::names::distinct_names` meets its contract: one field a turn, searched behind it.
use Rattle.field.proofs.EachField.{Over}
use Rattle.field.proofs.Rows.{Comparing}
use Rattle.field.proofs.names.distinct_names.Given as goal

abbrev pub invariant-loop-at : goal.invariant-loop-at
invariant-loop-at l =
    record {
      can : (goal.iterator-loop-at).can_next l.at-iterator;
      over : Over l.fields.bytes.now l.fields.end l.at-iterator;
      compare : Comparing l.fields.bytes.now l.fields.at l.fields.end l.at-iterator.at;
    }
