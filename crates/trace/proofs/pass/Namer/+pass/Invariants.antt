-- The measures: the length of the field, or what is left of a row, doubled, so that there is room for ranks; and what each member is given at the measure t and asked below t.
use Prim.Native.Nat.{ℕ, ◌+◌, ◌*◌, ◌-◌}
use Rattle.field.specs.Layout.{len}
use Rattle.trace.proofs.Loop.{LoopTurn}
use mathlib.Core.List.{List}
use Rattle.trace.proofs.pass.Namer.+pass.Given as goal

-- the length of the field at an offset, doubled
abbrev field : List ℕ → ℕ → ℕ
field tree at = 2 * (3 + len tree at)

abbrev pub decreases-name_field : goal.decreases-name_field
decreases-name_field l = field l.field.bytes.now l.field.at + 1

abbrev pub decreases-name_function : goal.decreases-name_function
decreases-name_function l = field l.field.bytes.now l.field.at

abbrev pub decreases-name_infix : goal.decreases-name_infix
decreases-name_infix l = field l.field.bytes.now l.field.at

abbrev pub decreases-name_let : goal.decreases-name_let
decreases-name_let l = field l.field.bytes.now l.field.at

abbrev pub decreases-name_row : goal.decreases-name_row
decreases-name_row l = 2 * (l.fields.end - l.fields.at) + 2

abbrev pub invariant-name_row-loop-at : goal.invariant-name_row-loop-at
invariant-name_row-loop-at l =
    record {
      can : (goal.iterator-name_row-loop-at).can_next l.at-iterator;
      loop : LoopTurn l.fields.bytes.now l.names l.level l.fields.at l.fields.end l.initial.self l.at-iterator l.self;
    }
