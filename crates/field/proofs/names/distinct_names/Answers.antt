-- `field::names::distinct_names` meets its contract: one field a turn, searched behind it.
use Rattle.std.proofs.Common.{◌≡◌, subst, sym}
use mathlib.Core.Path.{subst₂}
use Rattle.definition.specs.SymbolTable.{find_builtin}
use Rattle.field.specs.Row.{HasRow, found_of}
use Rattle.field.proofs.EachField.{begins_there, over_new, starts_at, can_begin, row_fields, over_again, is_before, is_behind, is_over}
use Rattle.field.proofs.Rows.{Comparing, compare_begins, compare_behind, compare_twice, compare_again, compare_none}
use Rattle.field.proofs.names.distinct_names.Goals as goal

pub loop-at-init : goal.loop-at-init
loop-at-init c =
    let a = c.args in
    let e = c.into_iter-at-iterator.ensures.into_iter_gives in
    let n = begins_there a.fields in
    record {
      can = can_begin e n (row_fields c.requires);
      over = over_new e n;
      compare = subst (λ at. Comparing a.fields.bytes.now a.fields.at a.fields.end at) (starts_at e n) (compare_begins c.requires);
    }

pub find_name-requires : goal.find_name-requires
find_name-requires c =
    let a = c.args in
    let l = c.loop-at in
    let n = c.in-Some.ensures.steps in
    let x = subst (λ at. Comparing a.fields.bytes.now a.fields.at a.fields.end at) (sym n.here) l.invariant.compare in
    subst (λ at. HasRow a.fields.bytes.now at a.fields.end) (sym c.after_at.ensures.is) (compare_behind x (is_before l.invariant.over n))

pub returns-then-is_some : goal.returns-then-is_some
returns-then-is_some c =
    let a = c.args in
    let l = c.loop-at in
    let n = c.in-Some.ensures.steps in
    let x = subst (λ at. Comparing a.fields.bytes.now a.fields.at a.fields.end at) (sym n.here) l.invariant.compare in
    compare_twice x (is_before l.invariant.over n) _ (subst₂ (λ at x. (h : HasRow a.fields.bytes.now at a.fields.end) → found_of c.find_name.result ≡ find_builtin x h.names 0) c.after_at.ensures.is c.content_at.ensures c.find_name.ensures) (cc)

pub loop-at-preserved : goal.loop-at-preserved
loop-at-preserved c =
    let a = c.args in
    let l = c.loop-at in
    let n = c.in-Some.ensures.steps in
    let x = subst (λ at. Comparing a.fields.bytes.now a.fields.at a.fields.end at) (sym n.here) l.invariant.compare in
    record {
      can = c.in-Some.ensures.goes.keeps;
      over = over_again l.invariant.over n;
      compare = subst (λ at. Comparing a.fields.bytes.now a.fields.at a.fields.end at) (sym (is_behind l.invariant.over n))
          (compare_again x (is_before l.invariant.over n) _ (subst₂ (λ at x. (h : HasRow a.fields.bytes.now at a.fields.end) → found_of c.find_name.result ≡ find_builtin x h.names 0) c.after_at.ensures.is c.content_at.ensures c.find_name.ensures) (cc));
    }

pub returns : goal.returns
returns c = compare_none c.loop-at.invariant.compare (is_over c.loop-at.invariant.over c.in-None.ensures.steps)
