-- The loop's invariant: what is left of the fields decides.
use mathlib.Core.Path.{sym, subst}
use native.Mathlib.Omega.{arith}
use Rattle.field.proofs.EachField.{begins_there, over_new, starts_at, can_begin, row_fields, over_again, is_before, is_behind, is_over}
use Rattle.symbol_table.proofs.Rowing.{Left, left_begins, left_here, left_room, left_step, left_none}
use Rattle.symbol_table.proofs.enclosed.define_params.Goals as goal

pub loop-at-init : goal.loop-at-init
loop-at-init c =
    let a = c.args in
    let n = begins_there a.params in
    let e = c.into_iter-at-iterator.ensures.into_iter_gives in
    record {
      can = can_begin e n (row_fields c.requires.params.row);
      over = over_new e n;
      left = subst (λ at. Left a.params.bytes.now a.params.at a.params.end a.part.now a.part.now at) (starts_at e n) (left_begins c.requires.params c.requires.good_table c.requires.none);
    }

pub new-requires : goal.new-requires
new-requires c =
    let l = c.loop-at in
    let a = c.args in
    let n = c.in-Some.ensures.steps in
    let x = subst (λ at. Left a.params.bytes.now a.params.at a.params.end a.part.now l.part at) (sym n.here) l.invariant.left in
    let here = left_here x (is_before l.invariant.over n) in
    record { stands = here; within = omega (arith, here, c.requires.tree_len_bound) }

pub define_in-requires-clause-part_bound : goal.define_in-requires-clause-part_bound
define_in-requires-clause-part_bound c =
    let l = c.loop-at in
    let a = c.args in
    let n = c.in-Some.ensures.steps in
    let x = subst (λ at. Left a.params.bytes.now a.params.at a.params.end a.part.now l.part at) (sym n.here) l.invariant.left in
    left_room x (is_before l.invariant.over n)

pub loop-at-preserved : goal.loop-at-preserved
loop-at-preserved c =
    let l = c.loop-at in
    let a = c.args in
    let n = c.in-Some.ensures.steps in
    let x = subst (λ at. Left a.params.bytes.now a.params.at a.params.end a.part.now l.part at) (sym n.here) l.invariant.left in
    record {
      can = c.in-Some.ensures.goes.keeps;
      over = over_again l.invariant.over n;
      left = rw (is_behind l.invariant.over n, c.define_in.ensures.part_after, c.label.ensures.at, c.label.ensures.hash, c.new.ensures.at)
          (left_step x _ c.requires.tree_len_bound (is_before l.invariant.over n) c.new.ensures.hash);
    }

pub returns : goal.returns
returns c = left_none c.loop-at.invariant.left (is_over c.loop-at.invariant.over c.in-None.ensures.steps)
