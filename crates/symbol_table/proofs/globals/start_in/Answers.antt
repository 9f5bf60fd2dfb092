-- The loop's invariant: what is left of the names decides.
use mathlib.Core.Path.{sym, subst}
use native.Mathlib.Omega.{arith}
use lib.ListN.{set}
use Rattle.field.proofs.EachField.{begins_there, over_new, starts_at, can_begin, over_again, is_before, is_behind, is_over}
use Rattle.symbol_table.proofs.Starting.{Begun, items_fields, begun-start, begun_here, begun_addable, begun-step, begun_none}
use Rattle.symbol_table.proofs.globals.start_in.Goals as goal

pub loop-at-init : goal.loop-at-init
loop-at-init c =
    let a = c.args in
    let n = begins_there a.names in
    let e = c.into_iter-at-iterator.ensures.into_iter_gives in
    let k = c.clear_heads.ensures in
    record {
      can = can_begin e n (items_fields c.requires.has_items);
      over = over_new e n;
      begun = subst (λ at. Begun a.names.bytes.now a.names.at a.names.end (set c.clear_heads.new.globals 0 0) at) (starts_at e n) (begun-start a.names.bytes.now a.names.at c.clear_heads.new.globals (omega arith) k a.names.end c.requires.has_items);
    }

pub add-requires : goal.add-requires
add-requires c =
    let l = c.loop-at in
    let a = c.args in
    let n = c.in-Some.ensures.steps in
    let x = subst (λ at. Begun a.names.bytes.now a.names.at a.names.end l.globals at) (sym n.here) l.invariant.begun in
    begun_addable _ _ _ _ _ x _ c.requires.session_len_bound (begun_here _ _ _ _ _ x c.requires.has_items (is_before l.invariant.over n)) c.hash_at.ensures.is

pub loop-at-preserved : goal.loop-at-preserved
loop-at-preserved c =
    let l = c.loop-at in
    let a = c.args in
    let n = c.in-Some.ensures.steps in
    let x = subst (λ at. Begun a.names.bytes.now a.names.at a.names.end l.globals at) (sym n.here) l.invariant.begun in
    record {
      can = c.in-Some.ensures.goes.keeps;
      over = over_again l.invariant.over n;
      begun = subst (λ at. Begun a.names.bytes.now a.names.at a.names.end c.add.new.globals at) (sym (is_behind l.invariant.over n))
          (begun-step _ _ _ _ _ x _ c.requires.session_len_bound (begun_here _ _ _ _ _ x c.requires.has_items (is_before l.invariant.over n)) c.add.ensures);
    }

pub returns : goal.returns
returns c = begun_none _ _ _ _ _ c.loop-at.invariant.begun c.requires.has_items (is_over c.loop-at.invariant.over c.in-None.ensures.steps)
