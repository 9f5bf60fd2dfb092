-- The loop's invariant: what is left of the way decides where the search ends.
use native.Mathlib.Omega.{arith}
use Rattle.symbol_table.proofs.Seeking.{two_sides, sought_first, sought_node, sought_small, sought_offset, sought_hit, sought_less, sought_next, sought_none}
use Rattle.symbol_table.proofs.globals.search.Goals as goal

pub loop-next-init : goal.loop-next-init
loop-next-init c = sought_first _ _ _ _ c.args.name.now.is c.turn-on.ensures c.child-next.ensures

pub overflow_add-i : goal.overflow_add-i
overflow_add-i c =
    let s = rw c.in-Some.is at c.loop-next.invariant in
    omega (arith, sought_small _ _ _ _ c.requires s (omega arith))

pub offset_bounds-globals-i : goal.offset_bounds-globals-i
offset_bounds-globals-i c =
    let s = rw c.in-Some.is at c.loop-next.invariant in
    omega (arith, sought_small _ _ _ _ c.requires s (omega arith))

pub bounds-globals-i : goal.bounds-globals-i
bounds-globals-i c =
    let s = rw c.in-Some.is at c.loop-next.invariant in
    omega (arith, c.requires.size, sought_small _ _ _ _ c.requires s (omega arith))

pub overflow_add-at-in-Some : goal.overflow_add-at-in-Some
overflow_add-at-in-Some c =
    let s = rw c.in-Some.is at c.loop-next.invariant in
    omega (arith, sought_small _ _ _ _ c.requires s (omega arith))

pub offset_bounds-globals-at-in-Some : goal.offset_bounds-globals-at-in-Some
offset_bounds-globals-at-in-Some c =
    let s = rw c.in-Some.is at c.loop-next.invariant in
    omega (arith, sought_small _ _ _ _ c.requires s (omega arith))

pub bounds-globals-at-in-Some : goal.bounds-globals-at-in-Some
bounds-globals-at-in-Some c =
    let s = rw c.in-Some.is at c.loop-next.invariant in
    omega (arith, c.requires.size, sought_small _ _ _ _ c.requires s (omega arith))

pub overflow_add-depth : goal.overflow_add-depth
overflow_add-depth c =
    let s = rw c.in-Some.is at c.loop-next.invariant in
    omega (arith, sought_small _ _ _ _ c.requires s (omega arith), s.deep (omega arith))

pub content_at-requires : goal.content_at-requires
content_at-requires c =
    let s = rw c.in-Some.is at c.loop-next.invariant in
    record { fits = rw (sought_offset _ _ _ _ c.requires s (omega arith) (two_sides c.args.side) _ c.from.ensures c.offset-offset.ensures) (sought_node _ _ _ _ c.requires s (omega arith)).stands }

pub returns-then-same_name : goal.returns-then-same_name
returns-then-same_name c =
    let s = rw c.in-Some.is at c.loop-next.invariant in
    sought_hit _ _ _ _ c.requires s (omega arith) (two_sides c.args.side) _ c.from.ensures c.offset-offset.ensures (rw c.content_at.ensures at c.same_name.ensures) c.if-same_name.true

pub loop-next-smaller : goal.loop-next-smaller
loop-next-smaller c =
    let s = rw c.in-Some.is at c.loop-next.invariant in
    rw c.in-Some.is (sought_less _ _ _ _ c.requires s (omega arith) (two_sides c.args.side) _ c.from.ensures c.offset-offset.ensures (rw c.content_at.ensures at c.same_name.ensures) c.if-same_name.false c.args.name.now.is c.side_of-on.ensures c.child-next-in-Some.ensures)

pub loop-next-preserved : goal.loop-next-preserved
loop-next-preserved c =
    let s = rw c.in-Some.is at c.loop-next.invariant in
    sought_next _ _ _ _ c.requires s (omega arith) (two_sides c.args.side) _ c.from.ensures c.offset-offset.ensures (rw c.content_at.ensures at c.same_name.ensures) c.if-same_name.false c.args.name.now.is c.side_of-on.ensures c.child-next-in-Some.ensures

pub returns : goal.returns
returns c = sought_none _ _ _ _ c.loop-next.invariant (rw c.in_default.is)
