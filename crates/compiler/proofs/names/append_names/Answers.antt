-- `append_names` appends the fields of the globals from an index on. The invariant: those passed are appended. Assumes nothing.
use Prim.Native.Nat.{◌+◌}
use mathlib.Core.Path.{◌≡◌}
use native.Mathlib.Omega.{arith}
use Rattle.compiler.proofs.Appending.{global_at, globals_left, appending_has, appending_more, appending_all}
use Rattle.compiler.proofs.names.append_names.Goals as goal

pub append_name-end-requires : goal.append_name-end-requires
append_name-end-requires c =
    let r = c.requires.later_names in
    let l = globals_left c.args.table.now c.args.from c.global_names.ensures c.count_globals.ensures r.within in
    appending_has c.loop-v.invariant (global_at c.args.table.now c.args.from c.global_names.ensures c.count_globals.ensures r.within c.loop-v.v-index (omega (arith, l))) (omega (arith, l)) r c.requires.table_in_bounds

pub loop-v-preserved : goal.loop-v-preserved
loop-v-preserved c =
    let r = c.requires.later_names in
    let l = globals_left c.args.table.now c.args.from c.global_names.ensures c.count_globals.ensures r.within in
    let v = global_at c.args.table.now c.args.from c.global_names.ensures c.count_globals.ensures r.within c.loop-v.v-index (omega (arith, l)) in
    let next : c.args.from + (c.loop-v.v-index + 1) ≡ c.args.from + c.loop-v.v-index + 1 = omega arith in
    rw next (appending_more c.loop-v.invariant v (omega (arith, l)) (c.append_name-end.ensures (appending_has c.loop-v.invariant v (omega (arith, l)) r c.requires.table_in_bounds)))

pub returns : goal.returns
returns c = let l = globals_left c.args.table.now c.args.from c.global_names.ensures c.count_globals.ensures (c.requires.later_names).within in appending_all c.loop-v.invariant (omega (arith, l))
