-- `bytecode::read_behind` meets its contract: the names, the pool, and zeros.
use native.Mathlib.Omega.{arith}
use Rattle.bytecode.proofs.Sessions.{was_ok, was_err, words_within, names_within, pool_broken, pool_within, tail_broken, layout_sound}
use Rattle.bytecode.proofs.read_behind.Goals as goal

pub from-requires : goal.from-requires
from-requires c = record { order = omega (arith, words_within c.args.session.now c.requires); within = c.whole-whole.result.within.within }

pub from-requires-2 : goal.from-requires-2
from-requires-2 c =
    let f = c.from.ensures in
    let v = c.whole-whole.ensures in
    let names-read = rw (f.bytes, f.start, f.end, v.bytes, v.end) at c.check_names.ensures in
    let w = names_within c.args.session.now c.requires names-read (was_ok _ c.in_ok-names.ensures.value) in
    record { order = omega arith; within = c.whole-whole.result.within.within }

pub returns-in_err-pool : goal.returns-in_err-pool
returns-in_err-pool c =
    let f = c.from.ensures in
    let g = c.from-2.ensures in
    let v = c.whole-whole.ensures in
    let names-read = rw (f.bytes, f.start, f.end, v.bytes, v.end) at c.check_names.ensures in
    let pool-read = rw (g.bytes, g.start, g.end, v.bytes, v.end) at c.check_pool.ensures in
    let names = was_ok _ c.in_ok-names.ensures.value in
    rw c.from_residual-in_err-pool.ensures (pool_broken c.args.session.now c.requires names-read names pool-read (was_err _ c.in_err-pool.ensures.value).1)

pub slice_bounds-all_zero-count : goal.slice_bounds-all_zero-count
slice_bounds-all_zero-count c =
    let f = c.from.ensures in
    let g = c.from-2.ensures in
    let v = c.whole-whole.ensures in
    let names-read = rw (f.bytes, f.start, f.end, v.bytes, v.end) at c.check_names.ensures in
    let pool-read = rw (g.bytes, g.start, g.end, v.bytes, v.end) at c.check_pool.ensures in
    let names = was_ok _ c.in_ok-names.ensures.value in
    let p = pool_within c.args.session.now c.requires names-read names pool-read (was_ok _ c.in_ok-pool.ensures.value) in
    omega arith

pub slice_bounds-all_zero-start : goal.slice_bounds-all_zero-start
slice_bounds-all_zero-start c =
    let f = c.from.ensures in
    let g = c.from-2.ensures in
    let v = c.whole-whole.ensures in
    let names-read = rw (f.bytes, f.start, f.end, v.bytes, v.end) at c.check_names.ensures in
    let pool-read = rw (g.bytes, g.start, g.end, v.bytes, v.end) at c.check_pool.ensures in
    let names = was_ok _ c.in_ok-names.ensures.value in
    let p = pool_within c.args.session.now c.requires names-read names pool-read (was_ok _ c.in_ok-pool.ensures.value) in
    omega arith

pub returns-then-all_zero : goal.returns-then-all_zero
returns-then-all_zero c =
    let f = c.from.ensures in
    let g = c.from-2.ensures in
    let v = c.whole-whole.ensures in
    let names-read = rw (f.bytes, f.start, f.end, v.bytes, v.end) at c.check_names.ensures in
    let pool-read = rw (g.bytes, g.start, g.end, v.bytes, v.end) at c.check_pool.ensures in
    let names = was_ok _ c.in_ok-names.ensures.value in
    let pool = was_ok _ c.in_ok-pool.ensures.value in
    layout_sound c.args.session.now c.requires names-read names pool-read pool c.all_zero.ensures c.if-all_zero.true

pub returns : goal.returns
returns c =
    let f = c.from.ensures in
    let g = c.from-2.ensures in
    let v = c.whole-whole.ensures in
    let names-read = rw (f.bytes, f.start, f.end, v.bytes, v.end) at c.check_names.ensures in
    let pool-read = rw (g.bytes, g.start, g.end, v.bytes, v.end) at c.check_pool.ensures in
    let names = was_ok _ c.in_ok-names.ensures.value in
    let pool = was_ok _ c.in_ok-pool.ensures.value in
    tail_broken c.args.session.now c.requires names-read names pool-read pool c.all_zero.ensures c.if-all_zero.false
