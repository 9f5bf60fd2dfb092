-- `bytecode::check_form` meets its contract: main code, the pool, and nothing more.
use native.Mathlib.Omega.{arith}
use Rattle.definition.proofs.Basic.{passed_on}
use Rattle.bytecode.proofs.Images.{main_wrong, main_within, pool_wrong, image_ends, image_follows}
use Rattle.bytecode.proofs.check_form.Goals as goal

pub returns-in_err-at : goal.returns-in_err-at
returns-in_err-at c =
    rw (passed_on c.from_residual.ensures.1) (main_wrong c.args.form c.args.image.now c.check_main.ensures c.in_err-at.was)

pub from-requires : goal.from-requires
from-requires c =
    let f = main_within c.args.form c.args.image.now c.check_main.ensures c.in_ok-at.was in
    record { order = omega arith; within = c.whole.result.within.within }

pub returns-in_err-pool : goal.returns-in_err-pool
returns-in_err-pool c =
    rw (passed_on c.from_residual-in_err-pool.ensures.1) (pool_wrong c.args.form c.args.image.now c.check_main.ensures c.in_ok-at.was (rw (c.from.ensures.bytes, c.from.ensures.start, c.from.ensures.end, c.whole.ensures.bytes, c.whole.ensures.end) at c.check_pool.ensures) c.in_err-pool.was)

pub returns-then-pool-image : goal.returns-then-pool-image
returns-then-pool-image c =
    rw c.from-then-pool-image.ensures (image_follows c.args.form c.args.image.now c.check_main.ensures c.in_ok-at.was (rw (c.from.ensures.bytes, c.from.ensures.start, c.from.ensures.end, c.whole.ensures.bytes, c.whole.ensures.end) at c.check_pool.ensures) c.in_ok-pool.was c.if-pool-image.true)

pub returns : goal.returns
returns c =
    image_ends c.args.form c.args.image.now c.check_main.ensures c.in_ok-at.was (rw (c.from.ensures.bytes, c.from.ensures.start, c.from.ensures.end, c.whole.ensures.bytes, c.whole.ensures.end) at c.check_pool.ensures) c.in_ok-pool.was c.if-pool-image.false
