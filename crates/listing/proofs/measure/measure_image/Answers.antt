-- `listing::measure::measure_image` meets its contract: main code, the pool, and nothing more.
use Rattle.definition.proofs.Basic.{passed_on}
use Rattle.listing.proofs.Measures.{main_wrong, main_behind, main_within, image-pool, image_follows, image_ends}
use Rattle.listing.proofs.measure.measure_image.Goals as goal

pub returns-in_err-main : goal.returns-in_err-main
returns-in_err-main c =
    rw (passed_on c.from_residual.ensures.1) (main_wrong c.args.image.now c.measure_main.ensures.is c.in_err-main.was)

pub measure_pool-requires : goal.measure_pool-requires
measure_pool-requires c = main_within c.args.image.now c.measure_main.ensures.is c.in_ok-main.was

pub returns-in_err-pool : goal.returns-in_err-pool
returns-in_err-pool c =
    rw (passed_on c.from_residual-in_err-pool.ensures.1) (image-pool c.args.image.now c.measure_main.ensures.is c.in_ok-main.was c.measure_pool.ensures.is c.in_err-pool.was)

pub returns-then-pool-image : goal.returns-then-pool-image
returns-then-pool-image c =
    rw c.from.ensures (image_follows c.args.image.now c.measure_main.ensures.is c.in_ok-main.was c.measure_pool.ensures.is c.in_ok-pool.was c.if-pool-image.true)

pub overflow_sub-main : goal.overflow_sub-main
overflow_sub-main c = main_behind c.args.image.now c.measure_main.ensures.is c.in_ok-main.was

pub returns : goal.returns
returns c =
    image_ends c.args.image.now c.measure_main.ensures.is c.in_ok-main.was c.measure_pool.ensures.is c.in_ok-pool.was c.if-pool-image.false c.decimal_length.ensures.is c.decimal_length-2.ensures.is
