-- `listing::measure::Piece::measure_constants` meets its contract: one constant a turn; what is left decides.
use mathlib.Core.Path.{ap}
use native.Mathlib.Omega.{arith}
use Rattle.definition.proofs.Basic.{passed_on}
use Rattle.listing.specs.Measured.{text_of}
use Rattle.listing.proofs.Measures.{pool-begins, pool_ends, pool_full, pool_wrong, pool_next, pool_again}
use Rattle.listing.proofs.measure.Piece.measure_constants.Goals as goal

pub loop-at-init : goal.loop-at-init
loop-at-init c = pool-begins c.args.self.part.span.bytes.now c.args.self.part.span.start c.args.self.part.span.end c.args.self.part.within.order

pub returns-then-count-eq-CONSTANTS_LIMIT-clause-is : goal.returns-then-count-eq-CONSTANTS_LIMIT-clause-is
returns-then-count-eq-CONSTANTS_LIMIT-clause-is c =
    let a = c.args.self in
    pool_full a.part.span.bytes.now a.part.span.start a.part.span.end c.loop-at.invariant c.loop-at-test.true c.if-count-eq-CONSTANTS_LIMIT.true

pub returns-in_err-constant-clause-is : goal.returns-in_err-constant-clause-is
returns-in_err-constant-clause-is c =
    let a = c.args.self in
    let f = c.from.ensures in
    rw (passed_on c.from_residual.ensures.1) (pool_wrong a.part.span.bytes.now a.part.span.start a.part.span.end c.loop-at.invariant c.loop-at-test.true c.if-count-eq-CONSTANTS_LIMIT.false (rw (f.end, f.start, f.bytes) at c.measure_constant.ensures.is) c.in_err-constant.was)

pub loop-at-smaller : goal.loop-at-smaller
loop-at-smaller c =
    let a = c.args.self in
    let f = c.from.ensures in
    let n = pool_next a.part.span.bytes.now a.part.span.start a.part.span.end c.loop-at.invariant c.loop-at-test.true c.if-count-eq-CONSTANTS_LIMIT.false (rw (f.end, f.start, f.bytes) at c.measure_constant.ensures.is) c.in_ok-constant.was in
    omega (arith, n.after, n.within, c.loop-at-test.true)

pub loop-at-preserved : goal.loop-at-preserved
loop-at-preserved c =
    let a = c.args.self in
    let f = c.from.ensures in
    pool_again a.part.span.bytes.now a.part.span.start a.part.span.end c.loop-at.invariant c.loop-at-test.true c.if-count-eq-CONSTANTS_LIMIT.false (rw (f.end, f.start, f.bytes) at c.measure_constant.ensures.is) c.in_ok-constant.was c.decimal_length.ensures.is c.decimal_length.ensures.small
    (omega (arith, (rw (f.start, f.bytes) at c.measure_constant.ensures.small), ap text_of c.in_ok-constant.was))

pub returns-clause-is : goal.returns-clause-is
returns-clause-is c = pool_ends c.args.self.part.span.bytes.now c.args.self.part.span.start c.args.self.part.span.end c.loop-at.invariant c.loop-at-test.false
