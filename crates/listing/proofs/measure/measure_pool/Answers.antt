-- `listing::measure::measure_pool` meets its contract: by its head, and then its constants.
use mathlib.Core.Path.{ap, sym}
use native.Mathlib.Omega.{arith}
use Rattle.definition.proofs.Basic.{passed_on}
use Rattle.std.proofs.Common.{rules}
use Rattle.definition.specs.Basic.{byte_at}
use Rattle.bytecode.proofs.Heads.{fitting, unfitting}
use lib.ListN.{length}
use Rattle.bytecode.specs.Checked.{is_pool}
use Rattle.bytecode.proofs.Fields.{pool_content}
use Rattle.listing.specs.Measured.{pool_measured}
use Rattle.listing.proofs.Measures.{pool_short}
use Rattle.listing.proofs.measure.measure_pool.Goals as goal

pub returns-in_err-head-clause-is : goal.returns-in_err-head-clause-is
returns-in_err-head-clause-is c =
    let b = c.args.image.now in
    let e = c.whole.ensures in
    let r = c.from-rest.ensures in
    rw (passed_on c.from_residual.ensures.1) (sym (ap pool_measured (unfitting b c.args.at (length b) is_pool (rw (r.bytes, r.start, r.end, e.bytes, e.end) at c.head_where.ensures) (λ h r q. search rules) c.in_err-head.was (pool_content (byte_at b)))))

pub behind-requires : goal.behind-requires
behind-requires c =
    let b = c.args.image.now in
    let e = c.whole.ensures in
    let r = c.from-rest.ensures in
    let f = fitting b c.args.at (length b) is_pool (rw (r.bytes, r.start, r.end, e.bytes, e.end) at c.head_where.ensures) (λ h r q. search rules) c.in_ok-head.was in
    omega arith

pub invariant_of-constants : goal.invariant_of-constants
invariant_of-constants c =
    let b = c.args.image.now in
    let e = c.whole.ensures in
    let r = c.from-rest.ensures in
    let f = fitting b c.args.at (length b) is_pool (rw (r.bytes, r.start, r.end, e.bytes, e.end) at c.head_where.ensures) (λ h r q. search rules) c.in_ok-head.was in
    let s = pool_short c.in_ok-head.head f.is_good in
    record { few = omega arith }

pub returns-clause-is : goal.returns-clause-is
returns-clause-is c =
    let b = c.args.image.now in
    let e = c.whole.ensures in
    let r = c.from-rest.ensures in
    let f = fitting b c.args.at (length b) is_pool (rw (r.bytes, r.start, r.end, e.bytes, e.end) at c.head_where.ensures) (λ h r q. search rules) c.in_ok-head.was in
    let b = c.behind.ensures in
    rw f.reads (rw (b.end, b.start, b.bytes, r.start, r.bytes, e.bytes) at c.measure_constants.ensures.is)

pub returns-clause-small : goal.returns-clause-small
returns-clause-small c =
    let b = c.args.image.now in
    let e = c.whole.ensures in
    let r = c.from-rest.ensures in
    let f = fitting b c.args.at (length b) is_pool (rw (r.bytes, r.start, r.end, e.bytes, e.end) at c.head_where.ensures) (λ h r q. search rules) c.in_ok-head.was in
    let s = pool_short c.in_ok-head.head f.is_good in
    omega (arith, c.measure_constants.ensures.small)
