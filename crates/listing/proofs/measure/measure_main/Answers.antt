-- `listing::measure::measure_main` meets its contract: by its head, and then its code.
use mathlib.Core.Path.{ap, sym}
use native.Mathlib.Omega.{arith}
use Rattle.definition.proofs.Basic.{passed_on}
use Rattle.std.proofs.Common.{rules}
use Rattle.definition.specs.Basic.{byte_at}
use Rattle.bytecode.proofs.Heads.{fitting, unfitting}
use lib.ListN.{length}
use Rattle.bytecode.specs.Checked.{is_main}
use Rattle.bytecode.specs.declared.Form.TheVariants.{Plain}
use Rattle.bytecode.proofs.Fields.{main_content}
use Rattle.listing.specs.Measured.{code_measured}
use Rattle.listing.proofs.Measures.{main_short}
use Rattle.listing.proofs.measure.measure_main.Goals as goal

pub returns-in_err-head-clause-is : goal.returns-in_err-head-clause-is
returns-in_err-head-clause-is c =
    let b = c.args.image.now in
    let e = c.whole-whole.ensures in
    rw (passed_on c.from_residual.ensures.1) (sym (ap code_measured (unfitting b 0 (length b) (is_main Plain) (rw (e.bytes, e.start, e.end) at c.head_where.ensures) (λ h r q. search rules) c.in_err-head.was (main_content (byte_at b)))))

pub behind-requires : goal.behind-requires
behind-requires c =
    let b = c.args.image.now in
    let e = c.whole-whole.ensures in
    let f = fitting b 0 (length b) (is_main Plain) (rw (e.bytes, e.start, e.end) at c.head_where.ensures) (λ h r q. search rules) c.in_ok-head.was in
    omega arith

pub invariant_of-code : goal.invariant_of-code
invariant_of-code c =
    let b = c.args.image.now in
    let e = c.whole-whole.ensures in
    let f = fitting b 0 (length b) (is_main Plain) (rw (e.bytes, e.start, e.end) at c.head_where.ensures) (λ h r q. search rules) c.in_ok-head.was in
    let s = main_short c.in_ok-head.head f.is_good in
    record { few = omega arith }

pub returns-clause-is : goal.returns-clause-is
returns-clause-is c =
    let b = c.args.image.now in
    let e = c.whole-whole.ensures in
    let f = fitting b 0 (length b) (is_main Plain) (rw (e.bytes, e.start, e.end) at c.head_where.ensures) (λ h r q. search rules) c.in_ok-head.was in
    let b = c.behind.ensures in
    rw f.reads (rw (b.end, b.start, b.bytes, e.start, e.bytes) at c.measure_code.ensures.is c.in_ok-head.head.len (omega arith))

pub returns-clause-small : goal.returns-clause-small
returns-clause-small c =
    let b = c.args.image.now in
    let e = c.whole-whole.ensures in
    let f = fitting b 0 (length b) (is_main Plain) (rw (e.bytes, e.start, e.end) at c.head_where.ensures) (λ h r q. search rules) c.in_ok-head.was in
    let s = main_short c.in_ok-head.head f.is_good in
    omega (arith, c.measure_code.ensures.small)
