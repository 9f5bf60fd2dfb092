-- `listing::measure::Piece::measure_constant` meets its contract: by its head, and then its content.
use mathlib.Core.Path.{ap, sym}
use native.Mathlib.Omega.{arith}
use Rattle.definition.proofs.Basic.{passed_on}
use Rattle.std.proofs.Common.{rules}
use Rattle.definition.specs.Basic.{byte_at}
use Rattle.bytecode.proofs.Heads.{fitting, unfitting}
use Rattle.definition.specs.Decode.{read_content}
use Rattle.definition.specs.Field.{Head}
use Rattle.bytecode.specs.Checked.{is_constant}
use Rattle.bytecode.specs.declared.Form.TheVariants.{Plain}
use Rattle.listing.specs.Measured.{constant_measured}
use Rattle.listing.proofs.measure.Piece.measure_constant.Goals as goal

pub returns-in_err-head-clause-is : goal.returns-in_err-head-clause-is
returns-in_err-head-clause-is c =
    let a = c.args.self in
    rw (passed_on c.from_residual.ensures.1) (sym (ap constant_measured (unfitting a.part.span.bytes.now a.part.span.start a.part.span.end (is_constant Plain) c.head_where.ensures (λ h r q. search rules) c.in_err-head.was (read_content (byte_at a.part.span.bytes.now)))))

pub behind-requires : goal.behind-requires
behind-requires c =
    let a = c.args.self in
    let f = fitting a.part.span.bytes.now a.part.span.start a.part.span.end (is_constant Plain) c.head_where.ensures (λ h r q. search rules) c.in_ok-head.was in
    omega (arith, f.within)

pub invariant_of-content : goal.invariant_of-content
invariant_of-content c =
    let a = c.args.self in
    let f = fitting a.part.span.bytes.now a.part.span.start a.part.span.end (is_constant Plain) c.head_where.ensures (λ h r q. search rules) c.in_ok-head.was in
    record { few = omega (arith, f.within, a.few) }

pub measure_content-requires : goal.measure_content-requires
measure_content-requires c =
    let a = c.args.self in
    let b = c.behind.ensures in
    (omega arith, (fitting a.part.span.bytes.now a.part.span.start a.part.span.end (is_constant Plain) c.head_where.ensures (λ h r q. search rules) c.in_ok-head.was).is_good)

pub returns-clause-is : goal.returns-clause-is
returns-clause-is c =
    let a = c.args.self in
    let f = fitting a.part.span.bytes.now a.part.span.start a.part.span.end (is_constant Plain) c.head_where.ensures (λ h r q. search rules) c.in_ok-head.was in
    let b = c.behind.ensures in
    rw f.reads (rw (b.start, b.bytes) at c.measure_content.ensures.is)

pub returns-clause-small : goal.returns-clause-small
returns-clause-small c =
    let a = c.args.self in
    let f = fitting a.part.span.bytes.now a.part.span.start a.part.span.end (is_constant Plain) c.head_where.ensures (λ h r q. search rules) c.in_ok-head.was in
    omega (arith, c.measure_content.ensures.small, ap (λ (h : Head). h.len) f.is)
