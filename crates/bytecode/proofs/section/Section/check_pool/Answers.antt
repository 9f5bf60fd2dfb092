-- `bytecode::section::Section::check_pool` meets its contract: by its head, and then its constants.
use mathlib.Core.Path.{◌∙◌, ap, sym, refl}
use native.Mathlib.Omega.{arith}
use Rattle.definition.proofs.Basic.{passed_on}
use Rattle.std.proofs.Common.{rules}
use Rattle.definition.specs.Basic.{byte_at}
use mathlib.Core.List.{[]}
use Rattle.definition.specs.Limit.{constants_limit}
use Rattle.bytecode.specs.Form.{read_const_in}
use Rattle.bytecode.specs.Checked.{item, checked, is_pool}
use Rattle.bytecode.proofs.Heads.{fitting, unfitting}
use Rattle.bytecode.proofs.Fields.{pool_content_in, const_ends_in}
use Rattle.bytecode.proofs.Counted.{counted-items, item_ends}
use Rattle.bytecode.proofs.section.Section.check_pool.Goals as goal

pub returns-in_err-head : goal.returns-in_err-head
returns-in_err-head c =
    let a = c.args in
    rw (passed_on c.from_residual.ensures.1) (sym (ap checked (unfitting a.self.span.bytes.now a.self.span.start a.self.span.end is_pool c.head_where.ensures (λ h r q. search rules) c.in_err-head.was (pool_content_in (byte_at a.self.span.bytes.now) a.form))))

pub behind-requires : goal.behind-requires
behind-requires c =
    let a = c.args in
    let f = fitting a.self.span.bytes.now a.self.span.start a.self.span.end is_pool c.head_where.ensures (λ h r q. search rules) c.in_ok-head.was in
    omega arith

pub check_items-requires-clause-ahead : goal.check_items-requires-clause-ahead
check_items-requires-clause-ahead c =
    let a = c.args in
    let after = c.behind.result.span.end in
    λ at next w h p. item_ends (read_const_in a.form (byte_at c.behind.result.span.bytes.now)) at after (const_ends_in (byte_at c.behind.result.span.bytes.now) at after a.form) (search rules)

pub returns : goal.returns
returns c =
    let a = c.args in
    let f = fitting a.self.span.bytes.now a.self.span.start a.self.span.end is_pool c.head_where.ensures (λ h r q. search rules) c.in_ok-head.was in
    let s = c.behind.result in
    rw (f.reads, sym c.behind.ensures.end, sym c.behind.ensures.start, sym c.behind.ensures.bytes)
    (c.check_items.ensures (λ at. item (read_const_in a.form (byte_at s.span.bytes.now) at s.span.end)) (λ at w r h p. search rules)
    ∙ counted-items (read_const_in a.form (byte_at s.span.bytes.now)) s.span.end constants_limit s.span.start [] refl)
