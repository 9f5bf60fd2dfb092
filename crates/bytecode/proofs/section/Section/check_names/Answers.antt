-- `bytecode::section::Section::check_names` meets its contract: by the field's head, and then the names.
use mathlib.Core.Path.{ap, sym}
use native.Mathlib.Omega.{arith}
use Rattle.definition.proofs.Basic.{passed_on}
use Rattle.std.proofs.Common.{rules}
use Rattle.definition.specs.Basic.{byte_at}
use Rattle.definition.specs.Field.{tagged}
use Rattle.bytecode.specs.Checked.{checked}
use Rattle.bytecode.proofs.Heads.{fitting, unfitting}
use Rattle.bytecode.proofs.Fields.{names_content}
use Rattle.bytecode.proofs.section.Section.check_names.Goals as goal

pub returns-in_err-head : goal.returns-in_err-head
returns-in_err-head c =
    let a = c.args in
    rw (passed_on c.from_residual.ensures.1) (sym (ap checked (unfitting a.self.span.bytes.now a.self.span.start (a.self.span.end) (tagged a.tag) c.head_where.ensures (λ h r q. search rules) c.in_err-head.was (names_content (byte_at a.self.span.bytes.now) a.most))))

pub behind-requires : goal.behind-requires
behind-requires c =
    let a = c.args in
    let f = fitting a.self.span.bytes.now a.self.span.start (a.self.span.end) (tagged a.tag) c.head_where.ensures (λ h r q. search rules) c.in_ok-head.was in
    omega arith

pub returns : goal.returns
returns c =
    let a = c.args in
    let f = fitting a.self.span.bytes.now a.self.span.start (a.self.span.end) (tagged a.tag) c.head_where.ensures (λ h r q. search rules) c.in_ok-head.was in
    rw f.reads (rw (c.behind.ensures.bytes, c.behind.ensures.start, c.behind.ensures.end) at c.check_name_fields.ensures)
