-- `bytecode::section::Section::check_name` meets its contract: by its head.
use mathlib.Core.Path.{ap, sym}
use native.Mathlib.Omega.{arith}
use Rattle.definition.proofs.Basic.{passed_on}
use Rattle.std.proofs.Common.{rules}
use Rattle.definition.specs.Basic.{byte_at}
use Rattle.bytecode.specs.Checked.{item, is_name}
use Rattle.bytecode.proofs.Heads.{fitting, unfitting}
use Rattle.bytecode.proofs.Fields.{name_content}
use Rattle.bytecode.proofs.section.Section.check_name.Goals as goal

pub returns-in_err-head : goal.returns-in_err-head
returns-in_err-head c =
    let a = c.args in
    rw (passed_on c.from_residual.ensures.1) (sym (ap item (unfitting a.self.span.bytes.now a.self.span.start a.self.span.end is_name c.head_where.ensures (λ h r q. search rules) c.in_err-head.was (name_content (byte_at a.self.span.bytes.now)))))

pub overflow_add-result-2 : goal.overflow_add-result-2
overflow_add-result-2 c =
    let a = c.args in
    let f = fitting a.self.span.bytes.now a.self.span.start a.self.span.end is_name c.head_where.ensures (λ h r q. search rules) c.in_ok-head.was in
    omega arith

pub returns : goal.returns
returns c =
    let a = c.args in
    let f = fitting a.self.span.bytes.now a.self.span.start a.self.span.end is_name c.head_where.ensures (λ h r q. search rules) c.in_ok-head.was in
    rw f.reads
