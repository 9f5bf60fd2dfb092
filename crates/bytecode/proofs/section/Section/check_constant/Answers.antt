-- `bytecode::section::Section::check_constant` meets its contract: by its head, and a function by its code.
use Prim.Native.Nat.{◌+◌}
use mathlib.Core.Path.{◌∙◌, ap, sym}
use native.Mathlib.Omega.{arith}
use Rattle.definition.proofs.Basic.{passed_on}
use Rattle.std.proofs.Common.{rules}
use Rattle.definition.specs.Basic.{byte_at}
use Rattle.definition.specs.Decode.{read_content}
use Rattle.bytecode.specs.Checked.{item, is_constant}
use Rattle.bytecode.proofs.Heads.{fitting, unfitting}
use Rattle.bytecode.proofs.ReadConstants.{plain_constant, function_long, function_item}
use Rattle.bytecode.proofs.section.Section.check_constant.Goals as goal

pub returns-in_err-head : goal.returns-in_err-head
returns-in_err-head c =
    let a = c.args in
    rw (passed_on c.from_residual.ensures.1) (sym (ap item (unfitting a.self.span.bytes.now a.self.span.start a.self.span.end (is_constant a.form) c.head_where.ensures (λ h r q. search rules) c.in_err-head.was (read_content (byte_at a.self.span.bytes.now)))))

pub behind-content-requires : goal.behind-content-requires
behind-content-requires c =
    let a = c.args in
    let f = fitting a.self.span.bytes.now a.self.span.start a.self.span.end (is_constant a.form) c.head_where.ensures (λ h r q. search rules) c.in_ok-head.was in
    omega arith

pub returns-then-head-tags : goal.returns-then-head-tags
returns-then-head-tags c =
    let a = c.args in
    let f = fitting a.self.span.bytes.now a.self.span.start a.self.span.end (is_constant a.form) c.head_where.ensures (λ h r q. search rules) c.in_ok-head.was in
    rw (f.reads, c.behind-content.ensures.end) (sym (plain_constant a.form (byte_at a.self.span.bytes.now) (a.self.span.start + 3) c.in_ok-head.head f.is_good (λ i. c.if-head-tags.true (i ∙ sym c.tags.ensures.function))))

pub from-requires : goal.from-requires
from-requires c =
    let a = c.args in
    let f = fitting a.self.span.bytes.now a.self.span.start a.self.span.end (is_constant a.form) c.head_where.ensures (λ h r q. search rules) c.in_ok-head.was in
    let l = function_long a.form (byte_at a.self.span.bytes.now) (a.self.span.start + 3) c.in_ok-head.head f.is_good (c.if-head-tags.false ∙ c.tags.ensures.function) in
    record { order = omega arith; within = c.behind-content.result.within.within }

pub returns : goal.returns
returns c =
    let a = c.args in
    let b = c.behind-content.ensures in
    let f = fitting a.self.span.bytes.now a.self.span.start a.self.span.end (is_constant a.form) c.head_where.ensures (λ h r q. search rules) c.in_ok-head.was in
    let k = c.check_code.ensures c.in_ok-head.head.len (omega arith) in
    rw f.reads ((rw (c.from.ensures.bytes, c.from.ensures.start, c.from.ensures.end, b.bytes, b.start, b.end) at k) ∙ function_item a.form (byte_at a.self.span.bytes.now) (a.self.span.start + 3) c.in_ok-head.head f.is_good (c.if-head-tags.false ∙ c.tags.ensures.function))
