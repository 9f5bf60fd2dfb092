-- `bytecode::check_main` meets its contract: by its head, and then the code.
use mathlib.Core.Path.{ap, sym}
use native.Mathlib.Omega.{arith}
use Rattle.definition.proofs.Basic.{passed_on}
use Rattle.std.proofs.Common.{rules}
use Rattle.definition.specs.Basic.{byte_at}
use lib.ListN.{length}
use Rattle.bytecode.specs.Checked.{item, is_main}
use Rattle.bytecode.proofs.Heads.{fitting, unfitting}
use Rattle.bytecode.proofs.Fields.{main_content}
use Rattle.bytecode.proofs.check_main.Goals as goal

pub returns-in_err-head : goal.returns-in_err-head
returns-in_err-head c =
    let a = c.args in
    let e = c.whole-whole.ensures in
    rw (passed_on c.from_residual.ensures.1) (sym (ap item (unfitting a.image.now 0 (length a.image.now) (is_main a.form) (rw (e.bytes, e.start, e.end) at c.head_where.ensures) (λ h r q. search rules) c.in_err-head.was (main_content (byte_at a.image.now)))))

pub behind-requires : goal.behind-requires
behind-requires c =
    let a = c.args in
    let e = c.whole-whole.ensures in
    let f = fitting a.image.now 0 (length a.image.now) (is_main a.form) (rw (e.bytes, e.start, e.end) at c.head_where.ensures) (λ h r q. search rules) c.in_ok-head.was in
    omega arith

pub returns : goal.returns
returns c =
    let a = c.args in
    let e = c.whole-whole.ensures in
    let f = fitting a.image.now 0 (length a.image.now) (is_main a.form) (rw (e.bytes, e.start, e.end) at c.head_where.ensures) (λ h r q. search rules) c.in_ok-head.was in
    let b = c.behind.ensures in
    rw f.reads (rw (b.end, b.start, b.bytes, e.start, e.bytes) at c.check_code.ensures c.in_ok-head.head.len (omega arith))
