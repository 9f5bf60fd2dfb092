-- `value` meets its contract. What is left of the digits decides.
use mathlib.Core.Path.{◌∙◌}
use mathlib.Core.List.{[]}
use Rattle.std.proofs.Common.{rules, sym}
use Rattle.text.specs.Scan.{value}
use Rattle.text.proofs.Skips.{no_product, no_sum, counted_more, counted_all, limit_within, limit_above}
use Rattle.text.proofs.scan.value.Goals as goal

pub returns-in_err-checked_mul : goal.returns-in_err-checked_mul
returns-in_err-checked_mul c =
    let e = sym (no_product c.args.digits.now c.loop-b.n c.loop-b.b-index c.loop-b.invariant c.loop-b-test.true (search rules)) in
    search (rules, e)

pub returns-in_err-n : goal.returns-in_err-n
returns-in_err-n c =
    let e = sym (no_sum c.args.digits.now c.loop-b.n c.loop-b.b-index c.loop-b.invariant {m = c.in_ok-checked_mul.field-0} {d = c.from.result} c.loop-b-test.true (search rules) (search rules) (search rules)) in
    search (rules, e)

pub loop-b-preserved : goal.loop-b-preserved
loop-b-preserved c = counted_more c.args.digits.now c.loop-b.n c.loop-b.b-index c.loop-b.invariant {m = c.in_ok-checked_mul.field-0} {d = c.from.result} c.loop-b-test.true (search rules) (search rules) (search rules)

pub returns-then-n : goal.returns-then-n
returns-then-n c = sym (counted_all c.args.digits.now c.loop-b.n c.loop-b.b-index c.loop-b.invariant c.loop-b-test.false ∙ limit_within _ c.if-n.true)

pub returns-else-n : goal.returns-else-n
unfolding value
returns-else-n c = sym (counted_all c.args.digits.now c.loop-b.n c.loop-b.b-index c.loop-b.invariant c.loop-b-test.false ∙ limit_above c.loop-b.n [] c.if-n.false)
