-- `bytecode::section::Section::check_items` meets its contract: one item a turn.
use mathlib.Core.Path.{subst}
use native.Mathlib.Omega.{arith}
use Rattle.std.specs.Prelude.{Ok, Err}
use Rattle.definition.proofs.Basic.{passed_on}
use Rattle.bytecode.specs.Checked.{Part}
use Rattle.bytecode.proofs.Counted.{counting_begins, counting_ends, counting-full, counting-wrong, counting_again}
use Rattle.bytecode.proofs.section.Section.check_items.Goals as goal

pub loop-at-init : goal.loop-at-init
loop-at-init g c = counting_begins _ _ _ _ c.args.self.within.order

pub returns-then-count-most : goal.returns-then-count-most
returns-then-count-most g c = λ next f. counting-full _ _ _ _ c.loop-at.invariant next (λ at r h p. f at p.part r h p.post) c.loop-at-test.true c.if-count-most.true

pub returns-in_err-at : goal.returns-in_err-at
returns-in_err-at g c =
    let w : Part c.args.self.span.bytes.now c.loop-at.at c.args.self.span.end = record { order = omega arith; within = c.args.self.within.within } in
    let p = subst (λ s. goal.F-post g c.args.check s (Err c.in_err-at.field-0.0)) (c.from.ensures.is w) c.in_err-at.ensures in
    rw (passed_on c.from_residual.ensures.1) (λ next f. counting-wrong _ _ _ _ c.loop-at.invariant next (λ at r h p. f at p.part r h p.post) c.loop-at-test.true c.if-count-most.false (record { part = w; post = p }))

pub loop-at-preserved : goal.loop-at-preserved
loop-at-preserved g c =
    let w : Part c.args.self.span.bytes.now c.loop-at.at c.args.self.span.end = record { order = omega arith; within = c.args.self.within.within } in
    let p = subst (λ s. goal.F-post g c.args.check s (Ok c.in_ok-at.at)) (c.from.ensures.is w) c.in_ok-at.ensures in
    let n = c.requires.ahead c.loop-at.at c.in_ok-at.at w c.loop-at-test.true p in
    counting_again _ _ _ _ c.loop-at.invariant c.loop-at-test.true c.if-count-most.false n.1 (record { part = w; post = p })

pub loop-at-smaller : goal.loop-at-smaller
loop-at-smaller g c =
    let w : Part c.args.self.span.bytes.now c.loop-at.at c.args.self.span.end = record { order = omega arith; within = c.args.self.within.within } in
    let p = subst (λ s. goal.F-post g c.args.check s (Ok c.in_ok-at.at)) (c.from.ensures.is w) c.in_ok-at.ensures in
    let n = c.requires.ahead c.loop-at.at c.in_ok-at.at w c.loop-at-test.true p in
    omega arith

pub returns : goal.returns
returns g c = λ next f. counting_ends _ _ _ _ c.loop-at.invariant next (λ at r h p. f at p.part r h p.post) c.loop-at-test.false
