-- `read_text` meets its contract: 20 and 21 by pass 1, 4 and 15 by what was measured, then the tree.
use Rattle.definition.proofs.Basic.{passed_on}
use Rattle.text.proofs.Smaller.{smaller_left, smaller_min}
use Rattle.text.proofs.Read.{accepted, answers_deep, answers_short, answers_tree, answers_refusal, answers_refused}
use lib.ListN.{length}
use mathlib.Core.Path.{sym, ◌∙◌}
use native.Mathlib.Omega.{arith}
use Rattle.text.proofs.read_text.Goals as goal

pub returns-then-measured-gt-LEVEL_LIMIT : goal.returns-then-measured-gt-LEVEL_LIMIT
returns-then-measured-gt-LEVEL_LIMIT c =
    let text = c.args.text.now in
    let a = accepted text (sym c.recognize.ensures ∙ c.in_ok-recognize.was) in
    let facts = answers_refusal (answers_deep text c.args.output.now a c.write_script-measured.ensures c.if-measured-gt-LEVEL_LIMIT.true) c.refused.ensures in
    record { answer = facts.0; output = facts.1 }

pub returns-then-min-measured : goal.returns-then-min-measured
returns-then-min-measured c =
    let text = c.args.text.now in
    let a = accepted text (sym c.recognize.ensures ∙ c.in_ok-recognize.was) in
    let facts = answers_refusal (answers_short text c.args.output.now a c.write_script-measured.ensures c.if-measured-gt-LEVEL_LIMIT.false (omega (arith, c.min.ensures, smaller_min (length c.args.output.now) 32768, c.if-min-measured.true))) c.refused-then-min-measured.ensures in
    record { answer = facts.0; output = facts.1 }

pub returns-in_err-recognize : goal.returns-in_err-recognize
returns-in_err-recognize c = let facts = answers_refusal (answers_refused (length c.args.output.now) c.args.text.now (sym c.recognize.ensures ∙ c.in_err-recognize.was)) (passed_on c.from_residual.ensures.1) in
    record { answer = facts.0; output = facts.1 }

pub returns : goal.returns
returns c =
    let text = c.args.text.now in
    let old = c.args.output.now in
    let a = accepted text (sym c.recognize.ensures ∙ c.in_ok-recognize.was) in
    let facts = answers_tree text old a c.write_script-measured.ensures c.if-measured-gt-LEVEL_LIMIT.false (omega (arith, c.min.ensures, smaller_min (length c.args.output.now) 32768, c.if-min-measured.false)) (smaller_left (length old) 32768) c.write_script-written.ensures in
    record { answer = facts.0; output = facts.1 }
