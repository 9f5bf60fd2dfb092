-- `compile_in` gives the call's result: a broken session, a refused tree, or the translation. Assumes nothing.
use mathlib.Core.Path.{sym, ap, ◌∙◌}
use Rattle.definition.proofs.Basic.{passed_on}
use Rattle.bytecode.specs.Checked.{layout_answer}
use Rattle.compiler.proofs.Opened.{opened, broken, refused_tree}
use Rattle.compiler.proofs.compile_in.Goals as goal

pub returns-in_default : goal.returns-in_default
returns-in_default c =
    let e = c in
    rw c.refused.ensures (sym (broken e.args.tree.now e.args.session.now e.args.output.now (sym (ap layout_answer c.in_default.is) ∙ c.read_layout.ensures.answer)))

pub returns-in_err-check : goal.returns-in_err-check
returns-in_err-check c =
    let a = c.args in
    let l = opened a.session.now (record { below = c.fits-session }) c.told-session (sym c.read_layout.ensures.layout ∙ c.in-Some.is) in
    rw (passed_on c.from_residual.ensures.1) (sym (refused_tree a.tree.now a.session.now a.output.now l (sym c.check.ensures ∙ c.in_err-check.was)))
