-- `look_ahead` meets its contract: the pass where session and tree read.
use mathlib.Core.Path.{sym, ap, ◌∙◌}
use native.Mathlib.Omega.{arith}
use Rattle.bytecode.specs.Checked.{layout_answer}
use Rattle.compiler.proofs.Opened.{opened}
use Rattle.compiler.proofs.Started.{opened_words}
use Rattle.trace.proofs.Ahead.{opened_items, opened_order, opened_ahead, tree_refused, no-session}
use Rattle.trace.proofs.look_ahead.Goals as goal

pub overflow_add-from : goal.overflow_add-from
overflow_add-from c =
    let h = opened_items (opened c.args.session.now (record { below = c.fits-session }) c.told-session (sym c.read_layout.ensures.layout ∙ c.in-Some.is)) in
    omega (arith, h.order, h.within, c.told-session)

pub name_tree-count-requires : goal.name_tree-count-requires
name_tree-count-requires c =
    let n = c.new.ensures in
    let h = opened c.args.session.now (record { below = c.fits-session }) c.told-session (sym c.read_layout.ensures.layout ∙ c.in-Some.is) in
    rw (n.bytes, n.at, n.end)
    (record {
      session_len_bound = omega (arith, c.told-session);
      has_items = opened_items h;
      has_words = opened_words h;
      tree_value = (sym c.check.ensures ∙ c.in-Ok.is);
      table_size_in_bounds = omega (arith, c.told-table);
      code_size_in_bounds = omega (arith, c.told-code);
    })

pub overflow_sub-result : goal.overflow_sub-result
overflow_sub-result c = opened_order (opened c.args.session.now (record { below = c.fits-session }) c.told-session (sym c.read_layout.ensures.layout ∙ c.in-Some.is))

pub returns : goal.returns
returns c =
    let n = c.new.ensures in
    opened_ahead (opened c.args.session.now (record { below = c.fits-session }) c.told-session (sym c.read_layout.ensures.layout ∙ c.in-Some.is)) (rw (n.bytes, n.at, n.end) at c.name_tree-count.ensures)

pub returns-in_default-check : goal.returns-in_default-check
returns-in_default-check c =
    tree_refused (sym c.check.ensures ∙ c.in_default-check.is)

pub returns-in_default : goal.returns-in_default
returns-in_default c =
    no-session (sym (ap layout_answer c.in_default.is) ∙ c.read_layout.ensures.answer)
