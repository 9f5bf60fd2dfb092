-- The needs of `check`: a tree whose length or head is wrong is refused at Program, and any other has its children checked.
use native.Mathlib.Omega.{arith}
use mathlib.Core.Path.{◌∙◌}
use Rattle.tree.proofs.Verdict.{program_good, program_bad}
use Rattle.tree.proofs.check.Goals as goal
use Rattle.tree.proofs.check.Goals.{then-n-lt3-via-then-n-lt3, then-n-lt3-via-else-n-lt3+then-n-gt-TREE_LIMIT, then-n-lt3-via-else-n-lt3+else-n-gt-TREE_LIMIT+then-tree-ne-PROGRAM, then-n-lt3-via-else-n-lt3+else-n-gt-TREE_LIMIT+else-tree-ne-PROGRAM+then-length_at-n}

pub returns-then-n-lt3 : goal.returns-then-n-lt3
returns-then-n-lt3 c =
    c.refused.ensures
    ∙ program_bad _ (λ short long t n.
    elim c.then-n-lt3.branch [
      | then-n-lt3-via-then-n-lt3 w ↦ omega (arith, w.if-n-lt3.true)
      | then-n-lt3-via-else-n-lt3+then-n-gt-TREE_LIMIT w ↦ omega (arith, w.if-n-gt-TREE_LIMIT.true)
      | then-n-lt3-via-else-n-lt3+else-n-gt-TREE_LIMIT+then-tree-ne-PROGRAM w ↦ w.if-tree-ne-PROGRAM.true t
      | then-n-lt3-via-else-n-lt3+else-n-gt-TREE_LIMIT+else-tree-ne-PROGRAM+then-length_at-n w ↦ omega (arith, w.length_at.ensures.is, w.if-length_at-n.true)
    ])

pub returns : goal.returns
returns c =
    c.outcome.ensures
    ∙ c.check_children.ensures
    ∙ program_good _ c.if-n-lt3.false c.if-n-gt-TREE_LIMIT.false
    c.if-tree-ne-PROGRAM.false
    (omega (arith, c.length_at.ensures.is))
