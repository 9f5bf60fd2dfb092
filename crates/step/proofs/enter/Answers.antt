-- `step::enter` meets its contract: number 14, number 8, then a table and a chunk more.
use mathlib.Core.Path.{refl}
use native.Mathlib.Omega.{arith}
use Rattle.step.proofs.Functions.{params_whole, params_stand, enter-nested, enter-many, enter-on}
use Rattle.step.proofs.enter.Goals as goal

pub returns-then-level-ge-NESTING_LIMIT : goal.returns-then-level-ge-NESTING_LIMIT
returns-then-level-ge-NESTING_LIMIT c = rw c.refused.ensures (enter-nested c.requires.head_at c.if-level-ge-NESTING_LIMIT.true)

pub returns-then-n-gt-ARGUMENTS_LIMIT : goal.returns-then-n-gt-ARGUMENTS_LIMIT
returns-then-n-gt-ARGUMENTS_LIMIT c = rw c.refused-then-n-gt-ARGUMENTS_LIMIT.ensures (enter-many c.requires.head_at c.if-level-ge-NESTING_LIMIT.false c.if-n-gt-ARGUMENTS_LIMIT.true)

pub next-params-requires : goal.next-params-requires
next-params-requires c = rw (c.first-name.ensures.bytes, c.first-name.ensures.at) (params_whole c.requires.head_at)

pub new-key-requires : goal.new-key-requires
new-key-requires c = let h = c.requires.head_at.named.fits in rw (c.first-name.ensures.bytes, c.first-name.ensures.at) (record { stands = h; within = omega (arith, h, c.requires.tree_len_bound) })

pub enter-requires-clause-tree_len_bound : goal.enter-requires-clause-tree_len_bound
enter-requires-clause-tree_len_bound c = rw (c.new-key.ensures.tree, c.first-name.ensures.bytes) c.requires.tree_len_bound

pub enter-requires-clause-params : goal.enter-requires-clause-params
enter-requires-clause-params c =
    rw (c.new-key.ensures.tree, c.after.ensures.is, c.next-params.ensures.bytes, c.next-params.ensures.at, c.first-name.ensures.bytes, c.first-name.ensures.at) (params_stand c.requires.head_at c.if-n-gt-ARGUMENTS_LIMIT.false)

pub returns : goal.returns
returns c =
    let s = c.args.scope.now in
    let t = rw (c.new-key.ensures.tree, c.new-key.ensures.at, c.after.ensures.is, c.next-params.ensures.bytes, c.next-params.ensures.at, c.first-name.ensures.bytes, c.first-name.ensures.at) at c.enter.ensures in
    record { enters = λ e f. enter-on c.requires.head_at s.state c.if-level-ge-NESTING_LIMIT.false c.if-n-gt-ARGUMENTS_LIMIT.false t s.area s.fits c.enter.auto.table c.inside-scope.ensures e f; code = refl; same = refl }
