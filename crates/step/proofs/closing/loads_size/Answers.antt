-- `step::closing::loads_size` meets its contract: the sum of the sizes of the originals' loads.
use native.Mathlib.Omega.{arith}
use mathlib.Core.Path.{◌∙◌}
use Rattle.std.proofs.Common.{rules, ◌^◌}
use Rattle.std.proofs.lemmas.Iterator.{YieldsList-from_slice, YieldsList-from_map}
use Rattle.std.proofs.lemmas.Iterator.Consumers.{fits_from_yields_list, sum_from_yields_List}
use Rattle.step.proofs.Loads.{size_of, sizes_sum, sizes_small, same_size}
use Rattle.step.proofs.closing.loads_size.Goals as goal

pub sum-requires-clause-fits : goal.sum-requires-clause-fits
sum-requires-clause-fits c =
    let r = c.args.originals.now in
    fits_from_yields_list c.map.result (2 ^ 64)
    (YieldsList-from_map _ size_of (YieldsList-from_slice r cc) c.map.ensures.closure (λ x s q k. search (rules, same_size))) (omega (arith, sizes_small r))

pub returns : goal.returns
returns c =
    let r = c.args.originals.now in
    let total = sum_from_yields_List c.map.result _ c.sum.ensures.ran
    (YieldsList-from_map _ size_of (YieldsList-from_slice r cc) c.map.ensures.closure (λ x s q k. search (rules, same_size))) in
    record { is = total ∙ sizes_sum r; small = omega (arith, total, sizes_small r) }
