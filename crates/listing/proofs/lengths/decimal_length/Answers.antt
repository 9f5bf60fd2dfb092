-- `listing::lengths::decimal_length` meets its contract: one more than the logarithm.
use Rattle.std.proofs.Common.{rules}
use Rattle.listing.proofs.Digits.{sized_by}
use Rattle.listing.proofs.lengths.decimal_length.Goals as goal

pub returns-clause-is : goal.returns-clause-is
returns-clause-is c =
    let l = c.checked_ilog10.ensures in
    sized_by _ _ l.none l.power_le l.next_power_gt l.bound c.map_or.ensures (λ k p. search rules)
