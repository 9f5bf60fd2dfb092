-- `listing::text::put_decimal` meets its contract: a writer's text, and its length.
use native.Mathlib.Omega.{arith}
use Rattle.std.proofs.Common.{rules}
use Rattle.listing.proofs.PutsAt.{stored_at}
use Rattle.listing.proofs.text.put_decimal.Goals as goal

pub returns : goal.returns
returns c =
    let b = c.begin-writer.ensures in
    let d = c.decimal_length.ensures in
    let text = stored_at c.args.at b.at b.now c.put_decimal.ensures in
    record { stored = search (rules, text); counted = omega (arith, d.is); short = omega (arith, d.small) }
