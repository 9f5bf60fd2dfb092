-- `listing::text::put_hex_field` meets its contract: a writer's text, and its length.
use native.Mathlib.Omega.{arith}
use mathlib.Core.Path.{ap}
use Rattle.std.proofs.Common.{rules}
use Rattle.definition.specs.Listing.{hex_field}
use Rattle.listing.proofs.Puts.{reworded}
use Rattle.listing.proofs.PutsAt.{stored_at, slice, hex_field-length}
use Rattle.listing.proofs.text.put_hex_field.Goals as goal

pub returns : goal.returns
returns c =
    let image = c.args.image.now in
    let from = c.args.from in
    let len = c.args.len in
    let b = c.begin-writer.ensures in
    let n = hex_field-length image from len c.if-len-eq0.false in
    let text = stored_at c.args.at b.at b.now (reworded c.put_hex_field.ensures (ap hex_field (slice image from len c.requires.1))) in
    record { stored = search (rules, text); counted = omega (arith, n); short = omega arith }
