-- `listing::text::put_signed` meets its contract: a writer's text, and its length.
use native.Mathlib.Omega.{arith}
use mathlib.Core.Path.{ap, ◌∙◌}
use lib.ListN.{take, length}
use Rattle.std.proofs.Common.{rules, sym}
use Rattle.definition.specs.Text.{signed}
use Rattle.definition.proofs.Bytes.{bytes_slice}
use Rattle.listing.proofs.Constants.{rest}
use Rattle.listing.proofs.Puts.{reworded}
use Rattle.listing.proofs.PutsAt.{stored_at}
use Rattle.listing.proofs.text.put_signed.Goals as goal

pub returns : goal.returns
returns c =
    let image = c.args.image.now in
    let from = c.args.from in
    let first = (rw c.unwrap-content.ensures at c.first_chunk.ensures.cases).same ∙ ap (take 8) (rest image from) in
    let e = first ∙ sym (bytes_slice image from 8 c.requires.1) in
    let b = c.begin-writer.ensures in
    let d = c.signed_length.ensures in
    let n = d.is ∙ ap (λ t. length (signed t)) e in
    let text = stored_at c.args.at b.at b.now (reworded c.put_signed.ensures (ap signed e)) in
    record { stored = search (rules, text); counted = omega (arith, n); short = omega (arith, d.small) }
