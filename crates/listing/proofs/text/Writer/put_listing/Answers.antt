-- `listing::Writer::put_listing` meets its contract: main code, then the pool.
use native.Mathlib.Omega.{arith}
use mathlib.Core.Path.{ap, refl}
use Rattle.definition.specs.Text.{decimal}
use Rattle.definition.specs.Listing.{also}
use Rattle.listing.proofs.Puts.{both, reworded}
use Rattle.listing.proofs.Images.{parts, code_in, pool_in, has_code, has_pool, listing_is}
use Rattle.listing.proofs.text.Writer.put_listing.Goals as goal

pub put_code-requires : goal.put_code-requires
put_code-requires c = has_code c.args.image.bytes.now c.args.image.sound c.parts.ensures

pub put_pool-requires : goal.put_pool-requires
put_pool-requires c = has_pool c.args.image.bytes.now c.args.image.sound c.parts.ensures

pub returns : goal.returns
returns c = λ m i n.
    let d = c.parts.ensures in
    let k = parts c.args.image.bytes.now i refl in
    let sized = reworded c.put_field.ensures (ap (λ n. also (decimal n)) (omega (arith, k.size, d.first, d.behind))) in
    let main = both (both (both c.put_bytes.ensures sized) c.put_newline.ensures) (c.put_code.ensures m.code (code_in c.args.image.bytes.now i d)) in
    reworded (both main (c.put_pool.ensures m.pool (pool_in c.args.image.bytes.now i d) n)) (listing_is m)
