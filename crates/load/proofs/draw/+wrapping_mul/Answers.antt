-- A product by halves: twice the product with the half, and once more where the factor is odd.
use Rattle.std.proofs.Common.{arith, refl}
use Rattle.load.proofs.Wrapping.{zero_product, doubled, even, odd}
use Rattle.load.proofs.draw.+wrapping_mul.Goals as goal

pub returns-then-b-eq0 : goal.returns-then-b-eq0
returns-then-b-eq0 t c = zero_product 4294967296 c.args.a c.args.b c.if-b-eq0.true

pub returns-then-b-eq0-2 : goal.returns-then-b-eq0-2
returns-then-b-eq0-2 t c = even 4294967296 _ _ _ (doubled 4294967296 _ _ _ _ c.wrapping_mul-half.ensures refl) c.if-b-eq0-2.true

pub returns : goal.returns
returns t c = odd 4294967296 _ _ _ _ (doubled 4294967296 _ _ _ _ c.wrapping_mul-half.ensures refl) refl (omega arith)
