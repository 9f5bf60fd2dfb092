-- The bytes of the test are an image, whose parts are the code and the pool that are put.
use mathlib.Core.Path.{refl}
use Rattle.definition.specs.Decode.{read_image_of, items}
use Rattle.listing.proofs.Images.{has_code, has_pool}
use Rattle.list_image.proofs.tests.puts_code_and_pool.Goals as goal

pub invariant_of-parts : goal.invariant_of-parts
unfolding read_image_of items
invariant_of-parts g c = record { sound = refl }

pub put_code-requires : goal.put_code-requires
unfolding read_image_of items
put_code-requires g c = has_code _ refl c.parts-parts.ensures

pub put_pool-requires : goal.put_pool-requires
unfolding read_image_of items
put_pool-requires g c = has_pool _ refl c.parts-parts.ensures
