-- `capi::monkey_to_chin` meets its contract: the answer of `to_chin`, as one number.
use Rattle.definition.proofs.Slices.{are_bytes}
use Rattle.bytecode.specs.declared.Form.TheVariants.{Plain}
use Rattle.exported.proofs.Fits.{fits_as, packs_as, turn-fits}
use Rattle.capi.proofs.monkey_to_chin.Goals as goal

pub pack-requires : goal.pack-requires
pack-requires c = fits_as c.to_chin-answer.ensures.answer (turn-fits Plain _ (are_bytes c.shared_slice_known-1.given) _)

pub returns : goal.returns
returns c = record { answer = packs_as c.to_chin-answer.ensures.answer c.pack.ensures; output = c.to_chin-answer.ensures.output }
