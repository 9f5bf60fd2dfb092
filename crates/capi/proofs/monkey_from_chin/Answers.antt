-- `capi::monkey_from_chin` meets its contract: the answer of `from_chin`, as one number.
use Rattle.definition.proofs.Slices.{are_bytes}
use Rattle.bytecode.specs.declared.Form.TheVariants.{Chin}
use Rattle.exported.proofs.Fits.{fits_as, packs_as, turn-fits}
use Rattle.capi.proofs.monkey_from_chin.Goals as goal

pub pack-requires : goal.pack-requires
pack-requires c = fits_as c.from_chin-answer.ensures.answer (turn-fits Chin _ (are_bytes c.shared_slice_known-1.given) _)

pub returns : goal.returns
returns c = record { answer = packs_as c.from_chin-answer.ensures.answer c.pack.ensures; output = c.from_chin-answer.ensures.output }
