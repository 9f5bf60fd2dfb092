-- `capi::monkey_write_shape` meets its contract: the answer of `write_shape`, as one number.
use Rattle.exported.proofs.Fits.{fits_as, packs_as, shape-fits}
use Rattle.capi.proofs.monkey_write_shape.Goals as goal

pub pack-requires : goal.pack-requires
pack-requires c = fits_as c.write_shape-answer.ensures.answer (shape-fits _ _)

pub returns : goal.returns
returns c = record { answer = packs_as c.write_shape-answer.ensures.answer c.pack.ensures; output = c.write_shape-answer.ensures.output }
