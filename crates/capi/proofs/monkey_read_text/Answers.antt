-- `capi::monkey_read_text` meets its contract: the answer of `read_text`, as one number.
use Rattle.exported.proofs.Fits.{fits_as, packs_as, read_fits}
use Rattle.capi.proofs.monkey_read_text.Goals as goal

pub pack-requires : goal.pack-requires
pack-requires c = fits_as c.read_text-answer.ensures.answer (read_fits _ _)

pub returns : goal.returns
returns c = record { answer = packs_as c.read_text-answer.ensures.answer c.pack.ensures; output = c.read_text-answer.ensures.output }
