-- `capi::monkey_check_heights` meets its contract: the answer of `check_heights`, as one number.
use Rattle.definition.proofs.Slices.{are_bytes}
use Rattle.exported.proofs.Fits.{fits_as, packs_as, heights_fits}
use Rattle.capi.proofs.monkey_check_heights.Goals as goal

pub pack-requires : goal.pack-requires
pack-requires c = fits_as c.check_heights-answer.ensures.answer (heights_fits _ (are_bytes c.shared_slice_known-1.given) _ _)

pub returns : goal.returns
returns c = record { answer = packs_as c.check_heights-answer.ensures.answer c.pack.ensures; output = c.check_heights-answer.ensures.output }
