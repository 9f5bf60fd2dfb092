-- `capi::monkey_list_image` meets its contract: the answer of `list_image`, as one number.
use Rattle.definition.proofs.Slices.{are_bytes}
use Rattle.exported.proofs.Fits.{fits_as, packs_as, list_fits}
use Rattle.capi.proofs.monkey_list_image.Goals as goal

pub pack-requires : goal.pack-requires
pack-requires c = fits_as c.list_image-answer.ensures.answers (list_fits _ (are_bytes c.shared_slice_known-1.given) _)

pub returns : goal.returns
returns c = record { answer = packs_as c.list_image-answer.ensures.answers c.pack.ensures; output = c.list_image-answer.ensures.writes }
