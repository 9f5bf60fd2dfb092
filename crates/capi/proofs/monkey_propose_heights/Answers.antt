-- `capi::monkey_propose_heights` meets its contract: the answer of `propose_heights`, as one number.
use Rattle.definition.proofs.Slices.{are_bytes}
use Rattle.exported.proofs.Fits.{fits_as, packs_as, proposal_fits}
use Rattle.capi.proofs.monkey_propose_heights.Goals as goal

pub pack-requires : goal.pack-requires
pack-requires c = fits_as c.propose_heights-answer.ensures.answer (proposal_fits _ (are_bytes c.shared_slice_known-1.given) _)

pub returns : goal.returns
returns c = record { answer = packs_as c.propose_heights-answer.ensures.answer c.pack.ensures; stays = c.propose_heights-answer.ensures.stays }
