-- `capi::monkey_frame` meets its contract: a frame's offset and length, as one number.
use borrow.Author.Rules.{rules}
use Rattle.definition.proofs.Slices.{are_bytes}
use Rattle.exported.proofs.Fits.{fits_as}
use Rattle.exported.proofs.Framed.{places, packs_places}
use Rattle.exported.proofs.Mapped.{said_fits, said_packs}
use Rattle.capi.proofs.monkey_frame.Goals as goal

pub pair-answer-requires : goal.pair-answer-requires
pair-answer-requires c = said_fits (places (are_bytes c.shared_slice_known-1.given) _ _ (λ x y p. search rules) c.find_frame-found.ensures.answer c.map.ensures.cases)

pub pack-requires : goal.pack-requires
pack-requires c = fits_as c.pair-answer.ensures (said_fits (places (are_bytes c.shared_slice_known-1.given) _ _ (λ x y p. search rules) c.find_frame-found.ensures.answer c.map.ensures.cases))

pub returns : goal.returns
returns c =
    let s = are_bytes c.shared_slice_known-1.given in
    packs_places s _ _ (said_packs (places s _ _ (λ x y p. search rules) c.find_frame-found.ensures.answer c.map.ensures.cases) c.pair-answer.ensures c.pack.ensures)
