-- `capi::monkey_count_frames` meets its contract: whole frames and rest, as one number.
use borrow.Author.Rules.{rules}
use Rattle.definition.proofs.Slices.{are_bytes}
use Rattle.exported.proofs.Fits.{fits_as}
use Rattle.exported.proofs.Framed.{counts, packs_counts}
use Rattle.exported.proofs.Mapped.{said_fits, said_packs}
use Rattle.capi.proofs.monkey_count_frames.Goals as goal

pub pair-answer-requires : goal.pair-answer-requires
pair-answer-requires c = said_fits (counts (are_bytes c.shared_slice_known-1.given) _ (λ x y p. search rules) c.count_frames-counted.ensures.answer c.map.ensures.cases)

pub pack-requires : goal.pack-requires
pack-requires c = fits_as c.pair-answer.ensures (said_fits (counts (are_bytes c.shared_slice_known-1.given) _ (λ x y p. search rules) c.count_frames-counted.ensures.answer c.map.ensures.cases))

pub returns : goal.returns
returns c =
    let s = are_bytes c.shared_slice_known-1.given in
    packs_counts s _ (said_packs (counts s _ (λ x y p. search rules) c.count_frames-counted.ensures.answer c.map.ensures.cases) c.pair-answer.ensures c.pack.ensures)
