-- `capi::monkey_run` meets its contract: the answer of the run, as one number.
use borrow.Author.Rules.{rules}
use Rattle.definition.proofs.Slices.{are_bytes}
use Rattle.exported.proofs.Fits.{fits_as}
use Rattle.exported.proofs.Mapped.{said_fits, said_packs}
use Rattle.exported.proofs.Trial.{runs, packs_run}
use Rattle.capi.proofs.monkey_run.Goals as goal

pub pair-answer-requires : goal.pair-answer-requires
pair-answer-requires c = said_fits (runs (are_bytes c.shared_slice_known-1.given) _ _ _ (λ x y p. search rules) c.run-ran.ensures.answer c.map.ensures.cases)

pub pack-requires : goal.pack-requires
pack-requires c = fits_as c.pair-answer.ensures (said_fits (runs (are_bytes c.shared_slice_known-1.given) _ _ _ (λ x y p. search rules) c.run-ran.ensures.answer c.map.ensures.cases))

pub returns : goal.returns
returns c =
    let s = are_bytes c.shared_slice_known-1.given in
    packs_run s _ _ _ c.run-ran.ensures.work c.run-ran.ensures.output (said_packs (runs s _ _ _ (λ x y p. search rules) c.run-ran.ensures.answer c.map.ensures.cases) c.pair-answer.ensures c.pack.ensures)
