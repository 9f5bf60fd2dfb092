-- `capi::monkey_frame_refusal` meets its contract: a frame's refusal, as one number.
use mathlib.Core.Path.{ap, ◌∙◌}
use Rattle.definition.proofs.Slices.{are_bytes}
use Rattle.exported.specs.Framed.{refusal_answer}
use Rattle.exported.proofs.Fits.{fits_as, packs_as}
use Rattle.exported.proofs.Framed.{refusal-fits}
use Rattle.capi.proofs.monkey_frame_refusal.Goals as goal

pub pack-requires : goal.pack-requires
pack-requires c = fits_as (c.refusal_answer-answer.ensures ∙ ap refusal_answer c.frame_refusal.ensures.answer) (refusal-fits _ (are_bytes c.shared_slice_known-1.given) _ _)

pub returns : goal.returns
returns c = record { answer = packs_as (c.refusal_answer-answer.ensures ∙ ap refusal_answer c.frame_refusal.ensures.answer) c.pack.ensures }
