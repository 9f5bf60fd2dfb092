-- The layout of a checked tree's session is within the limits. Assumes nothing.
use Rattle.definition.proofs.Slices.{are_bytes}
use Rattle.compiler.proofs.Walked.{layout_small}
use Rattle.compiler.proofs.translate.translate.Goals as goal

pub start_state-requires : goal.start_state-requires
start_state-requires c = layout_small c.requires (are_bytes c.slice_known-1.given)
