-- `listing::measure::Piece::measure_code` meets its contract: one instruction a turn; what is left decides.
use Prim.Native.Nat.{◌-◌}
use Rattle.listing.proofs.Measures.{CodeLoop}
use Rattle.listing.proofs.measure.Piece.measure_code.Given as goal

abbrev pub invariant-loop-at : goal.invariant-loop-at
invariant-loop-at l = CodeLoop l.self.part.span.bytes.now l.self.part.span.start l.self.part.span.end l.at l.text

abbrev pub decreases-loop-at : goal.decreases-loop-at
decreases-loop-at l = l.self.part.span.end - l.at
