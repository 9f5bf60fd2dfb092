-- `listing::measure::Piece::measure_constants` meets its contract: one constant a turn; what is left decides.
use Prim.Native.Nat.{◌-◌}
use Rattle.listing.proofs.Measures.{PoolLoop}
use Rattle.listing.proofs.measure.Piece.measure_constants.Given as goal

abbrev pub invariant-loop-at : goal.invariant-loop-at
invariant-loop-at l = PoolLoop l.self.part.span.bytes.now l.self.part.span.start l.self.part.span.end l.at l.count l.text

abbrev pub decreases-loop-at : goal.decreases-loop-at
decreases-loop-at l = l.self.part.span.end - l.at
