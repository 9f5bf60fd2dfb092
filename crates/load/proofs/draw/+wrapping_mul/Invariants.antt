-- The measure is the second factor.
use Rattle.load.proofs.draw.+wrapping_mul.Given as goal

abbrev pub decreases-wrapping_mul : goal.decreases-wrapping_mul
decreases-wrapping_mul l = l.b
