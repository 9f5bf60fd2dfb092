-- `step::pool::chunk_of` meets its contract: a part of the code area.
use Rattle.step.proofs.FunctionConstants.{part_bytes}
use Rattle.step.proofs.pool.chunk_of.Goals as goal

pub returns : goal.returns
returns c = let s = c.args.scope.now in part_bytes s.code.now s.state s.fits s.area
