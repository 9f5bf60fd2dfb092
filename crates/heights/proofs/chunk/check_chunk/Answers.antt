-- `heights::chunk::check_chunk` meets its contract: the pass, then what arrives at the end.
use Rattle.heights.proofs.Ends.{chunk_failed, chunk_ends_high, chunk_passed}
use Rattle.heights.proofs.chunk.check_chunk.Goals as goal

pub returns-in_err-chunk : goal.returns-in_err-chunk
returns-in_err-chunk c = λ d a. chunk_failed a (c.pass.ensures d a) c.args.kind (c.in_err-chunk.was) c.from_residual.ensures

pub returns-then-last-marks : goal.returns-then-last-marks
returns-then-last-marks c = λ d a. chunk_ends_high a (c.pass.ensures d a) c.args.kind c.in_ok-chunk.was c.last.ensures c.if-last-marks.true

pub returns : goal.returns
returns c = λ d a. chunk_passed a (c.pass.ensures d a) c.args.kind c.in_ok-chunk.was c.last.ensures c.if-last-marks.false
