-- `names::compile_over` meets its contract: the call with a log, the slots filled from it, the log cleared.
use Rattle.names.proofs.Whole.{written_on, written_stop}
use Rattle.names.proofs.compile_over.Goals as goal

pub returns : goal.returns
returns g c = written_on _ _ c.WIDTH.ensures c.compile_log.ensures c.in_ok-t.was c.fill.ensures c.clear_code.ensures

pub returns-in_err-t : goal.returns-in_err-t
returns-in_err-t g c = written_stop _ _ c.WIDTH.ensures c.compile_log.ensures c.in_err-t.was c.from_residual.ensures.1
