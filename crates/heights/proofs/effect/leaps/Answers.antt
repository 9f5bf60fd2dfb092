-- `heights::effect::leaps` meets its contract: by its byte.
use Rattle.std.proofs.Common.{arith}
use Rattle.heights.proofs.Tables.{leaps_no}
use Rattle.heights.proofs.effect.leaps.Goals as goal

pub returns-in_default-2 : goal.returns-in_default-2
returns-in_default-2 c = leaps_no c.args.op (λ e. omega arith) (λ e. omega arith)
