-- `opcode::width` meets its contract: the table is the rule tabulated.
use native.Mathlib.Omega.{arith}
use Rattle.opcode.specs.Table.{entry}
use Rattle.opcode.proofs.Tables.{tabulated}
use Rattle.opcode.proofs.width.Goals as goal

pub returns : goal.returns
returns c = rw c.wide.ensures.is (tabulated entry 256 c.args.op (omega arith))
