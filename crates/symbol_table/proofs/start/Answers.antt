-- `symbol_table::start` meets its contract.
use native.Mathlib.Omega.{arith}
use Rattle.symbol_table.proofs.Starting.{starts}
use Rattle.symbol_table.proofs.start.Goals as goal

pub returns : goal.returns
returns c =
    let n = c.new.ensures in
    record {
      value = omega (arith, c.length_at.ensures.is);
      starts = starts (omega (arith, c.length_at.ensures.is)) (rw (n.bytes, n.at, n.end) at c.start_from.ensures);
    }
