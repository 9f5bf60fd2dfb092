-- `run_end` meets its contract: a run ends behind its beginning and within the text.
use native.Mathlib.Omega.{arith}
use lib.ListN.{length}
use Prim.Native.Nat.{◌-◌}
use Rattle.definition.specs.Basic.{byte_at}
use Rattle.text.specs.Seen.{belongs_to}
use Rattle.text.proofs.RealTokens.{skip-on}
use Rattle.text.proofs.Skips.{skip_most}
use Rattle.text.proofs.scan.run_end.Goals as goal

pub returns-clause-onward : goal.returns-clause-onward
returns-clause-onward c =
    let a = c.args in
    omega (arith, c.skip.ensures, skip-on (byte_at a.text.now) (length a.text.now) (belongs_to a.class) (c.min.result - a.from) a.from)

pub returns-clause-within : goal.returns-clause-within
returns-clause-within c =
    let a = c.args in
    omega (arith, c.skip.ensures, c.min.ensures, skip_most (byte_at a.text.now) (length a.text.now) (belongs_to a.class) (c.min.result - a.from) a.from)
