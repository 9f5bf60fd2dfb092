-- `skip` meets its contract. What is left of the run decides.
use Prim.Native.Nat.{◌-◌}
use mathlib.Core.Path.{◌≡◌}
use lib.ListN.{length}
use Rattle.definition.specs.Basic.{byte_at}
use Rattle.text.specs.Scan.{skip}
use Rattle.text.specs.Seen.{belongs_to}
use Rattle.text.proofs.scan.skip.Given as goal

abbrev pub invariant-loop-at : goal.invariant-loop-at
invariant-loop-at l = skip (byte_at l.text) (length l.text) (belongs_to l.class) (l.end - l.from) l.from ≡ skip (byte_at l.text) (length l.text) (belongs_to l.class) (l.end - l.at) l.at
