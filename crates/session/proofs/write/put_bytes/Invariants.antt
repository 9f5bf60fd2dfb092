-- `put_bytes` meets its contract, byte by byte.
use mathlib.Core.Path.{◌≡◌}
use lib.ListN.{take}
use lib.Seq.{sets}
use Rattle.session.proofs.write.put_bytes.Given as goal

abbrev pub invariant-loop-k : goal.invariant-loop-k
invariant-loop-k l = l.output ≡ sets l.initial.output l.at (take l.k l.bytes)
