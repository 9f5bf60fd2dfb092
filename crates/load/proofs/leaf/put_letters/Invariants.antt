-- The bytes before the index are the letters so far.
use Rattle.std.proofs.Common.{◌≡◌, take}
use Rattle.load.specs.Load.{letters}
use Rattle.load.proofs.leaf.put_letters.Given as goal

abbrev pub invariant-loop-byte : goal.invariant-loop-byte
invariant-loop-byte l =
    let x = letters l.byte-index l.fn.draws.state in
    (take l.byte-index l.byte-items ≡ x.value) × (l.draws.state ≡ x.state)
