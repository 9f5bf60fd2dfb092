-- What is known of a slice of bytes says that they are bytes.
use Rattle.std.proofs.Common.{ℕ, get_or, Fits, w8, arith}
use Rattle.definition.specs.Basic.{Bytes}
use Rattle.definition.specs.Valid.{AreBytes}

pub are_bytes : {b : Bytes} → ((i : ℕ) → Fits w8 (get_or b i 0)) → AreBytes b
are_bytes h = record { below = λ i. omega (arith, h i) }
