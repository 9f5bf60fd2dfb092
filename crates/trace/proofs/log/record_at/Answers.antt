-- `record_at` meets its contract: the number of four bytes is taken apart.
use Prim.Native.Nat.{ℕ, ◌+◌, ◌*◌, ◌/◌, ◌%◌, ◌<◌}
use native.Mathlib.Omega.{arith}
use mathlib.Core.Path.{◌≡◌, ◌∙◌}
use Rattle.std.proofs.Common.{rules}
use Rattle.definition.specs.Basic.{byte_at}
use Rattle.symbol_table.specs.Layout.{symbol_of}
use Rattle.records.specs.Records.{record_of}
use Rattle.trace.specs.Log.{record_at}
use Rattle.trace.proofs.log.record_at.Goals as goal

pub returns : goal.returns
unfolding record_at
returns c =
    let l = c.args.log.now in
    let i = 4 * c.args.k in
    let w : (i : ℕ) → byte_at l i < 256 = search rules in
    let n = c.from_be_bytes-entry.result in
    let e : n ≡ byte_at l i * 16777216 + byte_at l (i + 1) * 65536 + byte_at l (i + 2) * 256 + byte_at l (i + 3) = omega (arith, c.from_be_bytes-entry.ensures) in
    let offset : n / 65536 ≡ byte_at l i * 256 + byte_at l (i + 1) = omega (arith, e, w (i + 2), w (i + 3)) in
    let crossed : n / 2048 % 32 ≡ byte_at l (i + 2) / 8 = omega (arith, e, w (i + 2), w (i + 3)) in
    let code : n % 2048 ≡ byte_at l (i + 2) % 8 * 256 + byte_at l (i + 3) = omega (arith, e, w (i + 2), w (i + 3)) in
    c.record_of.ensures ∙ (λ j. record_of (offset j) (crossed j) (symbol_of (code j)))
