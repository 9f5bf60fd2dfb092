-- What the exported function on shapes writes tells of two trees whether they are alike.
use Prim.Native.Nat.{ℕ, ◌/◌, ◌%◌}
use mathlib.Core.Logic.{◌↔◌}
use mathlib.Core.Path.{◌≡◌, refl, sym}
use lib.ListN.{take}
use Rattle.std.specs.Prelude.{Ok}
use Rattle.definition.specs.Basic.{Bytes}
use Rattle.shape.specs.Alike.{AlikeFields}
use Rattle.shape.specs.Promise.{WritesShape}
use Rattle.shape.proofs.Outputs.{outputs-alike}
use Rattle.exported.specs.Packed.{half_bound}
use Rattle.exported.specs.Shaped.{ShapesPacked}
use Rattle.exported.proofs.Fits.{packs_wrote}

-- an exported call that was not refused, as a call of `write_shape`
shape_writes : {tree o o' : Bytes} {r : ℕ} → ShapesPacked tree o r o' → r / half_bound ≡ 0 → WritesShape tree o (Ok (r % half_bound)) o'
shape_writes p z = record { answer = sym (packs_wrote p.answer z); output = p.output }

-- Two exported calls that are not refused write equal bytes exactly when their trees are alike
pub monkey-shapes-alike : {t u a b x y : Bytes} {p q : ℕ} → ShapesPacked t a p x → ShapesPacked u b q y → p / half_bound ≡ 0
    → q / half_bound ≡ 0
    → (take (p % half_bound) x ≡ take (q % half_bound) y) ↔ AlikeFields t u
monkey-shapes-alike v w e f = outputs-alike (shape_writes v e) (shape_writes w f) refl refl
