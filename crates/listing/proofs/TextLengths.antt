-- How long the texts of instructions and constants are.
use Prim.Native.Nat.{ℕ, ◌+◌, ◌*◌}
use native.Mathlib.Omega.{arith}
use mathlib.Core.Path.{◌≡◌, refl}
use mathlib.Core.List.{[], ◌∷◌}
use lib.ListN.{length, length-append}
use Rattle.definition.specs.Basic.{Bytes}
use Rattle.definition.specs.Text.{decimal, signed}
use Rattle.definition.specs.Bytecode.{Const}
use Rattle.definition.specs.Listing.{constant_fields}
use Rattle.listing.specs.Reads.{function_head}
use Rattle.listing.proofs.Numbers.{length-hex}

-- the line of a constant behind its index
pub integer_is : (b : Bytes) → 9 + length (signed b) + 1 ≡ length (constant_fields (Const.integer b))
integer_is b = simp length-append (omega arith)

pub string_empty : (b : Bytes) → length b ≡ 0 → 8 + length (decimal 0) + 1 ≡ length (constant_fields (Const.string b))
string_empty [] e = simp length-append (omega arith)
string_empty (x ∷ b) e = absurd (omega arith)

pub string_some : (b : Bytes) → (length b ≡ 0 → ⊥) → 8 + length (decimal (length b)) + 1 + 2 * length b + 1 ≡ length (constant_fields (Const.string b))
string_some [] n = absurd (n refl)
string_some (x ∷ b) n = simp length-append (omega (arith, length-hex (x ∷ b)))

pub function_is : (l p size : ℕ) → 9 + 1 + length (decimal l) + 1 + length (decimal p) + 1 + length (decimal size) + 1 ≡ length (function_head l p size)
function_is l p size = simp length-append (omega arith)
