-- The table's rule at every entry, and what it says of the definition's `width` and `whole`.
use Prim.Native.Nat.{ℕ, ◌+◌, ◌≤◌}
use mathlib.Core.Path.{◌≡◌, refl}
use mathlib.Core.Bool.{Bool, true, false}
use native.Mathlib.Omega.{arith}
use lib.Dec.{leb}
use lib.ListN.{length, get_or-eq_default}
use borrow.Author.Tests.{lt-leb}
use Rattle.std.specs.Prelude.{None}
use Rattle.definition.specs.Basic.{both}
use Rattle.definition.specs.Opcode.{op_last, widths, width}
use Rattle.opcode.specs.Decoding.{size_at}

-- a byte past the last instruction's has no operands
pub no_operands : (o : ℕ) → length widths ≤ o → width o ≡ 0
no_operands o h = get_or-eq_default widths 0 h

-- The length of the instruction at an offset, by the table's entry
module _ (byte : ℕ → ℕ) (at end : ℕ) where
  none_left : end ≤ at → both (leb (byte at) op_last) (leb (at + 1 + width (byte at)) end) ≡ false
  none_left h = rw (lt-leb (at + 1 + width (byte at)) end (omega arith)) (go (leb (byte at) op_last))
    where
      go : (b : Bool) → both b false ≡ false
      go true = refl
      go false = refl

  pub size_end : end ≤ at → None ≡ size_at byte at end
  size_end h = rw (none_left h)
