-- The smaller of two numbers.
use Prim.Native.Nat.{ℕ, ◌≤◌, min}
use native.Mathlib.Omega.{arith}
use mathlib.Core.Bool.{Bool, true, false}
use mathlib.Core.Path.{◌≡◌, refl}
use lib.Dec.{leb}
use borrow.Author.Tests.{leb-true, leb-false}
use Rattle.definition.specs.Basic.{pick}
use Rattle.text.specs.Scan.{smaller}

-- it is at most each
pub smaller_left : (m n : ℕ) → smaller m n ≤ m
smaller_left m n = go (leb m n) refl
  where
    go : (b : Bool) → leb m n ≡ b → pick b m n ≤ m
    go true e = omega arith
    go false e = omega (arith, leb-false m n e)

pub smaller_right : (m n : ℕ) → smaller m n ≤ n
smaller_right m n = go (leb m n) refl
  where
    go : (b : Bool) → leb m n ≡ b → pick b m n ≤ n
    go true e = omega (arith, leb-true m n e)
    go false e = omega arith

-- as the library answers it
pub smaller_min : (m n : ℕ) → smaller m n ≡ min m n
smaller_min m n = go (leb m n) refl
  where
    go : (b : Bool) → leb m n ≡ b → pick b m n ≡ min m n
    go true e = omega (arith, leb-true m n e)
    go false e = omega (arith, leb-false m n e)
