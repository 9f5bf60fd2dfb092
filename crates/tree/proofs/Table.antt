-- What holds of each of some numbers, by one test or one proof after the other.
use Prim.Native.Nat.{ℕ, zero, suc, ◌+◌, ◌≤◌, ◌<◌}
use native.Mathlib.Omega.{arith}
use mathlib.Core.Bool.{Bool, true, false}
use mathlib.Core.Path.{◌≡◌, refl}
use lib.Dec.{eqb}
use borrow.Author.Tests.{eqb-true, eqb-false}
use Rattle.definition.specs.Basic.{both}
use Rattle.definition.proofs.Basic.{both_left, both_right}

-- what holds of each of n numbers
abbrev pub Each : (ℕ → Type 0) → ℕ → ℕ → Type 0
Each P low zero = Unit {0}
Each P low (suc n) = P low × Each P (low + 1) n

pub between : (P : ℕ → Type 0) (low n t : ℕ) → Each P low n → low ≤ t → t < low + n → P t
between P low zero t ps l h = absurd (omega arith)
between P low (suc n) t ps l h = by (λ l₁. between P (low + 1) n t ps.1 l₁ (omega arith)) (eqb t low) refl
  where
    by : (low + 1 ≤ t → P t) → (b : Bool) → eqb t low ≡ b → P t
    by later true e = rw (eqb-true t low e) ps.0
    by later false e = let ne = eqb-false t low e in later (omega arith)

-- a test of each number below a bound
abbrev pub all_below : ℕ → (ℕ → Bool) → Bool
all_below zero f = true
all_below (suc n) f = both (f n) (all_below n f)

-- what it says of one
pub passes : (n : ℕ) (f : ℕ → Bool) (t : ℕ) → all_below n f ≡ true → t < n → f t ≡ true
passes zero f t e h = absurd (omega arith)
passes (suc n) f t e h = by (λ l. passes n f t (both_right (f n) (all_below n f) e) l) (eqb t n) refl
  where
    by : (t < n → f t ≡ true) → (b : Bool) → eqb t n ≡ b → f t ≡ true
    by below true q = rw (eqb-true t n q) (both_left (f n) (all_below n f) e)
    by below false q = let ne = eqb-false t n q in below (omega arith)
