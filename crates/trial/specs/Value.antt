-- The values of a trial run, and what its operators make of them.
use Rattle.std.specs.Prelude.{ℕ, zero, suc, ◌-◌, ◌^◌, Bool, true, false, not, List, ℤ, pos, negsuc, ◌+ℤ◌, ◌-ℤ◌, ◌*ℤ◌, neg_ℤ, ◌==◌, int_div, int_lt, nat_lt, Option, Some as some, None as none}
use Rattle.std.specs.Prelude.{Option, Some as some, None as none}
use Rattle.std.specs.Int.Signed.{mag}
use Rattle.definition.specs.Basic.{Bytes, pick}
use Rattle.definition.specs.Text.{number}
-- an exact integer, which is one of 64 bits throughout a run; a boolean; null
pub use Rattle.trial.specs.declared.cells.Value.{Value}
pub use Rattle.trial.specs.declared.cells.Value.TheVariants.{Integer as integer, Boolean as boolean, Null as null}

-- the globals by index; none: not yet set
abbrev pub Globals : Type 0
Globals = List (Option Value)

-- a number below 2 to the 64th as two's complement
abbrev pub signed_of : ℕ → ℤ
signed_of n = pick (nat_lt n (2 ^ 63)) (pos n) (negsuc (2 ^ 64 - 1 - n))

-- the value of an integer's eight bytes
abbrev pub integer_of : Bytes → Value
integer_of b = integer (signed_of (number 0 b))

-- false and null are false, all else true
abbrev pub truthy : Value → Bool
truthy (integer z) = true
truthy (boolean b) = b
truthy null = false

-- two integers are equal
abbrev pub eq_z : ℤ → ℤ → Bool
eq_z (pos a) (pos b) = a == b
eq_z (pos a) (negsuc b) = false
eq_z (negsuc a) (pos b) = false
eq_z (negsuc a) (negsuc b) = a == b

-- two values are equal: of one kind, with one value
abbrev pub equal : Value → Value → Bool
equal (integer a) (integer b) = eq_z a b
equal (integer a) (boolean b) = false
equal (integer a) null = false
equal (boolean a) (integer b) = false
equal (boolean a) (boolean b) = pick a b (not b)
equal (boolean a) null = false
equal null (integer b) = false
equal null (boolean b) = false
equal null null = true

-- an integer that 64 bits hold: `mag` of n and of -(n + 1) is n
abbrev pub fitting : ℤ → Option Value
fitting z = pick (nat_lt (mag z) (2 ^ 63)) (some (integer z)) none

-- the fraction is dropped; not by zero
abbrev pub quotient : ℤ → ℤ → Option Value
quotient a (pos zero) = none
quotient a (pos (suc b)) = fitting (int_div a (pos (suc b)))
quotient a (negsuc b) = fitting (int_div a (negsuc b))

-- an operator that takes integers alone
abbrev pub of_integers : (ℤ → ℤ → Option Value) → Value → Value → Option Value
of_integers f (integer a) (integer b) = f a b
of_integers f (integer a) (boolean b) = none
of_integers f (integer a) null = none
of_integers f (boolean a) y = none
of_integers f null y = none

-- the operators of two operands
pub data Infix : Type 0 where
  add sub mul div equals differs less greater : Infix

-- what they make of the left and the right one; none: number 28
abbrev pub combined : Infix → Value → Value → Option Value
combined add x y = of_integers (λ a b. fitting (a +ℤ b)) x y
combined sub x y = of_integers (λ a b. fitting (a -ℤ b)) x y
combined mul x y = of_integers (λ a b. fitting (a *ℤ b)) x y
combined div x y = of_integers quotient x y
combined equals x y = some (boolean (equal x y))
combined differs x y = some (boolean (not (equal x y)))
combined less x y = of_integers (λ a b. some (boolean (int_lt a b))) x y
combined greater x y = of_integers (λ a b. some (boolean (int_lt b a))) x y

-- the operators of one
pub data Prefix : Type 0 where
  minus bang : Prefix

-- what they make of it
abbrev pub changed : Prefix → Value → Option Value
changed minus (integer a) = fitting (neg_ℤ a)
changed minus (boolean b) = none
changed minus null = none
changed bang x = some (boolean (not (truthy x)))
