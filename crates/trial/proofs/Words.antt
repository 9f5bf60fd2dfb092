-- Words in two's complement and the integers that they stand for.
use Rattle.std.proofs.Common.{◌≡◌, ℕ, suc, ◌-◌, ◌^◌, ◌<◌, Bool, true, false, pos, negsuc, refl, ap, ◌∙◌, arith, lt-ltb, le-ltb}
use mir.Val.{sel}
use Rattle.std.specs.Int.{cast_signed, cast_unsigned, w64}
use Rattle.std.specs.Prelude.{ℤ, FitsSigned, nat_lt}
use Rattle.definition.specs.Basic.{pick}
use Rattle.trial.specs.Value.{signed_of}
use Rattle.trial.specs.Output.{word_of}

-- a word is written as it was read
pub word_law : (a : ℕ) → a < 2 ^ 64 → word_of (signed_of a) ≡ a
word_law a f = go (nat_lt a (2 ^ 63))
  where
    go : (x : Bool) → word_of (pick x (pos a) (negsuc (2 ^ 64 - 1 - a))) ≡ a
    go true = refl
    go false = omega arith

-- as the library casts a word
pub cast_law : (a : ℕ) → a < 2 ^ 64 → cast_signed w64 a ≡ signed_of a
cast_law a f = go (nat_lt a (2 ^ 63))
  where
    go : (t : Bool) → sel t (pos a) (negsuc (2 ^ 64 - suc a)) ≡ pick t (pos a) (negsuc (2 ^ 64 - 1 - a))
    go true = refl
    go false = ap negsuc (omega arith)

-- and back
pub signed_law : (z : ℤ) → FitsSigned w64 z → signed_of (cast_unsigned w64 z) ≡ z
signed_law (pos n) f = ap (λ t. pick t (pos n) (negsuc (2 ^ 64 - 1 - n))) (lt-ltb n (2 ^ 63) f.sfits)
signed_law (negsuc n) f =
    let h = f.sfits in
    ap (λ t. pick t (pos (2 ^ 64 - suc n)) (negsuc (2 ^ 64 - 1 - (2 ^ 64 - suc n)))) (le-ltb (2 ^ 64 - suc n) (2 ^ 63) (omega arith)) ∙ ap negsuc (omega arith)

pub unsigned_small : (z : ℤ) → FitsSigned w64 z → cast_unsigned w64 z < 2 ^ 64
unsigned_small (pos n) f = let h = f.sfits in omega arith
unsigned_small (negsuc n) f = omega arith
