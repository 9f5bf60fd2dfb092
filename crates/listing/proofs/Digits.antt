-- Decimal digits: their last one, and how many there are.
use Prim.Native.Nat.{ℕ, zero, suc, ◌+◌, ◌-◌, ◌*◌, ◌/◌, ◌%◌, ◌^◌, ◌≤◌, ◌<◌}
use native.Mathlib.Nat.{pow-zero, pow-suc, one-le-pow}
use mathlib.Core.Bool.{Bool, true, false}
use native.Mathlib.Omega.{arith}
use mathlib.Core.Path.{◌≡◌, refl, sym, ap, ◌∙◌}
use mathlib.Core.List.{[], ◌∷◌, ◌++◌}
use lib.Dec.{ltb}
use lib.ListN.{length, replicate, length-append, length-replicate}
use borrow.Author.Tests.{lt-ltb, le-ltb}
use Rattle.std.specs.Prelude.{Option, Some, None, MatchOption, IfSome, IfNone}
use Rattle.definition.specs.Basic.{pick}
use Rattle.definition.specs.Text.{digit, digits, decimal, padded}

pub few : (m n : ℕ) → n < 10 → digits (suc m) n ≡ digit n ∷ []
unfolding digits
few m n h = rw (lt-ltb n 10 h)

more : (m n : ℕ) → 10 ≤ n → digits (suc m) n ≡ digits m (n / 10) ++ (digit (n % 10) ∷ [])
unfolding digits
more m n h = rw (le-ltb n 10 h)

pub digits_none : (most n : ℕ) → most ≡ 0 → digits most n ≡ []
unfolding digits
digits_none zero n e = refl
digits_none (suc m) n e = absurd (omega arith)

pub digits_few : (most n : ℕ) → (most ≡ 0 → ⊥) → n < 10 → digits most n ≡ digit n ∷ []
digits_few zero n z h = absurd (z refl)
digits_few (suc m) n z h = few m n h

pub digits_more : (most n : ℕ) → (most ≡ 0 → ⊥) → 10 ≤ n → digits most n ≡ digits (most - 1) (n / 10) ++ (digit (n % 10) ∷ [])
digits_more zero n z h = absurd (z refl)
digits_more (suc m) n z h = let e : m ≡ suc m - 1 = omega arith in more m n h ∙ ap (λ k. digits k (n / 10) ++ (digit (n % 10) ∷ [])) e

-- one digit more than a tenth has
longer : (m n : ℕ) → 10 ≤ n → length (digits (suc m) n) ≡ length (digits m (n / 10)) + 1
longer m n h = ap length (more m n h) ∙ length-append (digits m (n / 10)) (digit (n % 10) ∷ [])

pub some : (m n : ℕ) → 1 ≤ length (digits (suc m) n)
unfolding digits
some m n = go (ltb n 10)
  where
    go : (b : Bool) → 1 ≤ length (pick b (digit n ∷ []) (digits m (n / 10) ++ (digit (n % 10) ∷ [])))
    go true = omega arith
    go false = omega (arith, length-append (digits m (n / 10)) (digit (n % 10) ∷ []))

-- at most one digit more than a tenth has
at_most : (m n k : ℕ) → length (digits m (n / 10)) ≤ k → length (digits (suc m) n) ≤ k + 1
unfolding digits
at_most m n k h = go (ltb n 10)
  where
    go : (b : Bool) → length (pick b (digit n ∷ []) (digits m (n / 10) ++ (digit (n % 10) ∷ []))) ≤ k + 1
    go true = omega arith
    go false = omega (arith, length-append (digits m (n / 10)) (digit (n % 10) ∷ []))

-- the last digit
last : (n : ℕ) → length (digits 1 n) ≡ 1
unfolding digits
last n = go (ltb n 10)
  where
    go : (b : Bool) → length (pick b (digit n ∷ []) (digits 0 (n / 10) ++ (digit (n % 10) ∷ []))) ≡ 1
    go true = refl
    go false = refl

-- the zeros before a number, by its size
pub three_zeros : (n : ℕ) → n < 10 → replicate 3 (digit 0) ≡ replicate (4 - length (decimal n)) (digit 0)
three_zeros n h = let e : 3 ≡ 4 - length (decimal n) = omega (arith, ap length (few 19 n h)) in ap (λ j. replicate j (digit 0)) e

pub two_zeros : (n : ℕ) → 10 ≤ n → n < 100 → replicate 2 (digit 0) ≡ replicate (4 - length (decimal n)) (digit 0)
two_zeros n l h =
    let e : 2 ≡ 4 - length (decimal n) = omega (arith, longer 19 n l, ap length (few 18 (n / 10) (omega arith))) in
    ap (λ j. replicate j (digit 0)) e

pub one_zero : (n : ℕ) → 100 ≤ n → n < 1000 → replicate 1 (digit 0) ≡ replicate (4 - length (decimal n)) (digit 0)
one_zero n l h =
    let e : 1 ≡ 4 - length (decimal n) = omega (arith, longer 19 n (omega arith), longer 18 (n / 10) (omega arith), ap length (few 17 (n / 10 / 10) (omega arith))) in
    ap (λ j. replicate j (digit 0)) e

pub no_zero : (n : ℕ) → 1000 ≤ n → [] ≡ replicate (4 - length (decimal n)) (digit 0)
no_zero n l =
    let e : 0 ≡ 4 - length (decimal n) = omega (arith, longer 19 n (omega arith), longer 18 (n / 10) (omega arith), longer 17 (n / 10 / 10) (omega arith), some 16 (n / 10 / 10 / 10)) in
    ap (λ j. replicate j (digit 0)) e

-- one digit for nothing, and one more than the power of ten that a number has
sized_none : (n : ℕ) → n ≡ 0 → 1 ≡ length (decimal n)
sized_none n e = sym (ap length (few 19 n (omega arith)))

sized : (k m n : ℕ) → k ≤ m → 10 ^ k ≤ n → n < 10 * 10 ^ k → length (digits (suc m) n) ≡ k + 1
sized zero m n l h g = ap length (few m n (omega (arith, pow-zero 10)))
sized (suc k) zero n l h g = absurd (omega arith)
sized (suc k) (suc m) n l h g =
    let p = one-le-pow k 10 (omega arith) in
    let q = pow-suc 10 k in
    omega (arith, longer (suc m) n (omega arith), sized k m (n / 10) (omega arith) (omega arith) (omega arith))

pub sized_by : (n : ℕ) {r : ℕ} {one : ℕ → Type 0} (log : Option ℕ) → IfNone log (n ≡ 0) → IfSome log (λ k. 10 ^ k ≤ n) → IfSome log (λ k. n < 10 * 10 ^ k) → IfSome log (λ k. k < 20)
    → MatchOption log (r ≡ 1) one → ((k : ℕ) → one k → r ≡ k + 1) → r ≡ length (decimal n)
sized_by n None z h g l e next = e ∙ sized_none n z
sized_by n (Some k) z h g l e next = next k e ∙ sym (sized k 19 n (omega arith) h g)

-- the length of a number of at least four digits, by its size
pub padded_few : (n : ℕ) → n < 10000 → 4 ≡ length (padded n)
padded_few n h =
    let k : length (decimal n) ≤ 4 = at_most 19 n 3 (at_most 18 (n / 10) 2 (at_most 17 (n / 10 / 10) 1 (omega (arith, ap length (few 16 (n / 10 / 10 / 10) (omega arith)))))) in
    omega (arith, length-append (replicate (4 - length (decimal n)) (digit 0)) (decimal n), length-replicate (4 - length (decimal n)) (digit 0))

pub padded_more : (n : ℕ) → 10000 ≤ n → length (decimal n) ≡ length (padded n)
padded_more n h = omega (arith, length-append (replicate (4 - length (decimal n)) (digit 0)) (decimal n), ap length (no_zero n (omega arith)))
