-- Numbers that are in a list: of a list that another has, and below a bound.
use Prim.Native.Nat.{ℕ, ◌<◌}
use mathlib.Core.Bool.{Bool, true, false}
use mathlib.Core.List.{List, [], ◌∷◌}
use mathlib.Core.Path.{◌≡◌, refl, sym, subst}
use lib.Dec.{T, eqb, ltb, ltb→lt}
use borrow.Author.Tests.{eqb-true}
use Rattle.definition.specs.Basic.{pick, both}
use Rattle.definition.specs.Number.{is_one_of}
use Rattle.definition.specs.Valid.{All}
use Rattle.definition.proofs.Basic.{both_each}

-- what holds of each number of a list holds of a number in it
pub one_of : (P : ℕ → Type 0) {xs : List ℕ} → All P xs → (n : ℕ) → T (is_one_of xs n) → P n
one_of P All.none n t = absurd t
one_of P (All.more {x = x} {xs = xs} h hs) n t = go (λ u. one_of P hs n u) (eqb n x) refl t
  where
    go : (T (is_one_of xs n) → P n) → (b : Bool) → eqb n x ≡ b → T (pick b true (is_one_of xs n)) → P n
    go later true e t = subst P (sym (eqb-true n x e)) h
    go later false e t = later t

-- a test holds of each number of a list
abbrev pub each : (ℕ → Bool) → List ℕ → Bool
each test [] = true
each test (x ∷ xs) = both (test x) (each test xs)

all_each : (test : ℕ → Bool) (xs : List ℕ) → T (each test xs) → All (λ n. T (test n)) xs
all_each test [] h = All.none
all_each test (x ∷ xs) h = let b = both_each (test x) (each test xs) h in All.more b.0 (all_each test xs b.1)

-- so it holds of a number in the list
pub of_each : (test : ℕ → Bool) (xs : List ℕ) → T (each test xs) → (n : ℕ) → T (is_one_of xs n) → T (test n)
of_each test xs h n t = one_of (λ k. T (test k)) (all_each test xs h) n t

-- a list whose numbers another has
pub among : (xs ys : List ℕ) → T (each (is_one_of ys) xs) → (n : ℕ) → T (is_one_of xs n) → T (is_one_of ys n)
among xs ys h n t = of_each (is_one_of ys) xs h n t

-- and one whose numbers are below a bound
pub below : (xs : List ℕ) (bound : ℕ) → T (each (λ x. ltb x bound) xs) → (n : ℕ) → T (is_one_of xs n) → n < bound
below xs bound h n t = ltb→lt n bound (of_each (λ x. ltb x bound) xs h n t)
