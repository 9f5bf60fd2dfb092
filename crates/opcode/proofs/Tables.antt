-- A constant table is a rule tabulated: antt computes the rule at every entry once, and the law carries it to each.
use mathlib.Core.Path.{◌≡◌, ◌∙◌, ap}
use mathlib.Core.Bool.{Bool, true, false}
use mathlib.Core.List.{List, [], ◌∷◌}
use Prim.Native.Nat.{ℕ, zero, suc, ◌+◌, ◌<◌}
use native.Mathlib.Nat.{zero-add}
use native.Mathlib.Omega.{arith}
use lib.Dec.{T}
use lib.ListN.{get_or}
use Rattle.definition.specs.Basic.{both}

-- so many values of a rule, from a number on
abbrev pub tabulate : (ℕ → ℕ) → ℕ → ℕ → List ℕ
tabulate f i zero = []
tabulate f i (suc n) = f i ∷ tabulate f (suc i) n

from : (f : ℕ → ℕ) (i n k : ℕ) → k < n → get_or (tabulate f i n) k 0 ≡ f (i + k)
from f i zero k h = absurd (omega arith)
from f i (suc n) zero h = ap f (omega arith)
from f i (suc n) (suc k) h = from f (suc i) n k (omega arith) ∙ ap f (omega arith)

-- the rule at each entry
pub tabulated : (f : ℕ → ℕ) (n k : ℕ) → k < n → get_or (tabulate f 0 n) k 0 ≡ f k
tabulated f n k h = from f 0 n k h ∙ ap f (zero-add k)

-- a test that passes at each element of a list
abbrev pub every : (ℕ → Bool) → List ℕ → Bool
every f [] = true
every f (x ∷ xs) = both (f x) (every f xs)

-- it passes at every index, if it passes at what stands past the end
pub every_at : (f : ℕ → Bool) (xs : List ℕ) → T (every f xs) → T (f 0) → (k : ℕ) → T (f (get_or xs k 0))
every_at f [] t z k = z
every_at f (x ∷ xs) t z zero = left (f x) t
  where
    left : (b : Bool) → T (both b (every f xs)) → T b
    left true t = tt
    left false t = t
every_at f (x ∷ xs) t z (suc k) = every_at f xs (right (f x) t) z k
  where
    right : (b : Bool) → T (both b (every f xs)) → T (every f xs)
    right true t = t
    right false t = absurd t
