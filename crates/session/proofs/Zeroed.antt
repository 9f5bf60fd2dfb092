-- A list that is zeroed from the front, one store at a time.
use Prim.Native.Nat.{ℕ, ◌+◌, ◌≤◌, ◌<◌}
use native.Mathlib.Omega.{arith}
use mathlib.Core.List.{List, ◌++◌, append-nil}
use mathlib.Core.Path.{◌≡◌, refl, ap, ◌∙◌}
use lib.ListN.{length, set, drop, replicate, length-set, drop_of_length-le}
use borrow.Author.Fill.{fill_more}

-- the first `i` of its elements are zero, the others as they were
pub record Zeroed (l₀ : List ℕ) (i : ℕ) (l : List ℕ) : Type 0 where
  pub within : i ≤ length l₀
  pub same : length l ≡ length l₀
  pub zeros : l ≡ replicate i 0 ++ drop i l₀

-- none yet
pub zeroed_none : (l : List ℕ) → Zeroed l 0 l
zeroed_none l = record { within = omega arith; same = refl; zeros = refl }

-- one more
pub zeroed_more : {l₀ : List ℕ} {i : ℕ} {l : List ℕ} → Zeroed l₀ i l → i < length l → Zeroed l₀ (i + 1) (set l i 0)
zeroed_more {l₀} {i} {l} z h =
    let s = z.same in
    record { within = omega arith; same = length-set l i 0 ∙ z.same; zeros = ap (λ m. set m i 0) z.zeros ∙ fill_more i 0 l₀ (omega arith) }

-- all of them
pub zeroed_all : {l₀ : List ℕ} {i : ℕ} {l : List ℕ} → Zeroed l₀ i l → length l ≤ i → l ≡ replicate (length l₀) 0
zeroed_all {l₀} {i} {l} z h =
    let s = z.same in
    let w = z.within in
    let e : i ≡ length l₀ = omega arith in
    z.zeros ∙ ap (λ m. replicate i 0 ++ m) (drop_of_length-le l₀ {i = i} (omega arith)) ∙ append-nil (replicate i 0) ∙ ap (λ n. replicate n 0) e
