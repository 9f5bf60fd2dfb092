-- Parts of lists: what a prefix decides.
use Prim.Native.Nat.{ℕ, zero, suc, ◌+◌, ◌-◌, ◌≤◌}
use mathlib.Core.Path.{◌≡◌, sym, ap, ◌∙◌}
use mathlib.Core.List.{List, [], ◌∷◌}
use native.Mathlib.Nat.{zero-add, suc-add}
use native.Mathlib.Omega.{arith}
use lib.ListN.{take, drop}
use lib.Seq.{take-nil, take-take}

module _ {A : Type 0} where
  drop-take : (b m : ℕ) (a : List A) → drop b (take (b + m) a) ≡ take m (drop b a)
  drop-take zero m a = rw zero-add
  drop-take (suc b) m [] = rw (suc-add, take-nil)
  drop-take (suc b) m (x ∷ a) = rw suc-add (drop-take b m a)

  -- a part of a prefix
  pub slice_take : (b m n : ℕ) (a : List A) → b + m ≤ n → take m (drop b (take n a)) ≡ take m (drop b a)
  slice_take b m n a h =
      let e : n ≡ b + (n - b) = omega arith in
      rw e (rw (drop-take b (n - b) a, take-take m (n - b) (drop b a) (omega arith)))

  -- lists that agree up to a point have the same parts before it
  pub take-agree : (m n : ℕ) (a a' : List A) → m ≤ n → take n a ≡ take n a' → take m a ≡ take m a'
  take-agree m n a a' h e = sym (take-take m n a h) ∙ ap (take m) e ∙ take-take m n a' h

  pub slice_agree : (b m : ℕ) (a a' : List A) → take (b + m) a ≡ take (b + m) a' → take m (drop b a) ≡ take m (drop b a')
  slice_agree b m a a' e = sym (slice_take b m (b + m) a (omega arith)) ∙ ap (λ l. take m (drop b l)) e ∙ slice_take b m (b + m) a' (omega arith)
