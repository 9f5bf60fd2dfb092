-- Nodes as numbers: what they hold after a global more.
use Prim.Native.Nat.{ℕ, ◌*◌, ◌/◌, ◌%◌, ◌<◌}
use mathlib.Core.Path.{◌≡◌, refl}
use mathlib.Core.Bool.{Bool, true, false, not}
use mathlib.Core.Logic.{◌⊎◌, inl, inr}
use native.Mathlib.Omega.{arith}
use lib.Dec.{eqb}
use Rattle.symbol_table.specs.Search.{child_of, latest_of, with_child, with_latest}

-- a global on a side that had none
module _ (v s k : ℕ) (free : child_of v s ≡ 0) (small : k < 2048) where
  pub child_new : child_of (with_child v s k) s ≡ k
  unfolding child_of with_child
  child_new = go (eqb s 0) refl
    where
      go : (b : Bool) → eqb s 0 ≡ b → child_of (with_child v s k) s ≡ k
      go true p = let z : v % 2048 ≡ 0 = rw p at free in rw p (omega arith)
      go false p = let z : v / 2048 % 2048 ≡ 0 = rw p at free in rw p (omega arith)

  -- the other side stays
  pub child_other : (t : ℕ) → eqb t 0 ≡ not (eqb s 0) → child_of (with_child v s k) t ≡ child_of v t
  unfolding child_of with_child
  child_other t d = go (eqb s 0) refl
    where
      go : (b : Bool) → eqb s 0 ≡ b → child_of (with_child v s k) t ≡ child_of v t
      go true p = let z : v % 2048 ≡ 0 = rw p at free in let e : eqb t 0 ≡ false = rw p at d in rw (p, e) (omega arith)
      go false p = let z : v / 2048 % 2048 ≡ 0 = rw p at free in let e : eqb t 0 ≡ true = rw p at d in rw (p, e) (omega arith)

  pub latest_same : latest_of (with_child v s k) ≡ latest_of v
  unfolding child_of with_child
  latest_same = go (eqb s 0) refl
    where
      go : (b : Bool) → eqb s 0 ≡ b → latest_of (with_child v s k) ≡ latest_of v
      go true p = let z : v % 2048 ≡ 0 = rw p at free in rw p (omega arith)
      go false p = let z : v / 2048 % 2048 ≡ 0 = rw p at free in rw p (omega arith)

  -- a side is the one that had none, or stays
  pub child-either : (t : ℕ) → (child_of (with_child v s k) t ≡ child_of v t) ⊎ ((child_of v t ≡ 0) × (child_of (with_child v s k) t ≡ k))
  unfolding child_of with_child
  child-either t = go (eqb t 0) (eqb s 0) refl refl
    where
      go : (a b : Bool) → eqb t 0 ≡ a → eqb s 0 ≡ b → (child_of (with_child v s k) t ≡ child_of v t) ⊎ ((child_of v t ≡ 0) × (child_of (with_child v s k) t ≡ k))
      go true true p q = let z : v % 2048 ≡ 0 = rw q at free in inr (rw p z, rw (p, q) (omega arith))
      go false false p q = let z : v / 2048 % 2048 ≡ 0 = rw q at free in inr (rw p z, rw (p, q) (omega arith))
      go true false p q = inl (child_other t (rw (p, q)))
      go false true p q = inl (child_other t (rw (p, q)))

-- a later global of the same name
module _ (v i : ℕ) where
  pub child_later : (t : ℕ) → child_of (with_latest v i) t ≡ child_of v t
  unfolding child_of
  child_later t = go (eqb t 0) refl
    where
      go : (b : Bool) → eqb t 0 ≡ b → child_of (with_latest v i) t ≡ child_of v t
      go true p = rw p (omega arith)
      go false p = rw p (omega arith)

  pub latest_later : latest_of (with_latest v i) ≡ i
  latest_later = omega arith

-- a node of its own
module _ (i : ℕ) where
  pub child_none : (t : ℕ) → child_of (4194304 * i) t ≡ 0
  unfolding child_of
  child_none t = go (eqb t 0) refl
    where
      go : (b : Bool) → eqb t 0 ≡ b → child_of (4194304 * i) t ≡ 0
      go true p = rw p (omega arith)
      go false p = rw p (omega arith)

  pub latest_own : latest_of (4194304 * i) ≡ i
  latest_own = omega arith
