-- The larger of two numbers, and the levels of fields.
use Prim.Native.Nat.{ℕ, ◌≤◌, ◌<◌}
use native.Mathlib.Omega.{arith}
use mathlib.Core.Bool.{Bool, true, false}
use mathlib.Core.Path.{◌≡◌, refl}
use lib.Dec.{leb}
use borrow.Author.Tests.{leb-true, leb-false}
use Rattle.definition.specs.Basic.{pick}
use Rattle.definition.specs.Node.{Node, leaf, node, larger, levels}

-- what it is
pub record Larger (m n k : ℕ) : Type 0 where
  pub left : m ≤ k
  pub right : n ≤ k
  pub least : (i : ℕ) → m ≤ i → n ≤ i → k ≤ i

pub larger_is : (m n : ℕ) → Larger m n (larger m n)
larger_is m n = go (leb m n) refl
  where
    go : (b : Bool) → leb m n ≡ b → Larger m n (pick b n m)
    go true e = record { left = leb-true m n e; right = omega arith; least = λ i h k. k }
    go false e = record { left = omega arith; right = omega (arith, leb-false m n e); least = λ i h k. h }

-- the order does not matter
pub larger_assoc : (a b c : ℕ) → larger (larger a b) c ≡ larger a (larger b c)
larger_assoc a b c =
    let p = larger_is a b in
    let q = larger_is (larger a b) c in
    let r = larger_is b c in
    let s = larger_is a (larger b c) in
    let x : larger (larger a b) c ≤ larger a (larger b c) = q.least _ (p.least _ s.left (omega (arith, r.left, s.right))) (omega (arith, r.right, s.right)) in
    let y : larger a (larger b c) ≤ larger (larger a b) c = s.least _ (omega (arith, p.left, q.left)) (r.least _ (omega (arith, p.right, q.left)) q.right) in
    omega arith

-- with none
pub larger_zero : (a : ℕ) → larger a 0 ≡ a
larger_zero a = let p = larger_is a 0 in omega (arith, p.left, p.least a (omega arith) (omega arith))

pub zero_larger : (a : ℕ) → larger 0 a ≡ a
zero_larger a = let p = larger_is 0 a in omega (arith, p.right, p.least a (omega arith) (omega arith))

-- a field has a level
pub has_level : (x : Node) → 0 < levels x
unfolding levels
has_level (leaf t c) = omega arith
has_level (node t xs) = omega arith
