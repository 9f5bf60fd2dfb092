-- Lemmas on choices by a test.
use mathlib.Core.Bool.{Bool, true, false}
use mathlib.Core.Path.{◌≡◌, refl, sym, ap, subst, ◌∙◌}
use native.Mathlib.Omega.{arith}
use Prim.Native.Nat.{ℕ}
use lib.Dec.{T}
use Rattle.std.specs.Prelude.{Some, None, Result, Err}
use Rattle.std.specs.Result.{IsErrAnd}
use Rattle.std.proofs.lemmas.Result.{err_from_is_err_and}
use Rattle.definition.specs.Basic.{pick, both}

-- a relation under two picks by one test
pub picked : {A B : Type 0} (R : A → B → Type 0) {x x' : A} {y y' : B} {b c : Bool} → b ≡ c → R x y → R x' y' → R (pick b x x') (pick c y y')
picked R {x} {x'} {y} {y'} {b} e h h' = subst (λ z. R (pick b x x') (pick z y y')) e (go b)
  where
    go : (b : Bool) → R (pick b x x') (pick b y y')
    go true = h
    go false = h'

-- what holds of each choice, by the test
pub chosen : {A : Type 0} (P : A → Type 0) {x y : A} (b : Bool) → (b ≡ true → P x) → (b ≡ false → P y) → P (pick b x y)
chosen P true f g = f refl
chosen P false f g = g refl

-- both tests hold
pub both_intro : {a b : Bool} → a ≡ true → b ≡ true → both a b ≡ true
both_intro p q = λ i. both (p i) (q i)

-- so the first holds
pub both_left : (a b : Bool) → both a b ≡ true → a ≡ true
both_left true b e = refl
both_left false b e = e

-- and the second
pub both_right : (a b : Bool) → both a b ≡ true → b ≡ true
both_right true b e = e
both_right false b e = cc

pub both_true : (a b : Bool) → both a b ≡ true → (a ≡ true) × (b ≡ true)
both_true a b e = (both_left a b e, both_right a b e)

pub both_each : (a b : Bool) → T (both a b) → T a × T b
both_each true b t = (tt, t)
both_each false b t = absurd t

-- a test that fails does not hold
pub contrary : {A : Type 0} → false ≡ true → A
contrary e = absurd (subst T (sym e) tt)

-- a choice whose test is known
pub pick_true : {A : Type 0} (x y : A) {b : Bool} → b ≡ true → pick b x y ≡ x
pick_true x y e = ap (λ b. pick b x y) e

pub pick_false : {A : Type 0} (x y : A) {b : Bool} → b ≡ false → pick b x y ≡ y
pick_false x y e = ap (λ b. pick b x y) e

-- something was chosen, or nothing
pub picked_some : {A : Type 0} {x y : A} (b : Bool) → Some y ≡ pick b (Some x) None → (b ≡ true) × (y ≡ x)
picked_some {x = x} {y = y} true e = (refl, grind (arith, e))
picked_some false e = let z : ◌≡◌ {A = ℕ} 0 1 = cc in absurd (omega arith)

pub picked_none : {A : Type 0} (x : A) (b : Bool) → None ≡ pick b (Some x) None → b ≡ false
picked_none x true e = let z : ◌≡◌ {A = ℕ} 0 1 = cc in absurd (omega arith)
picked_none x false e = refl

-- an error passed on by `?` is the same
pub passed_on : {A E : Type 0} {r : Result A E} {z : E} → IsErrAnd r (λ y. y ≡ z) → r ≡ Err z
passed_on {r = r} h = let p = err_from_is_err_and r h in p.1 ∙ ap Err p.2
