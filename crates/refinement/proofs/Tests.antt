-- Two machines under tests that are equal.
use Prim.Native.Nat.{ℕ, ◌+◌, ◌≤◌, ◌<◌}
use native.Mathlib.Omega.{arith}
use mathlib.Core.Bool.{Bool, true, false}
use mathlib.Core.Path.{◌≡◌, refl, sym, subst, ◌∙◌}
use lib.Dec.{leb}
use borrow.Author.Tests.{leb-true, leb-false, le-leb, lt-leb}
use Rattle.definition.specs.Basic.{pick}
use Rattle.definition.specs.Walk.{Res}
use Rattle.definition.proofs.Simulation.{Both}

-- a relation under two picks by equal tests, each choice where its test says so
pub forked : {A B : Type 0} (R : A → B → Type 0) {x x' : A} {y y' : B} (b c : Bool) → b ≡ c → (b ≡ true → R x y) → (b ≡ false → R x' y') → R (pick b x x') (pick c y y')
forked R {x} {x'} {y} {y'} b c e h k = subst (λ c. R (pick b x x') (pick c y y')) e (go b h k)
  where
    go : (b : Bool) → (b ≡ true → R x y) → (b ≡ false → R x' y') → R (pick b x x') (pick b y y')
    go true h k = h refl
    go false h k = k refl

module _ {S U A : Type 0} {Q : S → U → Type 0} {P : A → S → U → Type 0} where
  -- under the order of two numbers, and of both with `k` more
  pub compared : {x x' : Res S A} {y y' : Res U A} (a b c d k : ℕ) → c ≡ a + k → d ≡ b + k → (a ≤ b → Both Q P x y) → (b < a → Both Q P x' y')
      → Both Q P (pick (leb a b) x x') (pick (leb c d) y y')
  compared a b c d k p q f g = forked (Both Q P) (leb a b) (leb c d) (go (leb a b) refl) (λ e. f (leb-true a b e)) (λ e. g (leb-false a b e))
    where
      go : (t : Bool) → leb a b ≡ t → leb a b ≡ leb c d
      go true e = e ∙ sym (le-leb c d (omega (arith, leb-true)))
      go false e = e ∙ sym (lt-leb c d (omega (arith, leb-false)))

  -- both go on with equal values
  pub on_same : {a b : A} {s : S} {t : U} → b ≡ a → P a s t → Both Q P (Res.on a s) (Res.on b t)
  on_same {a} {s = s} {t} e h = subst (λ x. Both Q P (Res.on a s) (Res.on x t)) (sym e) (Both.on a h)
