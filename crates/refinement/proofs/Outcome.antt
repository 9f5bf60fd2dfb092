-- How one walk ends, seen from the other.
use Prim.Native.Nat.{ℕ}
use native.Mathlib.Omega.{arith}
use mathlib.Core.Path.{◌≡◌, sym, subst, ◌∙◌}
use lib.Dec.{T}
use Rattle.definition.specs.Basic.{Bytes}
use Rattle.definition.specs.Number.{walk_number, number_of}
use Rattle.definition.specs.Session.{Session}
use Rattle.definition.specs.Walk.{Res, on, stop}
use Rattle.definition.specs.Compiler.{State}
use Rattle.definition.specs.declared.reason.Refusal.{Refusal}
use Rattle.scope.specs.View.{View}
use Rattle.refinement.specs.Relation.{Stopped, Compiled, WalkEnds}

-- one walk went through, and the other too
pub record Through {S U : Type 0} (P : S → U → Type 0) (x : Res S (Unit {0})) (u : U) : Type 0 where
  pub state : S
  pub same : x ≡ on tt state
  pub facts : P state u

-- one walk stopped at a refusal of the walk, and the other at the same
pub record Halts {S U : Type 0} (P : S → U → Type 0) (x : Res S (Unit {0})) (r : Refusal) (u : U) : Type 0 where
  pub state : S
  pub same : x ≡ stop r state
  pub number : T (walk_number (number_of r.reason))
  pub facts : P state u

-- no walk does both
never : {S : Type 0} {s t : S} {r : Refusal} → ◌≡◌ {A = Res S (Unit {0})} (on tt s) (stop r t) → ⊥
never e =
    let z : ◌≡◌ {A = ℕ} 0 1 = cc in
    omega arith

module _ {z : Session} {e : Bytes} {n : ℕ} {x : Res State (Unit {0})} {y : Res View (Unit {0})} where
  -- from the walk on memory to the definition's
  pub memory_through : WalkEnds z e n x y → {v : View} → y ≡ on tt v → Through (Compiled z e n) x v
  memory_through (WalkEnds.through s v p q c) {v = u} k =
      let l : v ≡ u = cc in
      record { state = s; same = p; facts = subst (Compiled z e n s) l c }
  memory_through (WalkEnds.stopped r s v p q t c) k = absurd (never (sym k ∙ q))

  -- and where it stopped
  pub memory_halts : WalkEnds z e n x y → {r : Refusal} {v : View} → y ≡ stop r v → Halts (λ (_ : State). Stopped z e n) x r v
  memory_halts (WalkEnds.through s v p q c) k = absurd (never (sym q ∙ k))
  memory_halts (WalkEnds.stopped r s v p q t c) {r = r'} {v = u} k =
      let l : r ≡ r' = cc in
      let m : v ≡ u = cc in
      record { state = s; same = p ∙ (λ i. stop (l i) s); number = subst (λ r. T (walk_number (number_of r.reason))) l t; facts = subst (Stopped z e n) m c }

  -- from the definition's walk to that on memory
  pub definition_through : WalkEnds z e n x y → {s : State} → x ≡ on tt s → Through (λ v s. Compiled z e n s v) y s
  definition_through (WalkEnds.through s v p q c) {s = s'} k =
      let l : s ≡ s' = cc in
      record { state = v; same = q; facts = subst (λ s. Compiled z e n s v) l c }
  definition_through (WalkEnds.stopped r s v p q t c) k = absurd (never (sym k ∙ p))

  -- and where it stopped
  pub definition_halts : WalkEnds z e n x y → {r : Refusal} {s : State} → x ≡ stop r s → Halts (λ v (_ : State). Stopped z e n v) y r s
  definition_halts (WalkEnds.through s v p q c) k = absurd (never (sym p ∙ k))
  definition_halts (WalkEnds.stopped r s v p q t c) {r = r'} k =
      let l : r ≡ r' = cc in
      record { state = v; same = q ∙ (λ i. stop (l i) v); number = subst (λ r. T (walk_number (number_of r.reason))) l t; facts = c }
