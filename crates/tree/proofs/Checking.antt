-- The children of a field: the check by the grammar agrees with the readers of the definition.
use Prim.Native.Nat.{ℕ, zero, suc, ◌+◌, ◌%◌, ◌≤◌, ◌<◌}
use native.Mathlib.Omega.{arith}
use mathlib.Core.Bool.{Bool, true, false}
use mathlib.Core.Path.{◌≡◌, refl}
use lib.Dec.{eqb}
use borrow.Author.Tests.{eqb-true, eqb-false, eq-eqb, ne_eqb, le-leb}
use Rattle.definition.specs.Basic.{pick}
use Rattle.definition.specs.Tag.{tag_hash}
use Rattle.definition.specs.Syntax.{Expr, Exprs}
use Rattle.definition.specs.Tree.{Read, seq, read, fault, child, last, many, pair_of, pairs_of}
use Rattle.tree.specs.Grammar.{Kind, Expression, Nothing, child_kind, least_of, enough_of}
use Rattle.tree.specs.Check.{Checked, and_then, bad_tree, next, ended, check_children}
use Rattle.tree.proofs.Agrees.{Agrees, agrees_good, agrees_fault, agrees_seq, agrees_map, agrees_read, agrees_assoc}

module _ (byte : ℕ → ℕ) (check : Kind → ℕ → ℕ → Checked) (t parent end : ℕ) where
  -- at the content's end
  pub children_ended : (fuel k : ℕ) → check_children byte check t parent fuel k end end ≡ ended t parent k
  unfolding check_children
  children_ended zero k = refl
  children_ended (suc fuel) k = rw (eq-eqb end end refl)

  -- before it
  pub children_more : (fuel k at : ℕ) → (at ≡ end → ⊥) → check_children byte check t parent (suc fuel) k at end ≡ and_then (check (child_kind t k) at end) (check_children byte check t parent fuel (k + 1) (next byte at) end)
  unfolding check_children
  children_more fuel k at h = rw (ne_eqb at end h)

-- an offset in a content that starts at `from`, with fuel for the bytes that are left
pub record Within (from end fuel at : ℕ) : Type 0 where
  pub start : from ≤ at
  pub finish : at ≤ end
  pub room : end ≤ at + fuel

-- a reader of the fields of a kind, from an offset on
pub record Reads (byte : ℕ → ℕ) (check : Kind → ℕ → ℕ → Checked) (from end : ℕ) (kind : Kind) {A : Type 0} (f : ℕ → ℕ → Read A) : Type 0 where
  pub each : (at : ℕ) → from ≤ at → Agrees (next byte at) end (f at end) (check kind at end)

-- what is read at an offset agrees with the check of the children from child k on
pub record Rest (byte : ℕ → ℕ) (check : Kind → ℕ → ℕ → Checked) (t parent from end k at : ℕ) {B : Type 0} (x : Read B) : Type 0 where
  pub each : (fuel : ℕ) → Within from end fuel at → Agrees end end x (check_children byte check t parent fuel k at end)

-- by whether the content has ended
rest_by : {byte : ℕ → ℕ} {check : Kind → ℕ → ℕ → Checked} {t parent from end k at : ℕ} {B : Type 0} {x : Read B}
    → (at ≡ end → Agrees end end x (ended t parent k))
    → ((fuel : ℕ) → (at ≡ end → ⊥) → Within from end (suc fuel) at → Agrees end end x (and_then (check (child_kind t k) at end) (check_children byte check t parent fuel (k + 1) (next byte at) end)))
    → Rest byte check t parent from end k at x
rest_by {byte} {check} {t} {parent} {from} {end} {k} {at} {x = x} stop go = record { each = each }
  where
    by : (fuel : ℕ) → Within from end (suc fuel) at → (b : Bool) → eqb at end ≡ b → Agrees end end x (check_children byte check t parent (suc fuel) k at end)
    by fuel w true e = let e₁ = eqb-true at end e in rw e₁ (rw (children_ended byte check t parent end (suc fuel) k) (stop e₁))
    by fuel w false e = rw (children_more byte check t parent end fuel k at (eqb-false at end e)) (go fuel (eqb-false at end e) w)

    each : (fuel : ℕ) → Within from end fuel at → Agrees end end x (check_children byte check t parent fuel k at end)
    each zero w = let e : at ≡ end = omega arith in rw e (rw (children_ended byte check t parent end zero k) (stop e))
    each (suc fuel) w = by fuel w (eqb at end) refl

module _ {byte : ℕ → ℕ} {check : Kind → ℕ → ℕ → Checked} {t parent from end : ℕ} where
  -- a child that is there, and then what follows it
  pub item : {A B : Type 0} {kind : Kind} {f : ℕ → ℕ → Read A} {g : A → ℕ → Read B} {k at : ℕ}
      → Reads byte check from end kind f → child_kind t k ≡ kind → (at ≡ end → ⊥)
      → ((a : A) (i : ℕ) → at < i → Rest byte check t parent from end (k + 1) i (g a i))
      → Rest byte check t parent from end k at (seq (f at end) g)
  item {at = at} F isKind n rest =
      rest_by
      (λ e. absurd (n e))
      (λ fuel _ w. rw isKind (agrees_seq (F.each at w.start) (λ a i e l. rw e ((rest a (next byte at) (omega arith)).each fuel (record { start = omega arith; finish = l; room = omega arith })))))

  -- a child that must be there
  pub must : {A B : Type 0} {kind : Kind} {f : ℕ → ℕ → Read A} {g : A → ℕ → Read B} {k at : ℕ}
      → Reads byte check from end kind f → child_kind t k ≡ kind → enough_of t k ≡ false
      → ((a : A) (i : ℕ) → at < i → Rest byte check t parent from end (k + 1) i (g a i))
      → Rest byte check t parent from end k at (seq (child f parent at end) g)
  must {A} {B} {f = f} {g = g} {k} {at} F isKind notEnough rest = by (eqb at end) refl
    where
      by : (b : Bool) → eqb at end ≡ b → Rest byte check t parent from end k at (seq (pick b (fault parent) (f at end)) g)
      by true e = rest_by (λ _. rw notEnough (agrees_fault parent)) (λ fuel n w. absurd (n (eqb-true at end e)))
      by false e = item F isKind (eqb-false at end e) rest

  -- the content may end here
  pub may : {B : Type 0} {y : Read B} {k at : ℕ} (b : B) → enough_of t k ≡ true → ((at ≡ end → ⊥) → Rest byte check t parent from end k at y) → Rest byte check t parent from end k at (pick (eqb at end) (read b at) y)
  may {B} {y} {k} {at} b isEnough rest = by (eqb at end) refl
    where
      by : (z : Bool) → eqb at end ≡ z → Rest byte check t parent from end k at (pick z (read b at) y)
      by true e = let e₁ = eqb-true at end e in rest_by (λ _. rw isEnough (agrees_good e₁ (omega arith))) (λ fuel n w. absurd (n e₁))
      by false e = rest (eqb-false at end e)

  -- no more children
  pub over : {B : Type 0} {k at : ℕ} (b : B) → ((i : ℕ) → check Nothing i end ≡ bad_tree i) → child_kind t k ≡ Nothing → enough_of t k ≡ true → Rest byte check t parent from end k at (last b at end)
  over {at = at} b refuses isNothing isEnough = may b isEnough (λ n. rest_by (λ e. absurd (n e)) (λ fuel _ w. rw (isNothing, refuses at) (agrees_fault at)))

  -- what was read already
  rest_read : {A B : Type 0} {a : A} {k at : ℕ} (g : A → ℕ → Read B) → Rest byte check t parent from end k at (g a at) → Rest byte check t parent from end k at (seq (read a at) g)
  rest_read g r = record { each = λ fuel w. agrees_read g (r.each fuel w) }

  -- a sequence of sequences
  rest_assoc : {A B C : Type 0} {k at : ℕ} (x : Read A) (g : A → ℕ → Read B) (h : B → ℕ → Read C) → Rest byte check t parent from end k at (seq x (λ a i. seq (g a i) h)) → Rest byte check t parent from end k at (seq (seq x g) h)
  rest_assoc x g h r = record { each = λ fuel w. agrees_assoc x g h (r.each fuel w) }

  -- something else is made of what was read
  pub rest-map : {A B : Type 0} {x : Read A} {k at : ℕ} (g : A → B) → Rest byte check t parent from end k at x → Rest byte check t parent from end k at (seq x (λ a i. read (g a) i))
  rest-map g r = record { each = λ fuel w. agrees_map g (r.each fuel w) }

  module _ {A B : Type 0} (P : ℕ → Type 0) (f : ℕ → ℕ → Read A) (nil : B) (cons : A → B → B)
      (isEnough : (k : ℕ) → P k → enough_of t k ≡ true)
      (round : (k at : ℕ) (g : A → ℕ → Read B) → P k → (at ≡ end → ⊥) → ((a : A) (i k₁ : ℕ) → P k₁ → at < i → Rest byte check t parent from end k₁ i (g a i)) → Rest byte check t parent from end k at (seq (f at end) g)) where
    -- children up to the end, in rounds of one or more
    pub rounds : (fuel k at : ℕ) → end ≤ at + fuel → P k → Rest byte check t parent from end k at (many nil cons f fuel at end)
    rounds zero k at h p = may nil (isEnough k p) (λ n. record { each = λ fuel w. absurd (n (omega arith)) })
    rounds (suc fuel) k at h p = may nil (isEnough k p) (λ n. round k at (λ x at₁. seq (many nil cons f fuel at₁ end) (λ xs. read (cons x xs))) p n (λ a i k₁ p₁ l. rest-map (cons a) (rounds fuel k₁ i (omega arith) p₁)))

  -- children of one kind up to the end, from child k on
  pub every : {A B : Type 0} {kind : Kind} {f : ℕ → ℕ → Read A} (nil : B) (cons : A → B → B) (fuel k at : ℕ) → Reads byte check from end kind f
      → ((j : ℕ) → child_kind t j ≡ kind) → eqb t tag_hash ≡ false → least_of t ≤ k → end ≤ at + fuel → Rest byte check t parent from end k at (many nil cons f fuel at end)
  every {f = f} nil cons fuel k at F isKind noHash least h =
      rounds (λ j. least_of t ≤ j) f nil cons
      (λ j l. rw (le-leb (least_of t) j l, noHash))
      (λ j i g l n rest. item F (isKind j) n (λ a i₁ past. rest a i₁ (j + 1) (omega arith) past))
      fuel k at h least

-- keys and values up to the end
pub pairs : {byte : ℕ → ℕ} {check : Kind → ℕ → ℕ → Checked} {parent from end : ℕ} {f : ℕ → ℕ → Read Expr} (fuel at : ℕ) → Reads byte check from end Expression f → end ≤ at + fuel
    → Rest byte check tag_hash parent from end 0 at (pairs_of f parent fuel at end)
pairs {parent = parent} {end = end} {f = f} fuel at F h =
    rounds (λ k. k % 2 ≡ 0) (pair_of f parent) Exprs.no_exprs (λ x xs. Exprs.exprs x.0 (Exprs.exprs x.1 xs))
    (λ k e. rw (le-leb 0 k (omega arith), e))
    (λ k i g e n rest.
    rest_assoc (f i end) (λ x i₁. seq (child f parent i₁ end) (λ y. read (x, y))) g
    (item F refl n (λ x i₁ past.
    rest_assoc (child f parent i₁ end) (λ y. read (x, y)) g
    (must F refl (rw (le-leb 0 (k + 1) (omega arith)) (ne_eqb ((k + 1) % 2) 0 (λ z. omega arith)))
    (λ y i₂ past₂. rest_read g (rest (x, y) i₂ (k + 1 + 1) (omega arith) (omega arith)))))))
    fuel 0 at h refl
