-- A tree as fields in a row: reading passes over its bytes in that order, and finds the same literals.
use Prim.Native.Nat.{ℕ, zero, suc, ◌+◌, ◌≤◌, ◌<◌}
use native.Mathlib.Omega.{arith}
use native.Mathlib.Nat.{le_refl}
use mathlib.Core.Bool.{Bool, true, false}
use mathlib.Core.Option.{Option, none}
use mathlib.Core.Path.{◌≡◌, refl, sym, ap, subst, ◌∙◌}
use lib.Dec.{leb, ltb, eqb}
use borrow.Author.Tests.{lt-ltb, le-ltb, le-leb, lt-leb, ltb-true, ltb-false}
use Rattle.definition.specs.Basic.{pick, both}
use Rattle.definition.specs.Field.{Head, fits, head}
use Rattle.definition.specs.Tree.{Read, up_to, after, seq, plain, read, fault, met, child, last, many, head_at}
use Rattle.definition.proofs.Basic.{chosen, pick_true, pick_false, both_right}
use Rattle.definition.specs.Tag.{tag_identifier, tag_name, tag_operator}
use Rattle.tree.specs.Grammar.{is_leaf, either}
use Rattle.shape.specs.Fields.{is_literal, own_end, own_literal}

-- a literal has no children
pub literal_leaf : (t : ℕ) → is_literal t ≡ true → is_leaf t ≡ true
literal_leaf t e = rw e (go (eqb t tag_identifier) (eqb t tag_name) (eqb t tag_operator))
  where
    go : (a b c : Bool) → either (either (either a true) b) c ≡ true
    go true b c = refl
    go false b c = refl

-- from an offset to another, field by field; `l` is true of the bytes of literals
pub data Scan (byte : ℕ → ℕ) (l : ℕ → Bool) : ℕ → ℕ → Type 0 where
  done : (at : ℕ) → Scan byte l at at
  step : {at n : ℕ} → ((i : ℕ) → at ≤ i → i < own_end byte at → l i ≡ own_literal byte at i) → Scan byte l (own_end byte at) n
      → Scan byte l at n

-- a field's own bytes are at least three
pub own-end : (byte : ℕ → ℕ) (at : ℕ) → at + 3 ≤ own_end byte at
own-end byte at = chosen (λ n. at + 3 ≤ n) (is_leaf (byte at)) (λ _. omega arith) (λ _. omega arith)

module _ {byte : ℕ → ℕ} where
  -- the end is not before the start
  pub scan-on : {l : ℕ → Bool} {at n : ℕ} → Scan byte l at n → at ≤ n
  scan-on (Scan.done at) = le_refl _
  scan-on (Scan.step {at} own s) = let h = scan-on s in omega (arith, own-end byte at)

  -- by the bytes in between
  scan_ext : {l r : ℕ → Bool} {at n : ℕ} → ((i : ℕ) → at ≤ i → i < n → l i ≡ r i) → Scan byte l at n → Scan byte r at n
  scan_ext h (Scan.done at) = Scan.done at
  scan_ext h (Scan.step {at} own s) =
      let m = scan-on s in
      Scan.step (λ i p q. sym (h i p (omega arith)) ∙ own i p q) (scan_ext (λ i p q. h i (omega (arith, own-end byte at)) q) s)

  -- one after the other
  scan-append : {l : ℕ → Bool} {at m n : ℕ} → Scan byte l at m → Scan byte l m n → Scan byte l at n
  scan-append (Scan.done at) t = t
  scan-append (Scan.step own s) t = Scan.step own (scan-append s t)

  -- a field whose own bytes end there
  scan-field : {l : ℕ → Bool} {at m n : ℕ} → own_end byte at ≡ m → ((i : ℕ) → at ≤ i → i < m → l i ≡ own_literal byte at i)
      → Scan byte l m n → Scan byte l at n
  scan-field {l} {at} {n = n} e own s = Scan.step (λ i p q. own i p (omega arith)) (subst (λ m. Scan byte l m n) (sym e) s)

-- a head's bytes are no literal
no_literal : (t at i : ℕ) → i < at + 3 → both (is_literal t) (leb (at + 3) i) ≡ false
no_literal t at i h = go (is_literal t) (leb (at + 3) i) (lt-leb (at + 3) i h)
  where
    go : (a b : Bool) → b ≡ false → both a b ≡ false
    go true b e = e
    go false b e = refl

-- behind it are a literal's, by the tag
all_literal : (t at i : ℕ) → at + 3 ≤ i → both (is_literal t) (leb (at + 3) i) ≡ is_literal t
all_literal t at i h = go (is_literal t) (leb (at + 3) i) (le-leb (at + 3) i h)
  where
    go : (a b : Bool) → b ≡ true → both a b ≡ a
    go true b e = e
    go false b e = refl

-- what was read, field by field
pub data Flat {A : Type 0} (byte : ℕ → ℕ) (at : ℕ) : Read A → Type 0 where
  right : {a : A} {n : ℕ} {d : Option ℕ} {l : ℕ → Bool} → Scan byte l at n → Flat byte at (Read.ok a n d l)
  wrong : {p : ℕ} {d : Option ℕ} {l : ℕ → Bool} → Flat byte at (Read.wrong p d l)

module _ {byte : ℕ → ℕ} where
  -- what came before, and then this
  flat_after : {A : Type 0} {at n : ℕ} {l : ℕ → Bool} (d : Option ℕ) {z : Read A} → Scan byte l at n → Flat byte n z
      → Flat byte at (after n d l z)
  flat_after {n = n} {l} d s (Flat.right {l = r} t) =
      Flat.right (scan-append (scan_ext (λ i p q. sym (ap (λ c. pick c (l i) (r i)) (lt-ltb i n q))) s) (scan_ext (λ i p q. sym (ap (λ c. pick c (l i) (r i)) (le-ltb i n p))) t))
  flat_after d s Flat.wrong = Flat.wrong

  -- one after the other
  pub flat_seq : {A B : Type 0} {at : ℕ} {x : Read A} {k : A → ℕ → Read B} → Flat byte at x → ((a : A) (n : ℕ) → Flat byte n (k a n))
      → Flat byte at (seq x k)
  flat_seq (Flat.right {a = a} {n} {d} s) g = flat_after d s (g a n)
  flat_seq Flat.wrong g = Flat.wrong

  -- one or the other
  pub flat_pick : {A : Type 0} {at : ℕ} {x y : Read A} (b : Bool) → (b ≡ true → Flat byte at x) → (b ≡ false → Flat byte at y)
      → Flat byte at (pick b x y)
  flat_pick {at = at} b f g = chosen (Flat byte at) b f g

  -- at its level
  pub flat_met : {A : Type 0} {at : ℕ} (level p : ℕ) {x : Read A} → Flat byte at x → Flat byte at (met level p x)
  flat_met level p (Flat.right s) = Flat.right s
  flat_met level p Flat.wrong = Flat.wrong

  -- a child
  pub flat_child : {A : Type 0} {f : ℕ → ℕ → Read A} → ((at end : ℕ) → Flat byte at (f at end)) → (parent at end : ℕ)
      → Flat byte at (child f parent at end)
  flat_child F parent at end = flat_pick (eqb at end) (λ _. Flat.wrong) (λ _. F at end)

  -- nothing is read
  pub flat_read : {A : Type 0} {a : A} {d : Option ℕ} {l : ℕ → Bool} (n : ℕ) → Flat byte n (Read.ok a n d l)
  flat_read n = Flat.right (Scan.done n)

  -- an end
  pub flat_last : {A : Type 0} (a : A) (at end : ℕ) → Flat byte at (last a at end)
  flat_last a at end = flat_pick (eqb at end) (λ _. flat_read at) (λ _. Flat.wrong)

  -- fields up to the end
  pub flat_many : {A B : Type 0} (nil : B) (cons : A → B → B) {f : ℕ → ℕ → Read A} → ((at end : ℕ) → Flat byte at (f at end))
      → (fuel at end : ℕ) → Flat byte at (many nil cons f fuel at end)
  flat_many nil cons F zero at end = flat_last nil at end
  flat_many nil cons F (suc fuel) at end =
      flat_pick (eqb at end) (λ _. flat_read at) (λ _. flat_seq (F at end) (λ x at₁. flat_seq (flat_many nil cons F fuel at₁ end) (λ xs n. flat_read n)))

  -- a head, and what is read behind it
  pub flat_head : {B : Type 0} (good : Head → Bool) (at end : ℕ) (f : Head → ℕ → Read B)
      → (good (head byte at) ≡ true → Flat byte at (after (at + 3) none plain (f (head byte at) (at + 3))))
      → Flat byte at (seq (head_at byte good at end) f)
  flat_head {B} good at end f g = go (both (fits at end (head byte at)) (good (head byte at))) refl
    where
      go : (b : Bool) → both (fits at end (head byte at)) (good (head byte at)) ≡ b
          → Flat byte at (seq (pick b (read (head byte at) (at + 3)) (fault at)) f)
      go true e = g (both_right (fits at end (head byte at)) _ e)
      go false e = Flat.wrong

  -- a field with children
  pub flat_inside : {A : Type 0} (at level : ℕ) {z : Read A} → is_leaf (byte at) ≡ false → Flat byte (at + 3) z
      → Flat byte at (after (at + 3) none plain (met level at z))
  flat_inside at level e (Flat.right {l = l} s) =
      Flat.right (scan-field (pick_false (at + 3 + (head byte at).len) (at + 3) e) (λ i p q. ap (λ c. pick c false (l i)) (lt-ltb i (at + 3) q) ∙ sym (no_literal (byte at) at i q))
      (scan_ext (λ i p q. sym (ap (λ c. pick c false (l i)) (le-ltb i (at + 3) p))) s))
  flat_inside at level e Flat.wrong = Flat.wrong

  -- a field without
  pub flat_leaf : {A : Type 0} (at level n : ℕ) (a : A) (d : Option ℕ) (l : ℕ → Bool) → is_leaf (byte at) ≡ true
      → ((i : ℕ) → l i ≡ is_literal (byte at)) → n ≡ at + 3 + (head byte at).len
      → Flat byte at (after (at + 3) none plain (met level at (Read.ok a n d l)))
  flat_leaf at level n a d l e k h =
      Flat.right (scan-field (pick_true (at + 3 + (head byte at).len) (at + 3) e ∙ sym h) (λ i p q. go i (ltb i (at + 3)) refl) (Scan.done n))
    where
      go : (i : ℕ) (b : Bool) → ltb i (at + 3) ≡ b → up_to (at + 3) plain l i ≡ own_literal byte at i
      go i true q = ap (λ c. pick c false (l i)) q ∙ sym (no_literal (byte at) at i (ltb-true i (at + 3) q))
      go i false q = ap (λ c. pick c false (l i)) q ∙ k i ∙ sym (all_literal (byte at) at i (ltb-false i (at + 3) q))
