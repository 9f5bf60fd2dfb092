-- Reading one of two lots of bytes follows reading the other: equal but for the literals. Each step of a reader keeps that.
use Prim.Native.Nat.{ℕ, zero, suc, ◌+◌, ◌*◌, ◌≤◌, ◌<◌}
use native.Mathlib.Omega.{arith}
use native.Mathlib.Nat.{le_refl}
use mathlib.Core.Bool.{Bool, true, false}
use mathlib.Core.List.{◌∷◌}
use mathlib.Core.Option.{Option, none}
use mathlib.Core.Path.{◌≡◌, refl, sym, ap, subst, ◌∙◌}
use lib.Dec.{leb, eqb}
use borrow.Author.Tests.{lt-ltb, le-ltb}
use Rattle.definition.specs.Basic.{Bytes, pick, both}
use Rattle.definition.specs.Field.{Head, fits, bytes, head}
use Rattle.definition.specs.Tree.{Read, after, seq, plain, literal, read, fault, met, child, last, many, head_at, one_byte, literals}
use Rattle.definition.specs.Shape.{blanked}
use Rattle.definition.proofs.Basic.{picked}
use Rattle.definition.proofs.Blank.{zeros}

-- what was read, mapped
abbrev pub map_read : {A : Type 0} → (A → A) → Read A → Read A
map_read g (Read.ok a n d l) = Read.ok (g a) n d l
map_read g (Read.wrong p d l) = Read.wrong p d l

-- a map and what came before commute
after_map : {A : Type 0} (g : A → A) (n : ℕ) (d : Option ℕ) (l : ℕ → Bool) (z : Read A) → after n d l (map_read g z) ≡ map_read g (after n d l z)
after_map g n d l (Read.ok a m e r) = refl
after_map g n d l (Read.wrong p e r) = refl

-- the map that does nothing
map_id : {A : Type 0} (x : Read A) → map_read (λ a. a) x ≡ x
map_id (Read.ok a n d l) = refl
map_id (Read.wrong p d l) = refl

-- where what follows starts
abbrev pub next : {A : Type 0} → ℕ → Read A → ℕ
next at (Read.ok a n d l) = n
next at (Read.wrong p d l) = at

-- reading goes on
onward_after : {A : Type 0} {at n : ℕ} (d : Option ℕ) (l : ℕ → Bool) (z : Read A) → at ≤ n → n ≤ next n z → at ≤ next at (after n d l z)
onward_after d l (Read.ok a m e r) h k = omega arith
onward_after d l (Read.wrong p e r) h k = le_refl _

-- bytes of two readers that agree there
pub bytes_same : (u v : ℕ → ℕ) (at n : ℕ) → ((i : ℕ) → at ≤ i → i < at + n → u i ≡ v i) → bytes v at n ≡ bytes u at n
bytes_same u v at zero h = refl
bytes_same u v at (suc n) h = λ i. sym (h at (le_refl _) (omega arith)) i ∷ bytes_same u v (at + 1) n (λ j p q. h j (omega arith) (omega arith)) i

-- and heads
head_same : (t u : ℕ → ℕ) (at : ℕ) → ((i : ℕ) → at ≤ i → i < at + 3 → u i ≡ t i) → head t at ≡ head u at
head_same t u at h = λ i. record { tag = sym (h at (omega arith) (omega arith)) i; len = sym (h (at + 1) (omega arith) (omega arith)) i * 256 + sym (h (at + 2) (omega arith) (omega arith)) i }

-- the zeros for so many bytes
bytes_zero : (t : ℕ → ℕ) (at n : ℕ) → bytes (λ _. 0) at n ≡ zeros (bytes t at n)
bytes_zero t at zero = refl
bytes_zero t at (suc n) = λ i. 0 ∷ bytes_zero t (at + 1) n i

-- whether a byte was read, where it is known
abbrev pub Before : {A : Type 0} → ℕ → Read A → Type 0
Before i (Read.ok a n d l) = i < n
Before i (Read.wrong p d l) = Unit {0}

module _ (t u : ℕ → ℕ) where
  -- u has t's bytes where x was read from `at` on, and 0 for its literals
  abbrev pub Seen : {A : Type 0} → ℕ → Read A → Type 0
  Seen at x = (i : ℕ) → at ≤ i → Before i x → u i ≡ blanked (literals x) t i

  -- then y, read there from u, is x but for the literals
  pub record Follows {A : Type 0} (g : A → A) (at : ℕ) (x y : Read A) : Type 0 where
    pub onward : at ≤ next at x
    pub like : Seen at x → map_read g x ≡ y

  module _ {A : Type 0} {at n : ℕ} (d : Option ℕ) (l : ℕ → Bool) where
    -- what was seen of two steps, of the first
    seen_left : (z : Read A) → n ≤ next n z → Seen at (after n d l z) → (i : ℕ) → at ≤ i → i < n → u i ≡ blanked l t i
    seen_left (Read.ok a m e r) h s i p q = s i p (omega arith) ∙ ap (λ c. pick (pick c (l i) (r i)) 0 (t i)) (lt-ltb i n q)
    seen_left (Read.wrong a e r) h s i p q = s i p tt ∙ ap (λ c. pick (pick c (l i) (r i)) 0 (t i)) (lt-ltb i n q)

    -- and of the second
    seen_right : (z : Read A) → at ≤ n → Seen at (after n d l z) → Seen n z
    seen_right (Read.ok a m e r) h s i p q = s i (omega arith) q ∙ ap (λ c. pick (pick c (l i) (r i)) 0 (t i)) (le-ltb i n p)
    seen_right (Read.wrong a e r) h s i p q = s i (omega arith) tt ∙ ap (λ c. pick (pick c (l i) (r i)) 0 (t i)) (le-ltb i n p)

module _ {t u : ℕ → ℕ} where
  -- one after the other
  pub follows_seq : {A B : Type 0} {g : A → A} {h : B → B} {at : ℕ} {x y : Read A} {k l : A → ℕ → Read B}
      → Follows t u g at x y → ((a b : A) (n : ℕ) → g a ≡ b → Follows t u h n (k a n) (l b n)) → Follows t u h at (seq x k) (seq y l)
  follows_seq {g = g} {h} {x = Read.ok a n d c} {k = k} {l} f e =
      let f₁ = e a (g a) n refl in
      record {
        onward = onward_after d c (k a n) f.onward f₁.onward;
        like = λ s. sym (after_map h n d c (k a n)) ∙ (λ i. after n d c (f₁.like (seen_right t u d c (k a n) f.onward s) i)) ∙ (λ i. seq (f.like (seen_left t u d c (k a n) f₁.onward s) i) l);
      }
  follows_seq {x = Read.wrong p d c} {l = l} f e = record { onward = f.onward; like = λ s i. seq (f.like s i) l }

  -- after what holds no literal
  pub follows_next : {A B : Type 0} {h : B → B} {at : ℕ} {x y : Read A} {k l : A → ℕ → Read B}
      → Follows t u (λ a. a) at x y → ((a : A) (n : ℕ) → Follows t u h n (k a n) (l a n)) → Follows t u h at (seq x k) (seq y l)
  follows_next {h = h} {k = k} {l} f e = follows_seq f (λ a b n p. subst (λ z. Follows t u h n (k a n) (l z n)) p (e a n))

  -- one or the other, by one test
  pub follows_pick : {A : Type 0} {g : A → A} {at : ℕ} {x x' y y' : Read A} (b : Bool) → Follows t u g at x y → Follows t u g at x' y' → Follows t u g at (pick b x x') (pick b y y')
  follows_pick {g = g} {at} b = picked (Follows t u g at) {b = b} refl

  -- what is read of no byte
  pub follows_read : {A : Type 0} {g : A → A} {a b : A} {d : Option ℕ} (n : ℕ) → g a ≡ b → Follows t u g n (Read.ok a n d plain) (Read.ok b n d plain)
  follows_read {d = d} n e = record { onward = le_refl _; like = λ _ i. Read.ok (e i) n d plain }

  -- nothing
  pub follows_fault : {A : Type 0} {g : A → A} {at : ℕ} (p : ℕ) → Follows t u g at (fault p) (fault p)
  follows_fault p = record { onward = le_refl _; like = λ _. refl }

  -- a child
  pub follows_child : {A : Type 0} {g : A → A} {f f' : ℕ → ℕ → Read A} → ((at end : ℕ) → Follows t u g at (f at end) (f' at end))
      → (parent at end : ℕ) → Follows t u g at (child f parent at end) (child f' parent at end)
  follows_child f parent at end = follows_pick (eqb at end) (follows_fault parent) (f at end)

  -- an end
  pub follows_last : {A : Type 0} {g : A → A} (a : A) {b : A} (at end : ℕ) → g a ≡ b → Follows t u g at (last a at end) (last b at end)
  follows_last a at end e = follows_pick (eqb at end) (follows_read at e) (follows_fault at)

  module _ {A B : Type 0} {g : A → A} {h : B → B} (nil : B) (cons : A → B → B) (e : h nil ≡ nil) (c : (x : A) (xs : B) → h (cons x xs) ≡ cons (g x) (h xs))
      {f f' : ℕ → ℕ → Read A} (F : (at end : ℕ) → Follows t u g at (f at end) (f' at end)) where
    -- fields up to the end
    pub follows_many : (fuel at end : ℕ) → Follows t u h at (many nil cons f fuel at end) (many nil cons f' fuel at end)
    follows_many zero at end = follows_last nil at end e
    follows_many (suc fuel) at end =
        follows_pick (eqb at end) (follows_read at e)
        (follows_seq (F at end) (λ x _ at₁ p. follows_seq (follows_many fuel at₁ end) (λ xs _ n q. follows_read n (c x xs ∙ (λ i. cons (p i) (q i))))))

  -- a head
  pub follows_head : (good : Head → Bool) (at end : ℕ) → Follows t u (λ h. h) at (head_at t good at end) (head_at u good at end)
  follows_head good at end =
      record {
        onward = onward (test (head t at));
        like = λ s. map_id (run (test (head t at)) (head t at)) ∙ (λ i. let h = head_same t u at (near (test (head t at)) s) i in run (test h) h);
      }
    where
      test : Head → Bool
      test h = both (fits at end h) (good h)

      run : Bool → Head → Read Head
      run b h = pick b (read h (at + 3)) (fault at)

      onward : (b : Bool) → at ≤ next at (run b (head t at))
      onward true = omega arith
      onward false = le_refl _

      near : (b : Bool) → Seen t u at (run b (head t at)) → (i : ℕ) → at ≤ i → i < at + 3 → u i ≡ t i
      near true s i p q = s i p q
      near false s i p q = s i p tt

  -- a field at its level
  pub follows_met : {A : Type 0} {g : A → A} {at : ℕ} (level p : ℕ) {x y : Read A} → Follows t u g at x y → Follows t u g at (met level p x) (met level p y)
  follows_met level p {x = Read.ok a n d l} f = record { onward = f.onward; like = λ s i. met level p (f.like s i) }
  follows_met level p {x = Read.wrong q d l} f = record { onward = f.onward; like = λ s i. met level p (f.like s i) }

  -- bytes that are no literal
  pub follows_bytes : {A : Type 0} {g : A → A} (f : Bytes → A) → ((b : Bytes) → g (f b) ≡ f b) → (in₀ n : ℕ) → Follows t u g in₀ (read (f (bytes t in₀ n)) (in₀ + n)) (read (f (bytes u in₀ n)) (in₀ + n))
  follows_bytes f e in₀ n = record { onward = omega arith; like = λ s. (λ i. read (e (bytes t in₀ n) i) (in₀ + n)) ∙ (λ i. read (f (bytes_same u t in₀ n s i)) (in₀ + n)) }

  -- a literal
  pub follows_literal : {A : Type 0} {g : A → A} (f : Bytes → A) → ((b : Bytes) → g (f b) ≡ f (zeros b)) → (in₀ n : ℕ)
      → Follows t u g in₀ (Read.ok (f (bytes t in₀ n)) (in₀ + n) none literal) (Read.ok (f (bytes u in₀ n)) (in₀ + n) none literal)
  follows_literal f e in₀ n =
      record {
        onward = omega arith;
        like = λ s i. Read.ok ((e (bytes t in₀ n) ∙ ap f (sym (bytes_zero t in₀ n) ∙ bytes_same u (λ _. 0) in₀ n s)) i) (in₀ + n) none literal;
      }

  -- a byte that reads as w, allowed where it was
  pub follows_byte : {A : Type 0} {g : A → A} (f : ℕ → A) (most : ℕ) (l : ℕ → Bool) (level at in₀ : ℕ)
      → (leb (t in₀) most ≡ true → leb (blanked l t in₀) most ≡ true) → g (f (t in₀)) ≡ f (blanked l t in₀)
      → Follows t u g in₀ (one_byte t f most l level at in₀) (one_byte u f most l level at in₀)
  follows_byte {A} {g} f most l level at in₀ h e = go (leb (t in₀) most) refl
    where
      run : Bool → ℕ → Read A
      run b x = pick b (met level at (Read.ok (f x) (in₀ + 1) none l)) (fault at)

      go : (b : Bool) → leb (t in₀) most ≡ b → Follows t u g in₀ (run b (t in₀)) (run (leb (u in₀) most) (u in₀))
      go true p =
          record {
            onward = omega arith;
            like = λ s. (λ i. met level at (Read.ok (e i) (in₀ + 1) none l)) ∙ (λ i. run (sym (h p) i) (blanked l t in₀)) ∙ (λ i. let x = sym (s in₀ (le_refl _) (omega arith)) i in run (leb x most) x);
          }
      go false p = record { onward = le_refl _; like = λ s. (λ i. run (sym p i) (t in₀)) ∙ (λ i. let x = sym (s in₀ (le_refl _) tt) i in run (leb x most) x) }
