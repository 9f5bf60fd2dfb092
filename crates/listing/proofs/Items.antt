-- A loop over items that are known to be read: the next one is there, and at the end all were read.
use Prim.Native.Nat.{ℕ, zero, suc, ◌+◌, ◌≤◌, ◌<◌}
use mathlib.Core.Path.{◌≡◌, ◌∙◌, ap, sym, refl, subst}
use mathlib.Core.Bool.{Bool, true, false}
use mathlib.Core.List.{List, [], ◌∷◌}
use native.Mathlib.Omega.{arith}
use lib.Dec.{eqb}
use borrow.Author.Tests.{eqb-true, eqb-false}
use Rattle.definition.specs.Decode.{Decoded, decoded, then, items}
use Rattle.bytecode.proofs.Items.{at-end, too-many, one_more, unlike}
use Rattle.bytecode.proofs.Fields.{then_read}

module _ {A : Type 0} (f : ℕ → ℕ → Decoded A) (end : ℕ) where
  -- at the end nothing more was read
  pub record Stopped (xs : List A) (at : ℕ) (ys : List A) (n : ℕ) : Type 0 where
    pub here : at ≡ end
    pub all : xs ≡ ys
    pub after : at ≡ n

  -- before it one item, and then the rest
  pub record More (most : ℕ) (xs : List A) (at : ℕ) (ys : List A) (n : ℕ) : Type 0 where
    pub before : at ≡ end → ⊥
    pub x : A
    pub next : ℕ
    pub found : f at end ≡ decoded x next
    pub rest : items f most (x ∷ xs) next end ≡ decoded ys n

  stopped : (most : ℕ) (xs : List A) (at : ℕ) {ys : List A} {n : ℕ} → items f most xs at end ≡ decoded ys n → at ≡ end → Stopped xs at ys n
  stopped most xs at {ys} {n} e i =
      let d : decoded xs at ≡ decoded ys n = sym (at-end f end most xs at i) ∙ e in
      record { here = i; all = cc; after = cc }

  more : (most : ℕ) (xs : List A) (at : ℕ) {ys : List A} {n : ℕ} → items f (suc most) xs at end ≡ decoded ys n → (at ≡ end → ⊥) → More most xs at ys n
  more most xs at e h =
      let t = then_read (f at end) (sym (one_more f end most xs at h) ∙ e) in
      record { before = h; x = t.0; next = t.1; found = t.2; rest = t.3 }

  -- what was read behind some items
  data Read (xs : List A) (at : ℕ) (ys : List A) (n : ℕ) : ℕ → Type 0 where
    stop : {most : ℕ} → Stopped xs at ys n → Read xs at ys n most
    step : {most : ℕ} → More most xs at ys n → Read xs at ys n (suc most)

  read : (most : ℕ) (xs : List A) (at : ℕ) {ys : List A} {n : ℕ} → items f most xs at end ≡ decoded ys n → Read xs at ys n most
  read most xs at {ys} {n} e = go most (eqb at end) refl e
    where
      go : (k : ℕ) (b : Bool) → eqb at end ≡ b → items f k xs at end ≡ decoded ys n → Read xs at ys n k
      go k true t j = stop (stopped k xs at j (eqb-true at end t))
      go zero false t j = absurd (unlike (sym (too-many f end xs at (eqb-false at end t)) ∙ j))
      go (suc k) false t j = step (more k xs at j (eqb-false at end t))

  -- what holds of the items before, and of one more, holds of all
  module _ (P : List A → ℕ → Type 0) (one : (xs : List A) (at : ℕ) (x : A) (m : ℕ) → P xs at → f at end ≡ decoded x m → P (x ∷ xs) m) where
    here : {xs : List A} {at : ℕ} {ys : List A} {n : ℕ} → Stopped xs at ys n → P xs at → P ys n
    here {xs} {at} {ys} {n} s p = subst (λ (l : List A). P l n) s.all (subst (λ (k : ℕ). P xs k) s.after p)

    pub all_read : (most : ℕ) (xs : List A) (at : ℕ) {ys : List A} {n : ℕ} → items f most xs at end ≡ decoded ys n → P xs at → P ys n
    all_read zero xs at {ys} {n} e p = go (read 0 xs at e)
      where
        go : Read xs at ys n 0 → P ys n
        go (stop s) = here s p
    all_read (suc most) xs at {ys} {n} e p = go (λ x m. all_read most (x ∷ xs) m) (read (suc most) xs at e)
      where
        go : ((x : A) (m : ℕ) → items f most (x ∷ xs) m end ≡ decoded ys n → P (x ∷ xs) m → P ys n) → Read xs at ys n (suc most) → P ys n
        go ih (stop s) = here s p
        go ih (step s) = ih s.x s.next s.rest (one xs at s.x s.next p s.found)

  -- as many as there are bytes are enough, where each item has a byte
  module _ (grows : (at : ℕ) (x : A) (m : ℕ) → f at end ≡ decoded x m → (at < m) × (m ≤ end)) where
    again : (most : ℕ) {xs : List A} {at : ℕ} {ys : List A} {n : ℕ} (s : More most xs at ys n) (fewer : ℕ) → items f fewer (s.x ∷ xs) s.next end ≡ decoded ys n
        → items f (suc fewer) xs at end ≡ decoded ys n
    again most {xs} {at} s fewer e =
        one_more f end fewer xs at s.before ∙ ap (λ (d : Decoded A). then d (λ x at₁. items f fewer (x ∷ xs) at₁ end)) s.found ∙ e

    still : (most : ℕ) {xs : List A} {at : ℕ} {ys : List A} {n : ℕ} → Stopped xs at ys n → items f most xs at end ≡ decoded ys n
    still most {xs} {at} s = at-end f end most xs at s.here ∙ (λ i. decoded (s.all i) (s.after i))

    pub enough : (most fewer : ℕ) (xs : List A) (at : ℕ) {ys : List A} {n : ℕ} → at ≤ end → end ≤ at + fewer → items f most xs at end ≡ decoded ys n
        → items f fewer xs at end ≡ decoded ys n
    enough zero fewer xs at {ys} {n} l h e = go (read 0 xs at e)
      where
        go : Read xs at ys n 0 → items f fewer xs at end ≡ decoded ys n
        go (stop s) = still fewer s
    enough (suc most) fewer xs at {ys} {n} l h e = go fewer h (λ k x m. enough most k (x ∷ xs) m) (read (suc most) xs at e)
      where
        go : (k : ℕ) → end ≤ at + k
            → ((j : ℕ) (x : A) (m : ℕ) → m ≤ end → end ≤ m + j → items f most (x ∷ xs) m end ≡ decoded ys n → items f j (x ∷ xs) m end ≡ decoded ys n)
            → Read xs at ys n (suc most) → items f k xs at end ≡ decoded ys n
        go k g ih (stop s) = still k s
        go zero g ih (step s) = absurd (s.before (omega arith))
        go (suc k) g ih (step s) =
            let b = grows at s.x s.next s.found in
            again most s k (ih k s.x s.next (omega arith) (omega arith) s.rest)

  -- a loop behind some items: what is left to read decides
  module _ (most start : ℕ) where
    pub record Reading (xs : List A) (at : ℕ) : Type 0 where
      pub rest : ℕ
      pub same : items f most [] start end ≡ items f rest xs at end

    pub begins : Reading [] start
    begins = record { rest = most; same = refl }

    module _ {xs : List A} {at : ℕ} (r : Reading xs at) {ys : List A} {n : ℕ} (e : items f most [] start end ≡ decoded ys n) where
      -- at the end all were read
      pub ends : at ≡ end → xs ≡ ys
      ends i = (stopped r.rest xs at (sym r.same ∙ e) i).all

      -- before it there is one more
      pub record Next : Type 0 where
        pub x : A
        pub next : ℕ
        pub found : f at end ≡ decoded x next
        pub reading : Reading (x ∷ xs) next

      pub next : (at ≡ end → ⊥) → Next
      next h = go r.rest (read r.rest xs at (sym r.same ∙ e))
        where
          go : (k : ℕ) → Read xs at ys n k → Next
          go k (stop t) = absurd (h t.here)
          go (suc k) (step t) = record { x = t.x; next = t.next; found = t.found; reading = record { rest = k; same = e ∙ sym t.rest } }
