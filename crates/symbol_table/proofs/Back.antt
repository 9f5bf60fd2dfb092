-- A run of numbers that stand for a list, the latest first: what it is made of, and what a search in it finds.
use Prim.Native.Nat.{ℕ, zero, suc, ◌+◌, ◌-◌, ◌%◌, ◌≤◌, ◌<◌}
use mathlib.Core.Path.{◌≡◌, refl, sym, ap, subst, ◌∙◌}
use mathlib.Core.Bool.{true, false}
use mathlib.Core.Logic.{⊎_elim}
use mathlib.Core.List.{List, [], ◌∷◌}
use mathlib.Core.Option.{none, some}
use native.Mathlib.Nat.{eq-or-lt_of_le}
use native.Mathlib.Omega.{arith}
use lib.ListN.{length, get_or, take, drop, length-drop}
use lib.Seq.{length-take-le, get_or-take}
use Rattle.std.proofs.lemmas.List.{get_or-drop}
use Rattle.definition.specs.Basic.{Bytes}
use Rattle.definition.specs.SymbolTable.{same, find}
use Rattle.field.specs.Layout.{content}
use Rattle.symbol_table.specs.Name.{hash_of}
use Rattle.symbol_table.specs.Layout.{entries_at, originals_at, originals_of, symbols_in, name_in, code_in, tag_in, entry_of, symbol_of, back, GoodEntry}
use Rattle.symbol_table.specs.Contract.{PassedOver}
use Rattle.symbol_table.proofs.Names.{hash_differs}

-- the last index, or one before it
pub last_or_before : (P : ℕ → Type 0) (n i : ℕ) → i < suc n → P n → (i < n → P i) → P i
last_or_before P n i l x f = ⊎_elim (λ (e : i ≡ n). subst P (sym e) x) f (eq-or-lt_of_le {n = i} {m = n} (omega arith))

module _ {A : Type 0} (f : ℕ → A) (r : List ℕ) (s : ℕ) where
  pub back_none : (k : ℕ) → k ≤ 0 → back f r s k ≡ []
  unfolding back
  back_none k h = let e : k ≡ 0 = omega arith in rw e

  pub back_more : (k : ℕ) → 0 < k → back f r s k ≡ f (get_or r (s + (k - 1)) 0) ∷ back f r s (k - 1)
  unfolding back
  back_more zero h = absurd (omega arith)
  back_more (suc n) h = let e : suc n - 1 ≡ n = omega arith in rw e

  pub back_next : (k : ℕ) → back f r s (suc k) ≡ f (get_or r (s + k) 0) ∷ back f r s k
  unfolding back
  back_next k = refl

  pub length_back : (n : ℕ) → length (back f r s n) ≡ n
  unfolding back
  length_back zero = refl
  length_back (suc n) = ap suc (length_back n)

  -- only those numbers count
  pub back_same : (r' : List ℕ) (n : ℕ) → ((j : ℕ) → s ≤ j → j < s + n → get_or r' j 0 ≡ get_or r j 0) → back f r' s n ≡ back f r s n
  unfolding back
  back_same r' zero h = refl
  back_same r' (suc n) h = rw (h (s + n) (omega arith) (omega arith), back_same r' n (λ j a b. h j a (omega arith)))

  -- the first of a part's numbers
  pub back_part : (n m : ℕ) → m ≤ n → back f (take n (drop s r)) 0 m ≡ back f r s m
  unfolding back
  back_part n zero h = refl
  back_part n (suc m) h =
      let e : 0 + m ≡ m = omega arith in
      let same : get_or (take n (drop s r)) (0 + m) 0 ≡ get_or r (s + m) 0 = ap (λ i. get_or (take n (drop s r)) i 0) e ∙ get_or-take n (drop s r) m 0 (omega arith) ∙ get_or-drop s r m 0 in
      rw (same, back_part n m (omega arith))

-- the originals' codes, as a part of the numbers
pub part_symbols : (r : List ℕ) {k n : ℕ} → k ≡ n → originals_at + n ≤ length r → (length (take k (drop originals_at r)) ≡ n) × (symbols_in (take k (drop originals_at r)) ≡ originals_of r n)
part_symbols r {n = n} e h =
    let l : length (take n (drop originals_at r)) ≡ n = length-take-le n (drop originals_at r) (omega (arith, length-drop originals_at r)) in
    rw e (l, rw l (back_part symbol_of r originals_at n n (omega arith)))

-- the latest of k entries
module _ (tree : Bytes) (r : List ℕ) (n : Bytes) (k : ℕ) where
  pub find_none : k ≤ 0 → find n (back (entry_of tree) r entries_at k) ≡ none
  unfolding find
  find_none h = rw (back_none (entry_of tree) r entries_at k h)

  module _ (h : 0 < k) where
    pub find_hit : same n (content tree (name_in (get_or r (entries_at + (k - 1)) 0))) ≡ true → find n (back (entry_of tree) r entries_at k) ≡ some (symbol_of (code_in (get_or r (entries_at + (k - 1)) 0)))
    unfolding find
    find_hit e = rw (back_more (entry_of tree) r entries_at k h, e)

    pub find_miss : same n (content tree (name_in (get_or r (entries_at + (k - 1)) 0))) ≡ false → find n (back (entry_of tree) r entries_at k) ≡ find n (back (entry_of tree) r entries_at (k - 1))
    unfolding find
    find_miss e = rw (back_more (entry_of tree) r entries_at k h, e)

    -- other bits of the hash: another name
    pub find_other : GoodEntry tree (get_or r (entries_at + (k - 1)) 0) → (tag_in (get_or r (entries_at + (k - 1)) 0) ≡ hash_of n % 128 → ⊥) → find n (back (entry_of tree) r entries_at k) ≡ find n (back (entry_of tree) r entries_at (k - 1))
    find_other g d = find_miss (hash_differs (λ x. hash_of x % 128) n (content tree (name_in (get_or r (entries_at + (k - 1)) 0))) (λ e. d (g.tag ∙ sym e)))

-- entries of other tags hold another name
module _ (tree : Bytes) (r : List ℕ) (n : Bytes) where
  over : (k d : ℕ) → ((i : ℕ) → i < k + d → GoodEntry tree (get_or r (entries_at + i) 0)) → ((i : ℕ) → k ≤ i → i < k + d → tag_in (get_or r (entries_at + i) 0) ≡ hash_of n % 128 → ⊥)
      → find n (back (entry_of tree) r entries_at (k + d)) ≡ find n (back (entry_of tree) r entries_at k)
  over k zero g h = let e : k + 0 ≡ k = omega arith in ap (λ m. find n (back (entry_of tree) r entries_at m)) e
  over k (suc d) g h =
      let e : k + suc d - 1 ≡ k + d = omega arith in
      find_other tree r n (k + suc d) (omega arith) (g (k + suc d - 1) (omega arith)) (h (k + suc d - 1) (omega arith) (omega arith))
      ∙ ap (λ m. find n (back (entry_of tree) r entries_at m)) e
      ∙ over k d (λ i l. g i (omega arith)) (λ i l m. h i l (omega arith))

  pub find_passed : (from k : ℕ) → ((i : ℕ) → i < from → GoodEntry tree (get_or r (entries_at + i) 0)) → {tag : ℕ} → tag ≡ hash_of n % 128 → PassedOver r from tag k
      → find n (back (entry_of tree) r entries_at from) ≡ find n (back (entry_of tree) r entries_at k)
  find_passed from k g t p =
      let o = p.order in
      let e : k + (from - k) ≡ from = omega arith in
      ap (λ m. find n (back (entry_of tree) r entries_at m)) (sym e) ∙ over k (from - k) (λ i l. g i (omega arith)) (λ i l m q. p.others i l (omega arith) (q ∙ sym t))

-- Passing over
