-- Reading names, as the definition does it.
use Prim.Native.Nat.{ℕ, zero, suc, ◌+◌, ◌-◌, ◌≤◌, ◌<◌}
use mathlib.Core.Path.{◌≡◌, refl, sym, ap, subst, ◌∙◌}
use mathlib.Core.Bool.{Bool, true, false}
use mathlib.Core.List.{List, [], ◌∷◌, reverse, reverse_aux, reverse-reverse}
use native.Mathlib.Omega.{arith}
use lib.ListN.{length}
use lib.Dec.{leb, eqb}
use borrow.Author.Tests.{eq-eqb, ne_eqb, leb-true, eqb-true, eqb-false}
use Rattle.definition.specs.Basic.{Bytes, byte_at, pick, both}
use Rattle.definition.specs.Field.{Head, tagged, name_head, fits, bytes, head}
use Rattle.definition.specs.Decode.{Decoded, decoded, malformed, then, items, read_head, read_name_field, read_name_fields}
use Rattle.definition.proofs.Basic.{both_left, both_right}
use Rattle.field.specs.Layout.{len, after, content}
use Rattle.field.specs.Row.{RowTo, HasRow}
use Rattle.field.proofs.Content.{content-bytes}

-- Items up to the end

module _ {A : Type 0} (f : ℕ → ℕ → Decoded A) where
  pub items_none : (most : ℕ) (xs : List A) (at end : ℕ) → at ≡ end → items f most xs at end ≡ decoded xs at
  unfolding items
  items_none zero xs at end e = rw (eq-eqb at end e)
  items_none (suc m) xs at end e = rw (eq-eqb at end e)

  -- the first of what is left, and the rest
  pub record Next (most : ℕ) (xs : List A) (at end : ℕ) (ns : List A) (e : ℕ) : Type 0 where
    pub first : A
    pub at₁ : ℕ
    pub here : f at end ≡ decoded first at₁
    pub some : 0 < most
    pub rest : items f (most - 1) (first ∷ xs) at₁ end ≡ decoded ns e

  pub items_next : (most : ℕ) (xs : List A) (at end : ℕ) (ns : List A) (e : ℕ) → (at ≡ end → ⊥) → items f most xs at end ≡ decoded ns e → Next most xs at end ns e
  unfolding items
  items_next zero xs at end ns e d h = absurd (never (rw (ne_eqb at end d) at h))
    where
      never : malformed at ≡ decoded ns e → ⊥
      never w = let z : ◌≡◌ {A = ℕ} 0 1 = cc in omega arith
  items_next (suc m) xs at end ns e d h = go (f at end) refl (rw (ne_eqb at end d) at h)
    where
      go : (y : Decoded A) → f at end ≡ y → then y (λ x at₁. items f m (x ∷ xs) at₁ end) ≡ decoded ns e → Next (suc m) xs at end ns e
      go (decoded x at₁) p q = let n : suc m - 1 ≡ m = omega arith in record { first = x; at₁ = at₁; here = p; some = omega arith; rest = rw n q }
      go (malformed o) p q = let z : ◌≡◌ {A = ℕ} 0 1 = cc in absurd (omega arith)

-- Heads and names

module _ (b : Bytes) (at end : ℕ) where
  -- a head that is read: a whole field is there
  pub record HeadRead (h : Head) (in₀ : ℕ) : Type 0 where
    pub is : h ≡ head (byte_at b) at
    pub next : in₀ ≡ at + 3
    pub fits : after b at ≤ end

  pub head_read : (good : Head → Bool) (h : Head) (in₀ : ℕ) → read_head (byte_at b) good at end ≡ decoded h in₀ → HeadRead h in₀
  head_read good h in₀ = go (both (fits at end (head (byte_at b) at)) (good (head (byte_at b) at))) refl
    where
      go : (t : Bool) → both (fits at end (head (byte_at b) at)) (good (head (byte_at b) at)) ≡ t → pick t (decoded (head (byte_at b) at) (at + 3)) (malformed at) ≡ decoded h in₀ → HeadRead h in₀
      go true p q =
          let whole : fits at end (head (byte_at b) at) ≡ true = both_left (fits at end (head (byte_at b) at)) (good (head (byte_at b) at)) p in
          record { is = cc; next = cc; fits = leb-true (after b at) end (both_right (leb (at + 3) end) (leb (after b at) end) whole) }
      go false p q = let z : ◌≡◌ {A = ℕ} 0 1 = cc in absurd (omega arith)

  -- a name that is read
  pub record IsRead (x : Bytes) (at₁ : ℕ) : Type 0 where
    pub name : x ≡ content b at
    pub next : at₁ ≡ after b at
    pub fits : after b at ≤ end

  pub name_read : (x : Bytes) (at₁ : ℕ) → end ≤ length b → read_name_field (byte_at b) at end ≡ decoded x at₁ → IsRead x at₁
  name_read x at₁ l h = go (read_head (byte_at b) (name_head 1) at end) refl h
    where
      go : (y : Decoded Head) → read_head (byte_at b) (name_head 1) at end ≡ y → then y (λ h in₀. decoded (bytes (byte_at b) in₀ h.len) (in₀ + h.len)) ≡ decoded x at₁ → IsRead x at₁
      go (decoded h in₀) p q =
          let w : HeadRead h in₀ = head_read (name_head 1) h in₀ p in
          let n : bytes (byte_at b) in₀ h.len ≡ bytes (byte_at b) (at + 3) (len b at) = rw (w.is, w.next) in
          let m : in₀ + h.len ≡ after b at = rw (w.is, w.next) in
          let c : bytes (byte_at b) (at + 3) (len b at) ≡ content b at = content-bytes {b = b} {at = at} (record { fits = omega (arith, w.fits) }) in
          record { name = cc; next = cc; fits = w.fits }
      go (malformed o) p q = let z : ◌≡◌ {A = ℕ} 0 1 = cc in absurd (omega arith)

-- a field of names that is read: its head, then names up to its end
pub record NamesRead (b : Bytes) (most start : ℕ) (ns : List Bytes) (e : ℕ) : Type 0 where
  pub fits : after b start ≤ length b
  pub items : items (read_name_field (byte_at b)) most [] (start + 3) (after b start) ≡ decoded ns e

pub names-read : (b : Bytes) (tag most start : ℕ) (ns : List Bytes) (e : ℕ) → read_name_fields (byte_at b) tag most start (length b) ≡ decoded ns e → NamesRead b most start ns e
names-read b tag most start ns e = go (read_head (byte_at b) (tagged tag) start (length b)) refl
  where
    go : (y : Decoded Head) → read_head (byte_at b) (tagged tag) start (length b) ≡ y → then y (λ h in₀. items (read_name_field (byte_at b)) most [] in₀ (in₀ + h.len)) ≡ decoded ns e → NamesRead b most start ns e
    go (decoded h in₀) p q = let w = head_read b start (length b) (tagged tag) h in₀ p in record { fits = w.fits; items = rw (w.is, w.next) at q }
    go (malformed o) p q = let z : ◌≡◌ {A = ℕ} 0 1 = cc in absurd (omega arith)

-- names that are read, the latest first, are the fields in their other order
pub record Rows (b : Bytes) (most : ℕ) (xs : List Bytes) (at end : ℕ) (ns : List Bytes) (e : ℕ) : Type 0 where
  pub fields : List Bytes
  pub row : RowTo b end at fields
  pub order : ns ≡ reverse_aux fields xs
  pub few : length fields ≤ most
  pub ends : e ≡ end

-- at the end there are no more
items-ended : (b : Bytes) (most : ℕ) (xs : List Bytes) (at end : ℕ) {ns : List Bytes} {e : ℕ} → at ≡ end → items (read_name_field (byte_at b)) most xs at end ≡ decoded ns e → Rows b most xs at end ns e
items-ended b most xs at end {ns} {e} p h =
    let q : decoded xs at ≡ decoded ns e = sym (items_none (read_name_field (byte_at b)) most xs at end p) ∙ h in
    record { fields = []; row = RowTo.end p; order = cc; few = omega arith; ends = cc }

pub items-row : (b : Bytes) (most : ℕ) (xs : List Bytes) (at end : ℕ) {ns : List Bytes} {e : ℕ} → end ≤ length b → items (read_name_field (byte_at b)) most xs at end ≡ decoded ns e → Rows b most xs at end ns e
items-row b zero xs at end {ns} {e} l h = go (eqb at end) refl
  where
    go : (t : Bool) → eqb at end ≡ t → Rows b zero xs at end ns e
    go true p = items-ended b zero xs at end (eqb-true at end p) h
    go false p = let n = items_next (read_name_field (byte_at b)) zero xs at end ns e (eqb-false at end p) h in absurd (omega (arith, n.some))
items-row b (suc m) xs at end {ns} {e} l h = go (eqb at end) refl (λ g. items-row b m (content b at ∷ xs) (after b at) end l g)
  where
    go : (t : Bool) → eqb at end ≡ t → (items (read_name_field (byte_at b)) m (content b at ∷ xs) (after b at) end ≡ decoded ns e → Rows b m (content b at ∷ xs) (after b at) end ns e) → Rows b (suc m) xs at end ns e
    go true p rest = items-ended b (suc m) xs at end (eqb-true at end p) h
    go false p rest =
        let n = items_next (read_name_field (byte_at b)) (suc m) xs at end ns e (eqb-false at end p) h in
        let r = name_read b at end n.first n.at₁ l n.here in
        let less : suc m - 1 ≡ m = omega arith in
        let k = rest ((λ i. items (read_name_field (byte_at b)) (sym less i) (sym r.name i ∷ xs) (sym r.next i) end) ∙ n.rest) in
        record { fields = content b at ∷ k.fields; row = RowTo.more refl r.fits k.row; order = k.order; few = omega (arith, k.few); ends = k.ends }

-- names that are read fill the part, the fields in the names' other order
pub record Filled (b : Bytes) (most from to : ℕ) (ns : List Bytes) : Type 0 where
  pub has : HasRow b from to
  pub order : has.names ≡ reverse ns
  pub few : length has.names ≤ most

pub filled : (b : Bytes) (most from end to : ℕ) {ns : List Bytes} → end ≤ length b → items (read_name_field (byte_at b)) most [] from end ≡ decoded ns to → Filled b most from to ns
filled b most from end to l e =
    let r = items-row b most [] from end l e in
    record {
      has = record { names = r.fields; row = subst (λ n. RowTo b n from r.fields) (sym r.ends) r.row; within = omega (arith, r.ends) };
      order = sym (reverse-reverse r.fields) ∙ ap reverse (sym r.order);
      few = r.few;
    }
