-- Fields: a head that stands is read, and the field of a head that was read stands there.
use Prim.Native.Nat.{ℕ, ◌+◌, ◌≤◌, ◌<◌}
use native.Mathlib.Omega.{arith}
use mathlib.Core.Bool.{Bool, true}
use mathlib.Core.List.{List, []}
use mathlib.Core.Path.{◌≡◌, refl, sym, ap, ◌∙◌}
use lib.ListN.{length}
use lib.Dec.{leb}
use borrow.Author.Tests.{le-leb, leb-true, eqb-true}
use Rattle.definition.specs.Basic.{Bytes, both, pick}
use Rattle.definition.specs.Field.{Head, field, tagged, fits, head}
use Rattle.definition.specs.Decode.{Decoded, decoded, malformed, then, items, read_head}
use Rattle.definition.specs.Bytecode.{written}
use Rattle.definition.specs.Valid.{All}
use Rattle.definition.proofs.Bytes.{Stands, stands_cons, stands_head, stands_tail, stands_at, stands_number, number_stands}
use Rattle.definition.proofs.Basic.{both_intro, both_left, both_right}
use Rattle.definition.proofs.Items.{passed, first, Reads, Writes, read-items, write_items}

-- the head of a field
abbrev pub head_of : ℕ → Bytes → Head
head_of t c = record { tag = t; len = length c }

-- a tag that is right
pub tagged_true : (t : ℕ) (h : Head) → tagged t h ≡ true → h.tag ≡ t
tagged_true t h e = eqb-true h.tag t e

module _ {byte : ℕ → ℕ} where
  -- the content stands behind the head
  pub stands_content : {at : ℕ} (t : ℕ) (c : Bytes) → Stands byte at (field t c) → Stands byte (at + 3) c
  stands_content t c s = stands_at (omega arith) (stands_tail (stands_tail (stands_tail s)))

  -- the head that stands there
  pub head-field : {at : ℕ} (t : ℕ) (c : Bytes) → length c < 65536 → Stands byte at (field t c) → head byte at ≡ head_of t c
  head-field {at} t c h s = λ i. record { tag = stands_head s i; len = stands_number (at + 2) (length c) (omega arith) h (stands_tail s) i }

  -- a head that stands is read
  pub read-head : (good : Head → Bool) {at : ℕ} (end t : ℕ) (c : Bytes) → length c < 65536 → good (head_of t c) ≡ true → Stands byte at (field t c)
      → at + length (field t c) ≤ end → read_head byte good at end ≡ decoded (head_of t c) (at + 3)
  read-head good {at} end t c h g s k =
      let fit = both_intro (both_intro (le-leb (at + 3) end (omega arith)) (le-leb (at + 3 + length c) end (omega arith))) g in
      (λ i. let x = head-field t c h s i in pick (both (fits at end x) (good x)) (decoded x (at + 3)) (malformed at))
      ∙ (λ i. pick (fit i) (decoded (head_of t c) (at + 3)) (malformed at))

-- a head that was read
pub record Headed (byte : ℕ → ℕ) (good : Head → Bool) (at end : ℕ) (h : Head) (next : ℕ) : Type 0 where
  pub stands : head byte at ≡ h
  pub inside : at + 3 ≡ next
  pub right : good h ≡ true
  pub fit : next + h.len ≤ end

-- what a head was read as
pub headed : (byte : ℕ → ℕ) (good : Head → Bool) (at end : ℕ) {h : Head} {n : ℕ} → read_head byte good at end ≡ decoded h n → Headed byte good at end h n
headed byte good at end {h} {n} e =
    let g = head byte at in
    let t = passed (both (fits at end g) (good g)) g (at + 3) at e in
    let v : g.len ≡ h.len = λ i. (t.value i).len in
    let l = leb-true (at + 3 + g.len) end (both_right (leb (at + 3) end) _ (both_left (fits at end g) (good g) t.test)) in
    record {
      stands = t.value;
      inside = t.next;
      right = rw t.value at (both_right (fits at end g) (good g) t.test);
      fit = omega (arith, l, t.next);
    }

-- the field of a head that was read stands there
pub field_stands : {byte : ℕ → ℕ} → ((i : ℕ) → byte i < 256) → {at t : ℕ} {c : Bytes} → head byte at ≡ head_of t c → Stands byte (at + 3) c → Stands byte at (field t c)
field_stands {byte} small {at} e s = stands_cons (λ i. (e i).tag) (number_stands small (at + 2) (omega arith) (λ i. (e i).len) (stands_at (omega arith) s))

-- readings in a row, however they are grouped
pub then_assoc : {A B C : Type 0} (r : Decoded A) (g : A → ℕ → Decoded B) (k : B → ℕ → Decoded C) → then (then r g) k ≡ then r (λ a n. then (g a n) k)
then_assoc (decoded a n) g k = refl
then_assoc (malformed p) g k = refl

-- Fields of items: a head that passes a test, and at most so many items
module _ {A : Type 0} (byte : ℕ → ℕ) (test : Head → Bool) (most : Head → ℕ) (f : ℕ → ℕ → Decoded A) where
  -- such a field at an offset
  abbrev pub read_row : ℕ → ℕ → Decoded (List A)
  read_row at end = then (read_head byte test at end) (λ h in₀. items f (most h) [] in₀ (in₀ + h.len))

-- what a field of items was read as
pub record RowField {A : Type 0} (byte : ℕ → ℕ) (test : Head → Bool) (most : Head → ℕ) (w : A → Bytes) (good : A → Type 0) (t at end : ℕ) (xs : List A) (n : ℕ) : Type 0 where
  pub stands : Stands byte at (field t (written w xs))
  pub upto : at + length (field t (written w xs)) ≡ n
  pub each : All good xs
  pub right : test (head_of t (written w xs)) ≡ true
  pub count : length xs ≤ most (head_of t (written w xs))
  pub fit : n ≤ end

module _ {A : Type 0} {byte : ℕ → ℕ} {f : ℕ → ℕ → Decoded A} {w : A → Bytes} {good : A → Type 0} (test : Head → Bool) (most : Head → ℕ) (t : ℕ) where
  -- a field of good items that stands before the end is read
  pub read-row : Reads byte w good f → {xs : List A} → All good xs → length (written w xs) < 65536 → test (head_of t (written w xs)) ≡ true → length xs ≤ most (head_of t (written w xs))
      → {at : ℕ} (end : ℕ) → Stands byte at (field t (written w xs)) → at + length (field t (written w xs)) ≤ end
      → read_row byte test most f at end ≡ decoded xs (at + length (field t (written w xs)))
  read-row r {xs} gs l g c {at} end s h =
      let p : at + 3 + length (written w xs) ≡ at + length (field t (written w xs)) = omega arith in
      (λ i. then (read-head test end t (written w xs) l g s h i) (λ h in₀. items f (most h) [] in₀ (in₀ + h.len)))
      ∙ read-items r gs c (stands_content t (written w xs) s) refl
      ∙ ap (decoded xs) p

  -- a field of items that is read stands there
  pub write_row : ((i : ℕ) → byte i < 256) → ((h : Head) → test h ≡ true → h.tag ≡ t) → Writes byte w good f → (at end : ℕ) {xs : List A} {n : ℕ}
      → read_row byte test most f at end ≡ decoded xs n → RowField byte test most w good t at end xs n
  write_row small tag k at end {xs} {n} e =
      let r = first (read_head byte test at end) (λ h in₀. items f (most h) [] in₀ (in₀ + h.len)) e in
      let h = headed byte test at end r.read in
      let i = write_items k r.next (r.next + r.value.len) (most r.value) r.rest in
      let l : r.value.len ≡ length (written w xs) = omega (arith, i.row.upto) in
      let same : r.value ≡ head_of t (written w xs) = λ j. record { tag = tag r.value h.right j; len = l j } in
      record {
        stands = field_stands small (h.stands ∙ same) (stands_at (sym h.inside) i.row.stands);
        upto = omega (arith, i.row.upto, i.ended, h.inside);
        each = i.row.each;
        right = rw same at h.right;
        count = rw same at i.count;
        fit = omega (arith, i.ended, h.fit);
      }
