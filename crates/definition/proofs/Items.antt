-- Rows of items: what is written reads back, and what was read is written back.
use Prim.Native.Nat.{ℕ, zero, suc, ◌+◌, ◌-◌, ◌≤◌, ◌<◌}
use native.Mathlib.Omega.{arith}
use mathlib.Core.Bool.{Bool, true, false}
use mathlib.Core.List.{List, [], ◌∷◌, ◌++◌}
use mathlib.Core.Path.{◌≡◌, refl, sym, ap, ◌∙◌}
use lib.ListN.{length, length-append}
use lib.Dec.{eqb}
use borrow.Author.Tests.{eq-eqb, ne_eqb, eqb-true}
use Rattle.definition.specs.Basic.{Bytes, pick}
use Rattle.definition.specs.Bytecode.{written}
use Rattle.definition.specs.Decode.{Decoded, decoded, malformed, then, ending, items}
use Rattle.definition.specs.Valid.{All, none, more}
use Rattle.definition.proofs.Bytes.{Stands, stands_nil, stands_at, stands_left, stands_right, stands_append}

-- a test that let something be read held
pub record Passed {A : Type 0} (t : Bool) (x : A) (m : ℕ) (y : A) (n : ℕ) : Type 0 where
  pub test : t ≡ true
  pub value : x ≡ y
  pub next : m ≡ n

-- what was read passed its test
pub passed : {A : Type 0} (t : Bool) (x : A) (m p : ℕ) {y : A} {n : ℕ} → pick t (decoded x m) (malformed p) ≡ decoded y n → Passed t x m y n
passed true x m p e = record { test = refl; value = cc; next = cc }
passed false x m p e = record { test = cc; value = cc; next = cc }

-- of two readings in a row, the first
pub record First {A B : Type 0} (r : Decoded A) (k : A → ℕ → Decoded B) (b : B) (n : ℕ) : Type 0 where
  pub value : A
  pub next : ℕ
  pub read : r ≡ decoded value next
  pub rest : k value next ≡ decoded b n

-- where two were read, the first was
pub first : {A B : Type 0} (r : Decoded A) (k : A → ℕ → Decoded B) {b : B} {n : ℕ} → then r k ≡ decoded b n → First r k b n
first (decoded a m) k e = record { value = a; next = m; read = refl; rest = e }
first (malformed p) k e = let z : ◌≡◌ {A = ℕ} 0 1 = cc in absurd (omega arith)

-- nothing follows
pub ends : {A : Type 0} (a : A) (at : ℕ) → ending a at at ≡ decoded a at
ends a at = rw (eq-eqb at at refl) refl

-- what was read of bytes, valid, and written as these bytes
pub record Rewritten {A : Type 0} (w : A → Bytes) (valid : A → Type 0) (b : Bytes) (x : A) : Type 0 where
  pub bytes : w x ≡ b
  pub sound : valid x

-- the same thing
pub rewritten_same : {A : Type 0} {w : A → Bytes} {valid : A → Type 0} {b : Bytes} {x y : A} → x ≡ y → Rewritten w valid b x → Rewritten w valid b y
rewritten_same e r = rw e at r

-- bytes that were read as one thing are the same
pub rewritten_once : {A : Type 0} {w : A → Bytes} {valid : A → Type 0} {b c : Bytes} {x : A} → Rewritten w valid b x → Rewritten w valid c x → b ≡ c
rewritten_once r s = sym r.bytes ∙ s.bytes

-- Items that `w` writes
module _ {A : Type 0} (byte : ℕ → ℕ) (w : A → Bytes) (good : A → Type 0) where
  -- a good item that stands before the end is read
  pub record Reads (f : ℕ → ℕ → Decoded A) : Type 0 where
    pub some : (x : A) → 1 ≤ length (w x)
    pub read : {at : ℕ} (end : ℕ) {x : A} → good x → Stands byte at (w x) → at + length (w x) ≤ end → f at end ≡ decoded x (at + length (w x))

  -- an item that was read: its bytes, up to what follows
  pub record Item (at : ℕ) (x : A) (next : ℕ) : Type 0 where
    pub stands : Stands byte at (w x)
    pub upto : at + length (w x) ≡ next
    pub sound : good x

  -- an item that is read stands there, and is good
  pub record Writes (f : ℕ → ℕ → Decoded A) : Type 0 where
    pub wrote : (at end : ℕ) {n : ℕ} {x : A} → f at end ≡ decoded x n → Item at x n

  -- from `start` to `at` there are the bytes of `xs`, and each is good
  pub record Row (start : ℕ) (xs : List A) (at : ℕ) : Type 0 where
    pub stands : Stands byte start (written w xs)
    pub upto : start + length (written w xs) ≡ at
    pub each : All good xs

  -- a row up to the end, of at most so many items
  pub record Whole (start : ℕ) (xs : List A) (next end most : ℕ) : Type 0 where
    pub row : Row start xs end
    pub ended : next ≡ end
    pub count : length xs ≤ most

module _ {A : Type 0} (f : ℕ → ℕ → Decoded A) where
  -- items up to the end
  items_end : (most : ℕ) (xs : List A) (end : ℕ) → items f most xs end end ≡ decoded xs end
  unfolding items
  items_end zero xs end = ends xs end
  items_end (suc most) xs end = rw (eq-eqb end end refl) refl

  -- one item more
  items_more : (most : ℕ) (xs : List A) {at end n : ℕ} {x : A} → at < end → f at end ≡ decoded x n → items f (suc most) xs at end ≡ items f most (x ∷ xs) n end
  unfolding items
  items_more most xs {at} {end} {n} h e = rw (ne_eqb at end (omega arith), e) refl

module _ {A : Type 0} {byte : ℕ → ℕ} {f : ℕ → ℕ → Decoded A} {w : A → Bytes} {good : A → Type 0} where
  -- a row that stands is read, and then what follows it
  items-row : Reads byte w good f → {xs : List A} → All good xs → (at end most : ℕ) → Stands byte at (written w xs)
      → at + length (written w xs) ≤ end → items f (length xs + most) [] at end ≡ items f most xs (at + length (written w xs)) end
  items-row r none at end most s h =
      let p : 0 + most ≡ most = omega arith in
      let q : at + 0 ≡ at = omega arith in
      rw (p, q) refl
  items-row r (more {x = x} {xs} g gs) at end most s h =
      let p : suc (length xs) + most ≡ length xs + suc most = omega arith in
      let l = length-append (written w xs) (w x) in
      let q : at + length (written w xs) + length (w x) ≡ at + length (written w xs ++ w x) = omega arith in
      let e = r.read end g (stands_right (written w xs) (w x) s) (omega arith) in
      ap (λ m. items f m [] at end) p
      ∙ items-row r gs at end (suc most) (stands_left (written w xs) (w x) s) (omega arith)
      ∙ items_more f most xs (omega (arith, r.some x)) e
      ∙ ap (λ m. items f most (x ∷ xs) m end) q

  -- a row that stands is read
  pub read-items : Reads byte w good f → {xs : List A} → All good xs → {at end most : ℕ} → length xs ≤ most → Stands byte at (written w xs)
      → at + length (written w xs) ≡ end → items f most [] at end ≡ decoded xs end
  read-items r {xs} gs {at} {end} {most} h s e =
      let p : length xs + (most - length xs) ≡ most = omega arith in
      ap (λ m. items f m [] at end) (sym p)
      ∙ items-row r gs at end (most - length xs) s (omega arith)
      ∙ ap (λ m. items f (most - length xs) xs m end) e
      ∙ items_end f (most - length xs) xs end

-- how a reading of items went on: to the end, or by one item more
data Next {A : Type 0} (f : ℕ → ℕ → Decoded A) (most : ℕ) (xs : List A) (at end : ℕ) (ys : List A) (n : ℕ) : Type 0 where
  done : at ≡ end → ◌≡◌ {A = Decoded (List A)} (decoded xs at) (decoded ys n) → Next f most xs at end ys n
  item : First (f at end) (λ x m. items f most (x ∷ xs) m end) ys n → Next f most xs at end ys n

-- a reading went on in one of the two ways
next : {A : Type 0} (f : ℕ → ℕ → Decoded A) (most : ℕ) (xs : List A) (at end : ℕ) {ys : List A} {n : ℕ} → items f (suc most) xs at end ≡ decoded ys n → Next f most xs at end ys n
unfolding items
next {A} f most xs at end {ys} {n} e = go (eqb at end) refl e
  where
    go : (t : Bool) → eqb at end ≡ t → pick t (decoded xs at) (then (f at end) (λ x m. items f most (x ∷ xs) m end)) ≡ decoded ys n → Next f most xs at end ys n
    go true p q = done (eqb-true at end p) q
    go false p q = item (first (f at end) (λ x m. items f most (x ∷ xs) m end) q)

module _ {A : Type 0} {byte : ℕ → ℕ} {w : A → Bytes} {good : A → Type 0} where
  -- the same item
  pub item_same : {at m n : ℕ} {x y : A} → x ≡ y → m ≡ n → Item byte w good at x m → Item byte w good at y n
  item_same p q i = rw (p, q) at i

  -- a row of nothing
  pub row_nil : (start : ℕ) → Row byte w good start [] start
  row_nil start = record { stands = stands_nil start; upto = omega arith; each = none }

  -- a row, and one item behind it
  row_more : {start at n : ℕ} {xs : List A} {x : A} → Row byte w good start xs at → Item byte w good at x n → Row byte w good start (x ∷ xs) n
  row_more {xs = xs} {x} r i =
      record {
        stands = stands_append r.stands (stands_at (sym r.upto) i.stands);
        upto = omega (arith, length-append (written w xs) (w x), r.upto, i.upto);
        each = more i.sound r.each;
      }

  -- a row that is read up to the end
  row_end : {start at end n most : ℕ} {xs ys : List A} → Row byte w good start xs at → at ≡ end → ◌≡◌ {A = Decoded (List A)} (decoded xs at) (decoded ys n)
      → length xs ≤ most → Whole byte w good start ys n end most
  row_end {xs = xs} {ys} r p q h = let e : xs ≡ ys = cc in record { row = rw (e, p) at r; ended = cc; count = rw e at h }

  -- what is read behind a row is a longer row, up to the end
  write_behind : {f : ℕ → ℕ → Decoded A} → Writes byte w good f → {start : ℕ} (at end : ℕ) {n : ℕ} (most : ℕ) {xs ys : List A} → Row byte w good start xs at
      → items f most xs at end ≡ decoded ys n → Whole byte w good start ys n end (length xs + most)
  unfolding items
  write_behind k at end zero {xs} r e =
      let t = passed (eqb at end) xs at at e in
      row_end r (eqb-true at end t.test) (λ i. decoded (t.value i) (t.next i)) (omega arith)
  write_behind {f} k {start} at end {n} (suc most) {xs} {ys} r e =
      elim (next f most xs at end e) [
        | done p q ↦ row_end r p q (omega arith)
        | item m ↦
            let c : suc (length xs) + most ≡ length xs + suc most = omega arith in
            rw c at (write_behind k m.next end most (row_more r (k.wrote at end m.read)) m.rest)
      ]

  -- items that are read are written back
  pub write_items : {f : ℕ → ℕ → Decoded A} → Writes byte w good f → (at end most : ℕ) {n : ℕ} {xs : List A} → items f most [] at end ≡ decoded xs n → Whole byte w good at xs n end most
  write_items k at end most {n} {xs} e =
      let c : 0 + most ≡ most = omega arith in
      rw c at (write_behind k at end most (row_nil at) e)
