-- What a store in a function's part means: the table after it.
use Prim.Native.Nat.{ℕ, zero, suc, ◌+◌, ◌/◌, ◌%◌, ◌≤◌, ◌<◌, min}
use mathlib.Core.Path.{◌≡◌, refl, ◌∙◌}
use mathlib.Core.Logic.{◌≢◌}
use mathlib.Core.List.{List, [], ◌∷◌}
use native.Mathlib.Numerals.{add-one}
use native.Mathlib.Omega.{arith}
use lib.ListN.{length, get_or, set, take, drop, length-set, length-drop}
use lib.Seq.{get_or-set_same, get_or-set_other, lt-length-set, drop-cons}
use Rattle.definition.specs.Basic.{Bytes}
use Rattle.definition.specs.Limit.{locals_limit, free_limit}
use Rattle.definition.specs.SymbolTable.{with_local, with_free, named}
use Rattle.field.specs.Layout.{len, content}
use Rattle.symbol_table.specs.Name.{Stands, hash_of}
use Rattle.symbol_table.specs.Layout.{part_size, entries_at, originals_at, marked_at, marks_at, marks_count, symbol_of, packed, entry_of, back, entries, originals_of, table_of, Sized, GoodEntry, GoodTable, GoodPart}
use Rattle.symbol_table.specs.Store.{entered_in, local_in, free_in}
use Rattle.symbol_table.specs.Contract.{IsName}
use Rattle.symbol_table.proofs.Back.{last_or_before, back_same, length_back}
use Rattle.symbol_table.proofs.Codes.{symbol_local, symbol_free, name-in, code-in, tag-in}
use Rattle.symbol_table.proofs.Marking.{marked_kept}

-- an entry more, the others as they were
module _ (tree : Bytes) (name code hash : ℕ) (below : name < 32768) (small : code < 1024) where
  entry_is : entry_of tree (packed name code hash) ≡ record { name = content tree name; symbol = symbol_of code }
  entry_is = rw (name-in name code hash below small, code-in name code hash below small)

  entry_good : IsName tree name hash → GoodEntry tree (packed name code hash)
  entry_good h =
      let n = name-in name code hash below small in
      record { stands = rw n h.stands; tag = tag-in name code hash below small ∙ rw (n, ← h.is) }

  module _ (r r' : List ℕ) (more : entries r' ≡ suc (entries r)) (new : get_or r' (entries_at + entries r) 0 ≡ packed name code hash)
      (kept : (j : ℕ) → entries_at ≤ j → j < entries_at + entries r → get_or r' j 0 ≡ get_or r j 0) where
    entries_more : back (entry_of tree) r' entries_at (entries r') ≡ record { name = content tree name; symbol = symbol_of code } ∷ back (entry_of tree) r entries_at (entries r)
    unfolding back
    entries_more = rw (more, new, entry_is, back_same (entry_of tree) r entries_at r' (entries r) kept)

    entries_good : ((i : ℕ) → i < entries r → GoodEntry tree (get_or r (entries_at + i) 0)) → IsName tree name hash → (i : ℕ) → i < entries r' → GoodEntry tree (get_or r' (entries_at + i) 0)
    entries_good old h i l =
        last_or_before (λ k. GoodEntry tree (get_or r' (entries_at + k) 0)) (entries r) i (omega arith) (rw new (entry_good h))
        (λ lt. rw (kept (entries_at + i) (omega arith) (omega arith)) (old i lt))

module _ (r : List ℕ) (name hash : ℕ) (h : Sized r) (room : get_or r 1 0 < locals_limit) (below : name < 32768) where
  local_at : (j : ℕ) → j ≢ 1 → j ≢ entries_at + entries r → get_or (local_in r name hash) j 0 ≡ get_or r j 0
  unfolding local_in
  local_at j a b = rw (get_or-set_other, get_or-set_other)

  local_size : length (local_in r name hash) ≡ part_size
  unfolding local_in
  local_size = simp length-set h.size

  local_new : get_or (local_in r name hash) (entries_at + entries r) 0 ≡ packed name (256 + get_or r 1 0) hash
  unfolding local_in
  local_new =
      let a : entries_at + entries r ≢ 1 = omega arith in
      let b : entries_at + entries r < length r = omega arith in
      rw (get_or-set_other, get_or-set_same)

  pub local_count : get_or (local_in r name hash) 1 0 ≡ get_or r 1 0 + 1
  unfolding local_in
  local_count = let b : 1 < length r = omega arith in rw (get_or-set_same, lt-length-set)

  local_more : entries (local_in r name hash) ≡ suc (entries r)
  local_more = rw (local_at 0 (omega arith) (omega arith), local_count, local_at 2 (omega arith) (omega arith)) (omega arith)

  pub local_table : (tree : Bytes) → table_of tree (local_in r name hash) ≡ with_local (content tree name) (table_of tree r)
  unfolding table_of
  local_table tree =
      rw (
        entries_more tree name (256 + get_or r 1 0) hash below (omega arith) r (local_in r name hash) local_more local_new (λ j a b. local_at j (omega arith) (omega arith)),
        local_count,
        local_at 2 (omega arith) (omega arith),
        symbol_local (get_or r 1 0) room,
        back_same symbol_of r originals_at (local_in r name hash) (get_or r 2 0) (λ j a b. local_at j (omega arith) (omega arith)),
      )

  pub local_good : (tree : Bytes) → IsName tree name hash → GoodTable tree r → GoodTable tree (local_in r name hash)
  local_good tree is good =
      record {
        sized = omega (arith, local_size, local_at 0 (omega arith) (omega arith), local_count, local_at 2 (omega arith) (omega arith));
        each = entries_good tree name (256 + get_or r 1 0) hash below (omega arith) r (local_in r name hash) local_more local_new (λ j a b. local_at j (omega arith) (omega arith)) good.each is;
      }

  pub local_marked : get_or (local_in r name hash) marked_at 0 ≡ get_or r marked_at 0
  local_marked = local_at marked_at (omega arith) (omega arith)

  pub local_part : (ws gs : List Bytes) (tree : Bytes) → IsName tree name hash → GoodPart ws gs tree r → GoodPart ws gs tree (local_in r name hash)
  local_part ws gs tree is g =
      record {
        table = local_good tree is g.table;
        marks = marked_kept ws gs tree r (local_in r name hash) (λ j a b. local_at j (omega arith) (omega arith)) (omega (arith, local_more)) local_marked
            (λ c p k. rw (local_at (marks_at + c % marks_count / 32) (omega arith) (omega arith)) k) g.marks;
      }

module _ (r : List ℕ) (name hash code : ℕ) (h : Sized r) (room : get_or r 2 0 < free_limit) (below : name < 32768) where
  free_at : (j : ℕ) → j ≢ 2 → j ≢ originals_at + get_or r 2 0 → j ≢ entries_at + entries r → get_or (free_in r name hash code) j 0 ≡ get_or r j 0
  unfolding free_in
  free_at j a b d = rw (get_or-set_other, get_or-set_other, get_or-set_other)

  free-size : length (free_in r name hash code) ≡ part_size
  unfolding free_in
  free-size = simp length-set h.size

  free_new : get_or (free_in r name hash code) (entries_at + entries r) 0 ≡ packed name (512 + get_or r 2 0) hash
  unfolding free_in
  free_new =
      let a : entries_at + entries r ≢ 2 = omega arith in
      let d : entries_at + entries r ≢ originals_at + get_or r 2 0 = omega arith in
      let b : entries_at + entries r < length r = omega arith in
      rw (get_or-set_other, get_or-set_other, get_or-set_same)

  free_original : get_or (free_in r name hash code) (originals_at + get_or r 2 0) 0 ≡ code
  unfolding free_in
  free_original =
      let a : originals_at + get_or r 2 0 ≢ 2 = omega arith in
      let b : originals_at + get_or r 2 0 < length r = omega arith in
      rw (get_or-set_other, get_or-set_same, lt-length-set)

  free-count : get_or (free_in r name hash code) 2 0 ≡ get_or r 2 0 + 1
  unfolding free_in
  free-count = let b : 2 < length r = omega arith in rw (get_or-set_same, lt-length-set)

  free_more : entries (free_in r name hash code) ≡ suc (entries r)
  free_more = rw (free_at 0 (omega arith) (omega arith) (omega arith), free_at 1 (omega arith) (omega arith) (omega arith), free-count) (omega arith)

  free_originals : originals_of (free_in r name hash code) (get_or r 2 0 + 1) ≡ symbol_of code ∷ originals_of r (get_or r 2 0)
  unfolding back
  free_originals = rw (add-one, free_original, back_same symbol_of r originals_at (free_in r name hash code) (get_or r 2 0) (λ j a b. free_at j (omega arith) (omega arith) (omega arith)))

  pub free-table : (tree : Bytes) → table_of tree (free_in r name hash code) ≡ with_free (content tree name) (symbol_of code) (table_of tree r)
  unfolding table_of
  free-table tree =
      rw (
        entries_more tree name (512 + get_or r 2 0) hash below (omega arith) r (free_in r name hash code) free_more free_new (λ j a b. free_at j (omega arith) (omega arith) (omega arith)),
        free-count,
        free_at 1 (omega arith) (omega arith) (omega arith),
        symbol_free (get_or r 2 0) (omega arith),
        free_originals,
        length_back symbol_of r originals_at (get_or r 2 0),
      )

  pub free_good : (tree : Bytes) → IsName tree name hash → GoodTable tree r → GoodTable tree (free_in r name hash code)
  free_good tree is good =
      record {
        sized = omega (arith, free-size, free_at 0 (omega arith) (omega arith) (omega arith), free-count, free_at 1 (omega arith) (omega arith) (omega arith));
        each = entries_good tree name (512 + get_or r 2 0) hash below (omega arith) r (free_in r name hash code) free_more free_new (λ j a b. free_at j (omega arith) (omega arith) (omega arith)) good.each is;
      }

  pub free_part : (ws gs : List Bytes) (tree : Bytes) → IsName tree name hash → GoodPart ws gs tree r → GoodPart ws gs tree (free_in r name hash code)
  free_part ws gs tree is g =
      record {
        table = free_good tree is g.table;
        marks = marked_kept ws gs tree r (free_in r name hash code) (λ j a b. free_at j (omega arith) (omega arith) (omega arith)) (omega (arith, free_more)) (free_at marked_at (omega arith) (omega arith) (omega arith))
            (λ c p k. rw (free_at (marks_at + c % marks_count / 32) (omega arith) (omega arith) (omega arith)) k) g.marks;
      }

four_set : (r : List ℕ) (p q s v : ℕ) → 4 ≤ length r → set (set (set (set r 0 p) 1 q) 2 s) entries_at v ≡ p ∷ q ∷ s ∷ v ∷ drop 4 r
four_set [] p q s v h = absurd (omega arith)
four_set (a ∷ []) p q s v h = absurd (omega arith)
four_set (a ∷ b ∷ []) p q s v h = absurd (omega arith)
four_set (a ∷ b ∷ c ∷ []) p q s v h = absurd (omega arith)
four_set (a ∷ b ∷ c ∷ d ∷ t) p q s v h = refl

entered_is : (r : List ℕ) (name hash n : ℕ) → 4 ≤ length r → entered_in r name hash n ≡ min n 1 ∷ 0 ∷ 0 ∷ packed name 0 hash ∷ drop 4 (set r marked_at 0)
unfolding entered_in
entered_is r name hash n h = four_set (set r marked_at 0) (min n 1) 0 0 (packed name 0 hash) (omega (arith, length-set r marked_at 0))

pub entered_unmarked : (r : List ℕ) (name hash n : ℕ) → length r ≡ part_size → get_or (entered_in r name hash n) marked_at 0 ≡ 0
unfolding entered_in
entered_unmarked r name hash n size =
    let a : marked_at ≢ entries_at = omega arith in
    let b : marked_at ≢ 2 = omega arith in
    let c : marked_at ≢ 1 = omega arith in
    let d : marked_at ≢ 0 = omega arith in
    let e : marked_at < length r = omega arith in
    rw (get_or-set_other, get_or-set_other, get_or-set_other, get_or-set_other, get_or-set_same)

module _ (tree : Bytes) (name hash : ℕ) (below : name < 32768) (here : Stands tree name) where
  entered_by : (t : List ℕ) (n : ℕ) → len tree name ≡ n → table_of tree (min n 1 ∷ 0 ∷ 0 ∷ packed name 0 hash ∷ t) ≡ named (take n (drop (name + 3) tree))
  unfolding table_of back symbol_of
  entered_by t zero e = refl
  entered_by t (suc m) e =
      let one : min (suc m) 1 + 0 + 0 ≡ 1 = omega arith in
      let inside : name + 3 < length tree = omega arith in
      rw (one, name-in name 0 hash below (omega arith), code-in name 0 hash below (omega arith), e, drop-cons tree (name + 3) 0)

  module _ (r : List ℕ) (size : length r ≡ part_size) where
    pub entered_table : table_of tree (entered_in r name hash (len tree name)) ≡ named (content tree name)
    entered_table = rw (entered_is r name hash (len tree name) (omega arith)) (entered_by (drop 4 (set r marked_at 0)) (len tree name) refl)

    pub entered_good : hash ≡ hash_of (content tree name) → GoodTable tree (entered_in r name hash (len tree name))
    entered_good is =
        rw (entered_is r name hash (len tree name) (omega arith))
        (record {
          sized = omega (arith, length-drop 4 (set r marked_at 0), length-set r marked_at 0);
          each = λ i l. let z : i ≡ 0 = omega arith in rw z (entry_good tree name 0 hash below (omega arith) (record { stands = here; is = is }));
        })

    pub entered_none : get_or (entered_in r name hash (len tree name)) 1 0 ≡ 0
    entered_none = rw (entered_is r name hash (len tree name) (omega arith))
