-- The marks of a function's part: what is set stays set, and a name without a mark is not among marked entries.
use Prim.Native.Nat.{ℕ, zero, suc, ◌+◌, ◌*◌, ◌/◌, ◌%◌, ◌^◌, ◌≤◌, ◌<◌}
use mathlib.Core.Path.{◌≡◌, refl, ◌∙◌}
use mathlib.Core.Bool.{Bool, true, false}
use mathlib.Core.List.{List, []}
use mathlib.Core.Option.{none}
use native.Mathlib.Omega.{arith}
use lib.Bits.{bit_or, or_shr, or_mod, or_comm}
use lib.Pow.{shl_exact, shl-shr}
use lib.Dec.{eqb}
use lib.ListN.{length, get_or, set, length-set}
use lib.Seq.{get_or-set_same, get_or-set_other}
use borrow.Author.Tests.{eqb-true, eqb-false}
use Rattle.definition.specs.Basic.{Bytes}
use Rattle.definition.specs.SymbolTable.{Symbol, same, find, Resolved, resolve}
use Rattle.field.specs.Layout.{content}
use Rattle.symbol_table.specs.Layout.{part_size, entries_at, originals_at, marked_at, marks_at, marks_count, name_in, symbol_of, code_of, entry_of, back, entries, table_of, Sized, GoodTable, IsMarked, Marked}
use Rattle.symbol_table.specs.Store.{mark_in}
use Rattle.symbol_table.specs.Contract.{SameBelow, BeginsMarks, MarksNext, Known, Outermost}
use Rattle.symbol_table.proofs.Back.{last_or_before, back_same}
use Rattle.symbol_table.proofs.Codes.{code_far}
use Rattle.symbol_table.proofs.Names.{differs}

-- a bit of a disjunction
or_bit : (v w k : ℕ) → bit_or v w / 2 ^ k % 2 ≡ bit_or (v / 2 ^ k % 2) (w / 2 ^ k % 2)
or_bit v w k = rw (or_shr v w k) (or_mod (v / 2 ^ k) (w / 2 ^ k) 1)

one_or : (y : ℕ) → y < 2 → bit_or 1 y ≡ 1
one_or zero h = refl
one_or (suc zero) h = refl
one_or (suc (suc y)) h = absurd (omega arith)

bit_kept : (v w k : ℕ) → v / 2 ^ k % 2 ≡ 1 → bit_or v w / 2 ^ k % 2 ≡ 1
bit_kept v w k h = or_bit v w k ∙ rw h (one_or (w / 2 ^ k % 2) (omega arith))

bit_new : (v k : ℕ) → bit_or v (2 ^ k) / 2 ^ k % 2 ≡ 1
bit_new v k =
    let e : 1 * 2 ^ k ≡ 2 ^ k = omega arith in
    let h : 2 ^ k / 2 ^ k ≡ 1 = rw e at (shl-shr 1 k) in
    rw (or_comm v (2 ^ k)) (bit_kept (2 ^ k) v k (rw h))

pub shifted : (k : ℕ) → k < 32 → (1 * 2 ^ k) % 2 ^ 32 ≡ 2 ^ k
shifted k h = let e : 1 * 2 ^ k ≡ 2 ^ k = omega arith in shl_exact 1 k 32 (omega arith) (omega arith) ∙ e

-- a bit more in a number of a list
module _ (r : List ℕ) (i w : ℕ) (inside : i < length r) where
  set_new : (k : ℕ) → get_or (set r i (bit_or (get_or r i 0) (2 ^ k))) i 0 / 2 ^ k % 2 ≡ 1
  set_new k = rw (get_or-set_same r i (bit_or (get_or r i 0) (2 ^ k)) 0) (bit_new (get_or r i 0) k)

  set_kept : (j k : ℕ) → get_or r j 0 / 2 ^ k % 2 ≡ 1 → get_or (set r i (bit_or (get_or r i 0) w)) j 0 / 2 ^ k % 2 ≡ 1
  set_kept j k h = go (eqb j i) refl
    where
      go : (t : Bool) → eqb j i ≡ t → get_or (set r i (bit_or (get_or r i 0) w)) j 0 / 2 ^ k % 2 ≡ 1
      go true p =
          let e : j ≡ i = eqb-true j i p in
          rw (e, get_or-set_same r i (bit_or (get_or r i 0) w) 0) (bit_kept (get_or r i 0) w k (rw e at h))
      go false p = rw (get_or-set_other r i j (bit_or (get_or r i 0) w) 0 (eqb-false j i p)) h

-- one entry more is marked
module _ (r q : List ℕ) (code : ℕ) (size : length q ≡ part_size) (b : BeginsMarks r q) where
  next_count : (j : ℕ) → (j ≡ marked_at → ⊥) → get_or (set q marked_at (get_or r marked_at 0 + 1)) j 0 ≡ get_or q j 0
  next_count j d = get_or-set_other q marked_at j (get_or r marked_at 0 + 1) 0 d

  pub next_marked : MarksNext code r (mark_in (set q marked_at (get_or r marked_at 0 + 1)) code)
  unfolding mark_in
  next_marked =
      let v = get_or r marked_at 0 + 1 in
      let q₁ = set q marked_at v in
      let i = marks_at + code % marks_count / 32 in
      let w = 2 ^ (code % marks_count % 32) in
      let inside : i < length q₁ = omega (arith, length-set q marked_at v) in
      record {
        same = λ j l. get_or-set_other q₁ i j (bit_or (get_or q₁ i 0) w) 0 (omega arith) ∙ next_count j (omega arith) ∙ b.same j (omega arith);
        count = get_or-set_other q₁ i marked_at (bit_or (get_or q₁ i 0) w) 0 (omega arith) ∙ get_or-set_same q marked_at v 0 (omega arith);
        kept = λ c p k. set_kept q₁ i w inside (marks_at + c % marks_count / 32) (c % marks_count % 32) (rw (next_count (marks_at + c % marks_count / 32) (omega arith)) (b.kept c p k));
        new = λ l. set_new q₁ i 0 inside (code % marks_count % 32);
      }

-- marks that stay right: the entries that are marked stay, and so do the marks
module _ (ws gs : List Bytes) (tree : Bytes) (r r' : List ℕ) where
  pub marked_kept : ((j : ℕ) → entries_at ≤ j → j < entries_at + entries r → get_or r' j 0 ≡ get_or r j 0) → entries r ≤ entries r' → get_or r' marked_at 0 ≡ get_or r marked_at 0
      → ((c : ℕ) → 0 < get_or r marked_at 0 → IsMarked r c → IsMarked r' c) → Marked ws gs tree r → Marked ws gs tree r'
  marked_kept stay more count kept m =
      record {
        order = omega (arith, m.order);
        each = λ i l s e. kept (code_of s) (omega arith) (m.each i (omega arith) s (rw (stay (entries_at + i) (omega arith) (omega (arith, m.order))) at e));
      }

  module _ (h : SameBelow marked_at r r') (sized : Sized r) where
    pub entries_same : entries r' ≡ entries r
    entries_same = rw (h 0 (omega arith), h 1 (omega arith), h 2 (omega arith))

    pub table_same : table_of tree r' ≡ table_of tree r
    unfolding table_of
    table_same =
        rw (
          entries_same,
          h 1 (omega arith),
          h 2 (omega arith),
          back_same (entry_of tree) r entries_at r' (entries r) (λ j a b. h j (omega arith)),
          back_same symbol_of r originals_at r' (get_or r 2 0) (λ j a b. h j (omega arith)),
        )

    pub good_same : length r' ≡ part_size → GoodTable tree r → GoodTable tree r'
    good_same size g =
        record {
          sized = omega (arith, h 0 (omega arith), h 1 (omega arith), h 2 (omega arith));
          each = λ i l. rw (h (entries_at + i) (omega (arith, entries_same))) (g.each i (omega (arith, entries_same)));
        }

    pub marked_next : (code : ℕ) → MarksNext code r r' → get_or r marked_at 0 < entries r → Outermost ws gs (content tree (name_in (get_or r (entries_at + get_or r marked_at 0) 0))) code → Marked ws gs tree r → Marked ws gs tree r'
    marked_next code x room o m =
        record {
          order = omega (arith, entries_same, x.count);
          each = λ i l.
              last_or_before
              (λ k. (s : Symbol) → resolve ws gs (content tree (name_in (get_or r' (entries_at + k) 0))) [] ≡ Resolved.found s [] → IsMarked r' (code_of s))
              (get_or r marked_at 0) i (omega (arith, x.count))
              (λ s e.
              let w = o.whole s (rw (h (entries_at + get_or r marked_at 0) (omega arith)) at e) in
              rw w.1 (x.new w.0))
              (λ b s e. x.kept (code_of s) (omega arith) (m.each i b s (rw (h (entries_at + i) (omega arith)) at e)));
        }

-- a name whose code has no mark is not among the entries, where all are marked
module _ (ws gs : List Bytes) (tree : Bytes) (r : List ℕ) (n : Bytes) where
  none_same : (k : ℕ) → ((i : ℕ) → i < k → same n (content tree (name_in (get_or r (entries_at + i) 0))) ≡ false) → find n (back (entry_of tree) r entries_at k) ≡ none
  unfolding find back
  none_same zero h = refl
  none_same (suc k) h = rw (h k (omega arith)) (none_same k (λ i l. h i (omega arith)))

  pub none_marked : (c : ℕ) → Marked ws gs tree r → get_or r marked_at 0 ≡ entries r → 768 ≤ c → Known ws gs n c → (IsMarked r c → ⊥) → find n (table_of tree r).entries ≡ none
  unfolding table_of
  none_marked c m all far known clear =
      none_same (entries r)
      (λ i l.
      differs n (content tree (name_in (get_or r (entries_at + i) 0)))
      (λ e. clear (rw (code_far c far) at (m.each i (omega arith) (symbol_of c) (rw (← e) (known far))))))
