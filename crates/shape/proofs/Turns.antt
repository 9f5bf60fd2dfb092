-- Zeroing the literals of a copy field by field: what holds at each turn, and what it comes to.
use Prim.Native.Nat.{ℕ, zero, suc, ◌+◌, ◌-◌, ◌≤◌, ◌<◌}
use native.Mathlib.Omega.{arith}
use mathlib.Core.Bool.{Bool, true, false}
use mathlib.Core.Path.{◌≡◌, refl, sym, ap, subst, ◌∙◌}
use lib.ListN.{length, set, replicate, length-set}
use lib.Seq.{sets, length-sets, get_or-set_same, get_or-set_other, ext_get_or}
use lib.Dec.{leb, ltb, eqb}
use borrow.Author.Tests.{eqb-true, eqb-false, lt-ltb, le-ltb, ltb-true, ltb-false, leb-true, leb-false}
use Rattle.definition.specs.Basic.{Bytes, byte_at, pick, both}
use Rattle.definition.specs.Limit.{tree_limit}
use Rattle.definition.specs.Field.{bytes}
use Rattle.definition.specs.Shape.{blanked, shape}
use Rattle.definition.proofs.Basic.{pick_true, pick_false}
use Rattle.definition.proofs.ReadShape.{length-shape}
use Rattle.shape.specs.Fields.{is_literal, own_end, own_literal}
use Rattle.shape.specs.Promise.{IsRead}
use Rattle.shape.specs.Heads.{NextIs, Ended}
use Rattle.shape.specs.declared.heads.Heads.{Heads}
use Rattle.field.specs.Layout.{after, Whole}
use Rattle.shape.proofs.Scan.{Scan, own-end, scan-on, literal_leaf}
use Rattle.shape.proofs.ReadScan.{lits, scan_tree}
use Rattle.shape.proofs.Within.{read_small}

-- zeros from an offset on: before them, among them, behind them
zeros_before : (k : ℕ) (l : Bytes) (from i : ℕ) → i < from → byte_at (sets l from (replicate k 0)) i ≡ byte_at l i
zeros_before zero l from i h = refl
zeros_before (suc k) l from i h =
    zeros_before k (set l from 0) (suc from) i (omega arith) ∙ get_or-set_other l from i 0 0 (λ e. omega arith)

zeros_among : (k : ℕ) (l : Bytes) (from i : ℕ) → from ≤ i → i < from + k → from + k ≤ length l → byte_at (sets l from (replicate k 0)) i ≡ 0
zeros_among zero l from i h g r = absurd (omega arith)
zeros_among (suc k) l from i h g r =
    go (eqb i from) refl (λ p. zeros_among k (set l from 0) (suc from) i p (omega arith) (simp length-set (omega arith)))
  where
    go : (b : Bool) → eqb i from ≡ b → (suc from ≤ i → byte_at (sets (set l from 0) (suc from) (replicate k 0)) i ≡ 0)
        → byte_at (sets (set l from 0) (suc from) (replicate k 0)) i ≡ 0
    go true e later =
        let z = eqb-true i from e in ap (byte_at (sets (set l from 0) (suc from) (replicate k 0))) z ∙ zeros_before k (set l from 0) (suc from) from (omega arith) ∙ get_or-set_same l from 0 0 (omega arith)
    go false e later = let ne = eqb-false i from e in later (omega arith)

zeros_behind : (k : ℕ) (l : Bytes) (from i : ℕ) → from + k ≤ i → byte_at (sets l from (replicate k 0)) i ≡ byte_at l i
zeros_behind zero l from i h = refl
zeros_behind (suc k) l from i h =
    zeros_behind k (set l from 0) (suc from) i (omega arith) ∙ get_or-set_other l from i 0 0 (λ e. omega arith)

-- at an offset, with the copy so far: the fields behind it are left, and the literals before it are zero
pub record Turn (tree : Bytes) (at : ℕ) (out : Bytes) : Type 0 where
  pub left : Scan (byte_at tree) (lits tree) at (length tree)
  pub small : length tree ≤ tree_limit
  pub long : length out ≡ length tree
  pub front : (i : ℕ) → i < length tree → byte_at out i ≡ pick (ltb i at) (blanked (lits tree) (byte_at tree) i) (byte_at tree i)

-- at the start
turn_begins : {tree : Bytes} → IsRead tree → Turn tree 0 tree
turn_begins {tree} r =
    record {
      left = scan_tree tree r.reads;
      small = read_small tree r.reads;
      long = refl;
      front = λ i h. sym (ap (λ b. pick b (blanked (lits tree) (byte_at tree) i) (byte_at tree i)) (le-ltb i 0 (omega arith)));
    }

-- a field is left
record Next (tree : Bytes) (at : ℕ) : Type 0 where
  pub own : (i : ℕ) → at ≤ i → i < own_end (byte_at tree) at → lits tree i ≡ own_literal (byte_at tree) at i
  pub rest : Scan (byte_at tree) (lits tree) (own_end (byte_at tree) at) (length tree)

next_of : (tree : Bytes) {at n : ℕ} → n ≡ length tree → at < n → Scan (byte_at tree) (lits tree) at n → Next tree at
next_of tree e h (Scan.done at) = absurd (omega arith)
next_of tree {at} e h (Scan.step own s) = record { own = own; rest = subst (λ n. Scan (byte_at tree) (lits tree) (own_end (byte_at tree) at) n) e s }

-- where a field is left, its own bytes end in the tree
turn-field : {tree out : Bytes} {at : ℕ} → Turn tree at out → at < length tree → own_end (byte_at tree) at ≤ length tree
turn-field {tree} t h = scan-on (next_of tree refl h t.left).rest

-- where the zeros begin
from_low : (t at end from : ℕ) → at + 3 ≤ end → from ≡ pick (is_literal t) (at + 3) end → (at + 3 ≤ from) × (from ≤ end)
from_low t at end from h e = go (is_literal t) e
  where
    go : (b : Bool) → from ≡ pick b (at + 3) end → (at + 3 ≤ from) × (from ≤ end)
    go true e = (omega arith, omega arith)
    go false e = (omega arith, omega arith)

module _ {tree out : Bytes} {at : ℕ} (t : Turn tree at out) (h : at < length tree) (end from : ℕ) (p : end ≡ own_end (byte_at tree) at) (q : from ≡ pick (is_literal (byte_at tree at)) (at + 3) end) where
  abbrev Before : ℕ → ℕ
  Before i = byte_at tree i

  abbrev After : ℕ → ℕ
  After i = blanked (lits tree) (byte_at tree) i

  abbrev stored : Bytes
  stored = sets out from (replicate (end - from) 0)

  room_end : at + 3 ≤ end
  room_end = omega (arith, own-end (byte_at tree) at)

  end_room : end ≤ length tree
  end_room = omega (arith, turn-field t h)

  low : (at + 3 ≤ from) × (from ≤ end)
  low = from_low (byte_at tree at) at end from room_end q

  -- what a byte is so far
  done_at : (i : ℕ) → i < at → i < length tree → byte_at out i ≡ After i
  done_at i l r = t.front i r ∙ ap (λ b. pick b (After i) (Before i)) (lt-ltb i at l)

  left_at : (i : ℕ) → at ≤ i → i < length tree → byte_at out i ≡ Before i
  left_at i l r = t.front i r ∙ ap (λ b. pick b (After i) (Before i)) (le-ltb i at l)

  -- before the field
  front_before : (i : ℕ) → i < at → byte_at stored i ≡ After i
  front_before i l = zeros_before (end - from) out from i (omega (arith, low.0)) ∙ done_at i l (omega arith)

  -- behind it
  front_behind : (i : ℕ) → end ≤ i → byte_at stored i ≡ byte_at out i
  front_behind i l = zeros_behind (end - from) out from i (omega (arith, low.1))

  -- within it
  front_within : (i : ℕ) → at ≤ i → i < end → byte_at stored i ≡ After i
  front_within i l r = go (is_literal (byte_at tree at)) refl (leb (at + 3) i) refl
    where
      own : lits tree i ≡ own_literal (byte_at tree) at i
      own = (next_of tree refl h t.left).own i l (omega arith)

      is : (a b : Bool) → is_literal (byte_at tree at) ≡ a → leb (at + 3) i ≡ b → lits tree i ≡ both a b
      is a b e f = own ∙ (λ j. both (e j) (f j))

      stays : byte_at stored i ≡ byte_at out i → both (is_literal (byte_at tree at)) (leb (at + 3) i) ≡ false → byte_at stored i ≡ After i
      stays e f = e ∙ left_at i l (omega (arith, end_room)) ∙ sym (ap (λ b. pick b 0 (Before i)) (own ∙ f))

      go : (a : Bool) → is_literal (byte_at tree at) ≡ a → (b : Bool) → leb (at + 3) i ≡ b → byte_at stored i ≡ After i
      go true e true f =
          let g : from ≡ at + 3 = q ∙ ap (λ b. pick b (at + 3) end) e in
          let k = leb-true (at + 3) i f in
          zeros_among (end - from) out from i (omega arith) (omega (arith, low.1)) (omega (arith, low.1, end_room, t.long))
          ∙ sym (ap (λ b. pick b 0 (Before i)) (is true true e f))
      go true e false f =
          let g : from ≡ at + 3 = q ∙ ap (λ b. pick b (at + 3) end) e in
          let k = leb-false (at + 3) i f in
          stays (zeros_before (end - from) out from i (omega arith)) (λ j. both (e j) (f j))
      go false e b f =
          let g : from ≡ end = q ∙ ap (λ b. pick b (at + 3) end) e in
          stays (zeros_before (end - from) out from i (omega arith)) (λ j. both (e j) (f j))

  -- a turn further
  pub turn_again : (out' : Bytes) → out' ≡ stored → Turn tree end out'
  turn_again out' e =
      record {
        left = subst (λ n. Scan (byte_at tree) (lits tree) n (length tree)) (sym p) (next_of tree refl h t.left).rest;
        small = t.small;
        long = ap length e ∙ length-sets out from (replicate (end - from) 0) ∙ t.long;
        front = λ i r. ap (λ b. byte_at b i) e ∙ go i r (ltb i at) refl (ltb i end) refl;
      }
    where
      go : (i : ℕ) → i < length tree → (a : Bool) → ltb i at ≡ a → (b : Bool) → ltb i end ≡ b
          → byte_at stored i ≡ pick (ltb i end) (After i) (Before i)
      go i r true x b y =
          front_before i (ltb-true i at x)
          ∙ sym (ap (λ b. pick b (After i) (Before i)) (lt-ltb i end (omega (arith, ltb-true i at x, room_end))))
      go i r false x true y = front_within i (ltb-false i at x) (ltb-true i end y) ∙ sym (ap (λ b. pick b (After i) (Before i)) y)
      go i r false x false y =
          front_behind i (ltb-false i end y) ∙ left_at i (ltb-false i at x) r ∙ sym (ap (λ b. pick b (After i) (Before i)) y)

-- the byte at an offset among them
at_bytes : (v : ℕ → ℕ) (a n i : ℕ) → i < n → byte_at (bytes v a n) i ≡ v (a + i)
at_bytes v a zero i h = absurd (omega arith)
at_bytes v a (suc n) zero h = ap v (omega arith)
at_bytes v a (suc n) (suc i) h = let e : a + 1 + i ≡ a + suc i = omega arith in at_bytes v (a + 1) n i (omega arith) ∙ ap v e

shape_at : (tree : Bytes) (i : ℕ) → i < length tree → byte_at (shape tree) i ≡ blanked (lits tree) (byte_at tree) i
unfolding shape
shape_at tree i h =
    let e : 0 + i ≡ i = omega arith in at_bytes (blanked (lits tree) (byte_at tree)) 0 (length tree) i h ∙ ap (blanked (lits tree) (byte_at tree)) e

-- at the end
turn_ends : {tree out : Bytes} {at : ℕ} → Turn tree at out → length tree ≤ at → out ≡ shape tree
turn_ends {tree} {out} {at} t h = ext_get_or 0 out (shape tree) (t.long ∙ sym (length-shape tree)) go
  where
    go : (i : ℕ) → i < length out → byte_at out i ≡ byte_at (shape tree) i
    go i r =
        let l : i < length tree = omega (arith, t.long) in
        t.front i l ∙ ap (λ b. pick b (blanked (lits tree) (byte_at tree) i) (byte_at tree i)) (lt-ltb i at (omega arith))
        ∙ sym (shape_at tree i l)

-- going over the heads of a tree, with the copy so far
pub record Going (tree : Bytes) (s : Heads) (out : Bytes) : Type 0 where
  pub over : s.tree.now ≡ tree
  pub turn : Turn tree s.at out

-- where the loop begins
pub going_begins : {tree : Bytes} {s n : Heads} → s ≡ n → n.tree.now ≡ tree → n.at ≡ 0 → IsRead tree → (out : Bytes) → out ≡ tree
    → Going tree s out
going_begins {tree} {s} e p q r out o =
    record {
      over = ap (λ (s : Heads). s.tree.now) e ∙ p;
      turn = subst (λ k. Turn tree k out) (sym (ap (λ (s : Heads). s.at) e ∙ q)) (subst (Turn tree 0) (sym o) (turn_begins r));
    }

-- a turn of the loop
module _ {tree out : Bytes} {s t : Heads} {at : ℕ} (g : Going tree s out) (n : NextIs s at t) where
  here : Turn tree at out
  here = subst (λ k. Turn tree k out) (sym n.here) g.turn

  -- the head stands in the tree
  pub going_before : at < length tree
  going_before = omega (arith, n.here, n.head, ap length g.over)

  next : t.at ≡ own_end (byte_at tree) at
  next = n.behind ∙ (λ i. own_end (byte_at (g.over i)) (sym n.here i))

  goes : {out' : Bytes} → Turn tree (own_end (byte_at tree) at) out' → Going tree t out'
  goes {out'} u = record { over = n.tree ∙ g.over; turn = subst (λ k. Turn tree k out') (sym next) u }

  -- it is no literal
  pub going_past : is_literal (byte_at tree at) ≡ false → Going tree t out
  going_past e =
      let m = own_end (byte_at tree) at in
      let z : 0 ≡ m - m = omega arith in
      goes (turn_again here going_before m m refl (sym (pick_false (at + 3) m e)) out (ap (λ k. sets out m (replicate k 0)) z))

  module _ (e : is_literal (byte_at tree at) ≡ true) where
    passed : own_end (byte_at tree) at ≡ after tree at
    passed = pick_true (after tree at) (at + 3) (literal_leaf (byte_at tree at) e)

    -- it is a literal: it stands whole, there is room for zeros, and they are put
    pub going_whole : Whole tree at
    going_whole = record { fits = omega (arith, passed, turn-field here going_before) }

    pub going_room : {k : ℕ} → k ≡ after tree at → (at + 3 ≤ k) × (k ≤ length out)
    going_room p = (omega arith, omega (arith, passed, turn-field here going_before, here.long))

    pub going_zeroed : {k : ℕ} (out' : Bytes) → k ≡ after tree at → out' ≡ sets out (at + 3) (replicate (k - (at + 3)) 0)
        → Going tree t out'
    going_zeroed {k} out' p q =
        let m = own_end (byte_at tree) at in
        goes (turn_again here going_before m (at + 3) refl (sym (pick_true (at + 3) m e)) out' (q ∙ ap (λ k. sets out (at + 3) (replicate (k - (at + 3)) 0)) (p ∙ sym passed)))

-- no head is left
pub going_ends : {tree out : Bytes} {s : Heads} → Going tree s out → Ended s → out ≡ shape tree
going_ends {tree} {out} {s} g e = turn_ends g.turn (go (ltb s.at (length tree)) refl)
  where
    go : (b : Bool) → ltb s.at (length tree) ≡ b → length tree ≤ s.at
    go true p =
        let l = ltb-true s.at (length tree) p in absurd (omega (arith, turn-field g.turn l, own-end (byte_at tree) s.at, e.short, ap length g.over))
    go false p = ltb-false s.at (length tree) p
