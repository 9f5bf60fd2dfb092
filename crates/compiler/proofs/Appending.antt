-- How names are appended to the session's.
use Prim.Native.Nat.{ℕ, zero, suc, ◌+◌, ◌-◌, ◌*◌, ◌≤◌, ◌<◌}
use native.Mathlib.Omega.{arith}
use mathlib.Core.List.{List, [], ◌∷◌, ◌++◌}
use mathlib.Core.Path.{◌≡◌, refl, sym, ap, ◌∙◌}
use lib.ListN.{length, get_or, take, drop, length-append, length-drop}
use lib.Seq.{sets, sets-eq, length-sets, length-take-le, take-nil, take-take, get_or-take}
use borrow.Author.Tests.{lt-ltb, le-ltb}
use Rattle.std.specs.List.{copy_within}
use Rattle.std.proofs.lemmas.List.{get_or-drop}
use Rattle.definition.specs.Basic.{Bytes}
use Rattle.definition.specs.Tag.{tag_name}
use Rattle.definition.specs.Session.{name_bytes, names_bytes}
use Rattle.definition.proofs.Basic.{pick_true, pick_false}
use Rattle.session.specs.Write.{heading}
use Rattle.session.proofs.Stores.{sets_append, take_sets}
use Rattle.session.proofs.Fields.{field_stored}
use Rattle.session.proofs.Sessions.{written-append}
use Rattle.field.specs.Layout.{len, content}
use Rattle.symbol_table.specs.Name.{Stands}
use Rattle.symbol_table.specs.Layout.{back, global_name, GlobalStands}
use Rattle.compiler.specs.Names.{Appends, HasName, later_names, later_fields, LaterNames}

-- Runs of numbers

module _ {A : Type 0} where
  -- two runs whose numbers stand for the same
  pub back_agree : (f : ℕ → A) (r q : List ℕ) (s n : ℕ) → ((j : ℕ) → j < n → get_or r (s + j) 0 ≡ get_or q (s + j) 0) → back f r s n ≡ back f q s n
  unfolding back
  back_agree f r q s zero e = refl
  back_agree f r q s (suc n) e = λ i. f (e n (omega arith) i) ∷ back_agree f r q s n (λ j l. e j (omega arith)) i

  -- the first ones, and the later ones in front of them
  pub back_split : (f : ℕ → A) (r : List ℕ) (s k n : ℕ) → back f r s (k + n) ≡ back f r (s + k) n ++ back f r s k
  unfolding back
  back_split f r s k zero = let e : k + 0 ≡ k = omega arith in ap (back f r s) e
  back_split f r s k (suc n) =
      let e : k + suc n ≡ suc (k + n) = omega arith in
      let p : s + (k + n) ≡ s + k + n = omega arith in
      ap (back f r s) e ∙ (λ i. f (get_or r (p i) 0) ∷ back_split f r s k n i)

-- Bytes that are there already, once more

-- the library's copy of n bytes from an offset on stores them at another
pub copied_within : (e : Bytes) (from n to : ℕ) → from + n ≤ length e → to + n ≤ length e → copy_within e from (from + n) to ≡ sets e to (take n (drop from e))
copied_within e from n to h room =
    let xs = take n (drop from e) in
    let size : length (take n (drop from e)) ≡ n = length-take-le n (drop from e) (omega (arith, length-drop from e)) in
    let m : from + n - from ≡ n = omega arith in
    ap (λ k. take to e ++ take k (drop from e) ++ drop (to + k) e) m
    ∙ ap (λ k. take to e ++ take n (drop from e) ++ drop (to + k) e) (sym size)
    ∙ sym (sets-eq xs e to (omega (arith, size)))

-- One name

-- a part that lies in a front part
part_of_front : (e : Bytes) (m i k : ℕ) → i + k ≤ m → take k (drop i (take m e)) ≡ take k (drop i e)
part_of_front e m zero k h = take-take k m e (omega arith)
part_of_front [] m (suc i) k h = ap (λ l. take k (drop (suc i) l)) (take-nil m)
part_of_front (x ∷ e) zero (suc i) k h = absurd (omega arith)
part_of_front (x ∷ e) (suc m) (suc i) k h = part_of_front e m i k (omega arith)

-- the content of a whole field
pub content-length : (b : Bytes) (v : ℕ) → Stands b v → length (content b v) ≡ len b v
content-length b v h = length-take-le (len b v) (drop (v + 3) b) (omega (arith, h, length-drop (v + 3) b))

-- the name of a global is among the session's or in the tree
pub name_old : (tree names : Bytes) (v : ℕ) → v < 65536 → global_name tree names v ≡ content names v
name_old tree names v h = pick_true (content names v) (content tree (v - 65536)) (lt-ltb v 65536 h)

pub name_new : (tree names : Bytes) (v : ℕ) → 65536 ≤ v → global_name tree names v ≡ content tree (v - 65536)
name_new tree names v h = pick_false (content names v) (content tree (v - 65536)) (le-ltb v 65536 h)

module _ (e : Bytes) (m v : ℕ) (front : m ≤ length e) (stands : Stands (take m e) v) where
  -- a field that stands in a front part ends there
  old_within : v + 3 + len (take m e) v ≤ m
  old_within = omega (arith, stands, length-take-le m e front)

  -- its length is that in the whole
  pub old_length : len (take m e) v ≡ len e v
  old_length =
      let w = old_within in
      λ i. get_or-take m e (v + 1) 0 (omega arith) i * 256 + get_or-take m e (v + 2) 0 (omega arith) i

  -- so is its content, also where bytes were stored behind
  old_content : (b : Bytes) (at : ℕ) → m ≤ at → take at b ≡ take at e → take (len e v) (drop (v + 3) b) ≡ content (take m e) v
  old_content b at h same =
      let w = old_within in
      let n = old_length in
      sym (part_of_front b at (v + 3) (len e v) (omega arith))
      ∙ ap (λ x. take (len e v) (drop (v + 3) x)) same
      ∙ part_of_front e at (v + 3) (len e v) (omega arith)
      ∙ sym (part_of_front e m (v + 3) (len e v) (omega arith))
      ∙ ap (λ k. take k (drop (v + 3) (take m e))) (sym n)

  -- a head, then the content once more
  pub old_stored : {b b' : Bytes} (at : ℕ) → m ≤ at → b ≡ sets e at (heading tag_name (len e v)) → b' ≡ sets b (at + 3) (take (len e v) (drop (v + 3) b))
      → Appends (name_bytes (content (take m e) v)) at e b' (at + (3 + len e v))
  old_stored {b} {b'} at h p q =
      let xs = content (take m e) v in
      let w = old_within in
      let x = old_content b at h (ap (take at) p ∙ take_sets e at at (heading tag_name (len e v)) (omega arith)) in
      let n : len e v ≡ length xs = sym (content-length (take m e) v stands ∙ old_length) in
      record { session = field_stored e at tag_name xs (p ∙ ap (λ n. sets e at (heading tag_name n)) n) (q ∙ ap (sets b (at + 3)) x); end = omega arith }

-- a name among the session's own lies before what is appended, and has room there
pub record OldName (e : Bytes) (at v : ℕ) : Type 0 where
  pub before : v + 3 + len e v ≤ at
  pub room : at + (3 + len e v) ≤ length e

module _ {tree e : Bytes} {at v : ℕ} (h : HasName tree e at v) where
  abbrev own : Bytes
  own = take h.names e

  own_within : h.names ≤ length e
  own_within = omega (arith, h.behind, h.room)

  pub has_old : v < 65536 → OldName e at v
  has_old l =
      let s = h.stands.old l in
      let same = ap length (name_old tree own v l) ∙ content-length own v s ∙ old_length e h.names v own_within s in
      let within = old_within e h.names v own_within s in
      let len = old_length e h.names v own_within s in
      record { before = omega (arith, h.behind); room = omega (arith, h.room) }

  pub old_appended : {b b' : Bytes} {n : ℕ} → v < 65536 → n ≡ len e v → b ≡ sets e at (heading tag_name n) → b' ≡ sets b (at + 3) (take n (drop (v + 3) b))
      → Appends (name_bytes (global_name tree own v)) at e b' (at + (3 + n))
  old_appended {b} l n p q =
      rw (name_old tree own v l, n)
      (old_stored e h.names v own_within (h.stands.old l) at h.behind (p ∙ ap (λ n. sets e at (heading tag_name n)) n) (q ∙ ap (λ n. sets b (at + 3) (take n (drop (v + 3) b))) n))

  -- a name of the tree has room too
  pub has_new : 65536 ≤ v → at + (3 + length (content tree (v - 65536))) ≤ length e
  has_new l = rw (name_new tree own v l) at h.room

  pub new_appended : {x b : Bytes} → 65536 ≤ v → x ≡ content tree (v - 65536) → b ≡ sets e at (name_bytes x) → Appends (name_bytes (global_name tree own v)) at e b (at + (3 + length x))
  new_appended l p q =
      let same = p ∙ sym (name_new tree own v l) in
      let n = ap length same in
      record { session = q ∙ ap (λ x. sets e at (name_bytes x)) same; end = omega arith }

-- Names in a row

-- the globals of a table from an index on: how many they are, and what each is
module _ (t : List ℕ) {xs : List ℕ} {m n : ℕ} (from : ℕ) (e : xs ≡ drop 1 t) (q : m ≡ n) (h : n < length t) where
  pub globals_all : n ≤ length xs
  globals_all = omega (arith, ap length e, length-drop 1 t)

  pub globals_left : length (take (m - from) (drop from xs)) ≡ n - from
  globals_left = length-take-le (m - from) (drop from xs) (omega (arith, length-drop from xs, globals_all, q)) ∙ ap (λ m. m - from) q

  pub global_at : (i : ℕ) → from + i < n → get_or (take (m - from) (drop from xs)) i 0 ≡ get_or t (1 + (from + i)) 0
  global_at i l =
      get_or-take (m - from) (drop from xs) i 0 (omega (arith, q))
      ∙ get_or-drop from xs i 0
      ∙ ap (λ l. get_or l (from + i) 0) e
      ∙ get_or-drop 1 t (from + i) 0

-- the fields of later names: that of the first, then those of the others
later_first : (tree names : Bytes) (t : List ℕ) (k to : ℕ) → k < to → later_fields tree names t k to ≡ name_bytes (global_name tree names (get_or t (1 + k) 0)) ++ later_fields tree names t (k + 1) to
unfolding back
later_first tree names t k to h =
    let f = global_name tree names in
    let n = to - (k + 1) in
    let e : to - k ≡ 1 + n = omega arith in
    let p : 1 + k + 1 ≡ 1 + (k + 1) = omega arith in
    let o : 1 + k + 0 ≡ 1 + k = omega arith in
    ap (λ m. names_bytes (later_names tree names t k m)) e
    ∙ ap names_bytes (back_split f t (1 + k) 1 n)
    ∙ written-append name_bytes (back f t (1 + k + 1) n) (back f t (1 + k) 1)
    ∙ (λ i. name_bytes (f (get_or t (o i) 0)) ++ names_bytes (back f t (p i) n))

-- the names before the k-th are stored, the next one goes to `end`: with the names that are left it comes to all of them
pub record Appending (tree : Bytes) (t : List ℕ) (from to at : ℕ) (e : Bytes) (k end : ℕ) (b : Bytes) : Type 0 where
  pub low : from ≤ k
  pub high : k ≤ to
  pub behind : at ≤ end
  pub same : length b ≡ length e
  pub front : take at b ≡ take at e
  pub left : sets b end (later_fields tree (take at e) t k to) ≡ sets e at (later_fields tree (take at e) t from to)
  pub upto : end + length (later_fields tree (take at e) t k to) ≡ at + length (later_fields tree (take at e) t from to)

module _ {tree : Bytes} {t : List ℕ} {from to at : ℕ} {e : Bytes} where
  -- none yet
  pub appending_none : LaterNames tree (take at e) t from to → Appending tree t from to at e from at e
  appending_none n = record { low = omega arith; high = n.order; behind = omega arith; same = refl; front = refl; left = refl; upto = refl }

  module _ {k end : ℕ} {b : Bytes} (a : Appending tree t from to at e k end b) where
    -- the next one
    abbrev next : Bytes
    next = name_bytes (global_name tree (take at e) (get_or t (1 + k) 0))

    -- it stands somewhere, and has room
    pub appending_stands : k < to → LaterNames tree (take at e) t from to → GlobalStands tree (take at b) (get_or t (1 + k) 0)
    appending_stands h n = rw a.front (n.each k a.low h)

    pub appending_room : k < to → at + length (later_fields tree (take at e) t from to) ≤ length e → end + (3 + length (global_name tree (take at b) (get_or t (1 + k) 0))) ≤ length b
    appending_room h r =
        let l = ap length (later_first tree (take at e) t k to h) ∙ length-append next (later_fields tree (take at e) t (k + 1) to) in
        rw a.front (omega (arith, a.upto, a.same))

    abbrev pub appending_has : {v : ℕ} → v ≡ get_or t (1 + k) 0 → k < to → LaterNames tree (take at e) t from to → at + length (later_fields tree (take at e) t from to) ≤ length e → HasName tree b end v
    appending_has p h n r = record { names = at; behind = a.behind; stands = rw p (appending_stands h n); room = rw p (appending_room h r) }

    -- one more
    pub appending_more : {b' : Bytes} {r v : ℕ} → v ≡ get_or t (1 + k) 0 → k < to → Appends (name_bytes (global_name tree (take at b) v)) end b b' r → Appending tree t from to at e (k + 1) r b'
    appending_more {b'} {r} {v} p h q =
        let others = later_fields tree (take at e) t (k + 1) to in
        let first = later_first tree (take at e) t k to h in
        let l = ap length first ∙ length-append next others in
        let same : name_bytes (global_name tree (take at b) v) ≡ next = (λ i. name_bytes (global_name tree (a.front i) (p i))) in
        let stored : b' ≡ sets b end next = q.session ∙ ap (sets b end) same in
        let ends : r ≡ end + length next = q.end ∙ ap (λ xs. end + length xs) same in
        record {
          low = omega (arith, a.low);
          high = omega arith;
          behind = omega (arith, a.behind);
          same = ap length stored ∙ length-sets b end next ∙ a.same;
          front = ap (take at) stored ∙ take_sets b end at next a.behind ∙ a.front;
          left = (λ i. sets (stored i) (ends i) others) ∙ sets_append b end next others refl ∙ ap (sets b end) (sym first) ∙ a.left;
          upto = omega (arith, a.upto);
        }

    -- all of them
    pub appending_all : to ≤ k → Appends (later_fields tree (take at e) t from to) at e b end
    unfolding back
    appending_all h =
        let o : to - k ≡ 0 = omega arith in
        let none : later_fields tree (take at e) t k to ≡ [] = ap (λ n. names_bytes (later_names tree (take at e) t k n)) o in
        let l = ap length none in
        record { session = sym (ap (sets b end) none) ∙ a.left; end = omega (arith, a.upto) }
