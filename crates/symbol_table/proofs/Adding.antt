-- The globals still stand well when one is added.
use Prim.Native.Nat.{ℕ, suc, ◌+◌, ◌-◌, ◌*◌, ◌/◌, ◌%◌, ◌<◌}
use mathlib.Core.Path.{◌≡◌, refl, sym, ap, subst, ◌∙◌}
use mathlib.Core.Bool.{Bool, true, false, not}
use mathlib.Core.List.{List, ◌∷◌}
use mathlib.Core.Option.{Option, some}
use native.Mathlib.Omega.{arith}
use lib.ListN.{length, get_or}
use lib.Dec.{eqb}
use borrow.Author.Tests.{lt-ltb, le-ltb, eqb-true, eqb-false}
use Rattle.definition.specs.Basic.{Bytes, pick}
use Rattle.definition.specs.Limit.{globals_limit}
use Rattle.definition.specs.SymbolTable.{same, find_global}
use Rattle.definition.proofs.Undefined.{same_equal, same_self}
use Rattle.field.specs.Layout.{content}
use Rattle.symbol_table.specs.Name.{Stands, buckets, hash_of}
use Rattle.symbol_table.specs.Search.{child_of, Way, Goes}
use Rattle.symbol_table.specs.Layout.{globals_size, heads_at, head_of, first_found, global_name, globals_of, GlobalStands, Finds, GoodGlobals}
use Rattle.symbol_table.specs.Store.{global_in}
use Rattle.symbol_table.specs.Contract.{IsName, Addable, Adds}
use Rattle.symbol_table.proofs.Back.{last_or_before}
use Rattle.symbol_table.proofs.Nodes.{child_other}
use Rattle.symbol_table.proofs.Pushing.{Inside, global_at, global-name, global_size, global_count, global_new, global_place, globals_more, globals-length}
use Rattle.symbol_table.proofs.Growing.{Owner, head, node, Change, link, late, change, change_inside, child_grown, way_kept, way_new, way_other, way_none}

-- a name's head is inside
head-inside : (g : List ℕ) → get_or g 0 0 < globals_limit → (n : Bytes) → Inside g (heads_at + hash_of n % buckets)
head-inside g room n = record { from = omega arith; to = omega arith; other = λ q. omega arith }

module _ (bytes : Bytes) (side : ℕ) (g : List ℕ) (m : Bytes) (v at number : ℕ) (size : length g ≡ globals_size) (room : get_or g 0 0 < globals_limit) (begins : Goes bytes side g m 0 (heads_at + hash_of m % buckets) side at number) where
  first : Owner bytes side g m (heads_at + hash_of m % buckets) side
  first = head {h = hash_of m % buckets} refl (omega arith) refl

  changed : Change bytes side g m at number
  changed = change bytes side g m begins first

  pub inside : Inside g at
  inside = change_inside bytes side g m room changed

  -- on its own side: the name itself is found as the latest, others as before
  pub own_side : Stands bytes (v % 65536) → v / 65536 ≡ side → m ≡ content bytes (v % 65536) → (n : Bytes) {r : Option ℕ} → Way bytes side g n 0 (head_of g n side) r
      → Way bytes side (global_in g v at number) n 0 (head_of (global_in g v at number) n side) (pick (same n m) (some (get_or g 0 0)) r)
  own_side whole part named n {r} w = go (same n m) refl
    where
      differ : same n m ≡ false → n ≡ m → ⊥
      differ p e =
          let z : ◌≡◌ {A = Bool} true false = sym (same_self n) ∙ ap (same n) e ∙ p in
          let y : ◌≡◌ {A = ℕ} 0 1 = cc in
          omega arith

      go : (b : Bool) → same n m ≡ b → Way bytes side (global_in g v at number) n 0 (head_of (global_in g v at number) n side) (pick b (some (get_or g 0 0)) r)
      go true p =
          subst (λ x. Way bytes side (global_in g v at number) x 0 (head_of (global_in g v at number) x side) (some (get_or g 0 0))) (sym (same_equal n m p))
          (way_new g v at number size room inside bytes side m changed whole part named begins first)
      go false p =
          way_kept g v at number size room inside bytes side m changed whole part named n (differ p) w (head_of (global_in g v at number) n side)
          (child_grown g v at number size room inside bytes side m changed (heads_at + hash_of n % buckets) (head-inside g room n) side)

  -- on the other side
  module _ (side' : ℕ) (opposite : eqb side' 0 ≡ not (eqb side 0)) where
    differ : side' ≡ side → ⊥
    differ e = flip (eqb side 0) (ap (λ x. eqb x 0) (sym e) ∙ opposite)
      where
        flip : (b : Bool) → b ≡ not b → ⊥
        flip true e = let w : ◌≡◌ {A = ℕ} 0 1 = cc in omega arith
        flip false e = let w : ◌≡◌ {A = ℕ} 0 1 = cc in omega arith

    -- the heads stay
    pub head_kept : (h : ℕ) → h < buckets → child_of (get_or (global_in g v at number) (heads_at + h) 0) side' ≡ child_of (get_or g (heads_at + h) 0) side'
    head_kept h l = go (eqb (heads_at + h) at) refl
      where
        placed : {a x : ℕ} → Change bytes side g m a x → heads_at + h ≡ a → child_of x side' ≡ child_of (get_or g a 0) side'
        placed {a} (link (head e l z) f y) q = rw (y, z) (child_other (get_or g a 0) side (get_or g 0 0 + 1) (rw z at f) (omega arith) side' opposite)
        placed (link (node e x) f y) q = absurd (omega (arith, x.below))
        placed (late e x h y) q = absurd (omega (arith, x.below))

        go : (b : Bool) → eqb (heads_at + h) at ≡ b → child_of (get_or (global_in g v at number) (heads_at + h) 0) side' ≡ child_of (get_or g (heads_at + h) 0) side'
        go true p = let e = eqb-true (heads_at + h) at p in rw (e, global_place g v at number size room inside) (placed changed e)
        go false p = ap (λ x. child_of x side') (global_at g v at number size room inside (heads_at + h) (omega arith) (omega arith) (omega arith) (eqb-false (heads_at + h) at p))

    -- all are found as before
    pub other_side : (bytes' n : Bytes) {r : Option ℕ} → Way bytes' side' g n 0 (head_of g n side') r → Way bytes' side' (global_in g v at number) n 0 (head_of (global_in g v at number) n side') r
    other_side bytes' n w = rw (head_kept (hash_of n % buckets) (omega arith)) (way_other g v at number size room inside bytes side m changed bytes' side' differ w)

-- among the globals
module _ (tree names : Bytes) (g : List ℕ) (v at number : ℕ) (size : length g ≡ globals_size) (room : get_or g 0 0 < globals_limit) (inside : Inside g at) where
  -- the latest of each name
  pub latest_more : (m n : Bytes) → global_name tree names v ≡ m → find_global n (globals_of tree names (global_in g v at number)) ≡ pick (same n m) (some (get_or g 0 0)) (find_global n (globals_of tree names g))
  unfolding find_global
  latest_more m n e = rw (globals_more g v at number size room inside tree names, e, globals-length g tree names)

  pub good_more : GoodGlobals tree names g → GlobalStands tree names v → ((n : Bytes) → Finds tree names (global_in g v at number) n) → GoodGlobals tree names (global_in g v at number)
  good_more x s finds =
      record {
        size = global_size g v at number size room inside;
        count = omega (arith, global_count g v at number size room inside);
        stands = λ i l.
            last_or_before (λ k. GlobalStands tree names (get_or (global_in g v at number) (1 + k) 0)) (get_or g 0 0) i (omega (arith, global_count g v at number size room inside)) (rw (global_new g v at number size room inside) s)
            (λ lt. rw (global-name g v at number size room inside (1 + i) (omega arith) (omega arith)) (x.stands i lt));
        finds = finds;
      }

-- from what is to be added to what is added
module _ {bytes : Bytes} {side : ℕ} {g : List ℕ} {name hash : ℕ} (a : Addable bytes side g name hash) where
  module _ {n : Bytes} {at number : ℕ} (e : n ≡ content bytes name) (y : Goes bytes side g n 0 (heads_at + hash % buckets) side at number) where
    sought : Goes bytes side g (content bytes name) 0 (heads_at + hash_of (content bytes name) % buckets) side at number
    sought = rw e at (rw a.named.is at y)

    pub place_to : at < globals_size
    place_to = (inside bytes side g (content bytes name) 0 at number a.size a.room sought).to

    pub added : {g' : List ℕ} → g' ≡ global_in g (65536 * side + name) at number → Adds bytes side name g g'
    added h = record { place = at; number = number; goes = sought; is = h }

-- the names of the globals after it
module _ (tree names : Bytes) (g g' : List ℕ) (name : ℕ) (size : length g ≡ globals_size) (room : get_or g 0 0 < globals_limit) (small : name < 65536) where
  new_name : global_name tree names (65536 * 1 + name) ≡ content tree name
  new_name = let z : 65536 * 1 + name - 65536 ≡ name = omega arith in rw (le-ltb (65536 * 1 + name) 65536 (omega arith), z)

  old_name : global_name tree names (65536 * 0 + name) ≡ content names name
  old_name = let z : 65536 * 0 + name ≡ name = omega arith in rw (lt-ltb (65536 * 0 + name) 65536 (omega arith), z)

  pub new_names : Adds tree 1 name g g' → globals_of tree names g' ≡ content tree name ∷ globals_of tree names g
  new_names a =
      let v = 65536 * 1 + name in
      rw (a.is, globals_more g v a.place a.number size room (inside tree 1 g (content tree name) v a.place a.number size room a.goes) tree names, new_name)

  pub old_names : Adds names 0 name g g' → globals_of tree names g' ≡ content names name ∷ globals_of tree names g
  old_names a =
      let v = 65536 * 0 + name in
      rw (a.is, globals_more g v a.place a.number size room (inside names 0 g (content names name) v a.place a.number size room a.goes) tree names, old_name)

  pub old_count : Adds names 0 name g g' → get_or g' 0 0 ≡ suc (get_or g 0 0)
  old_count a =
      let v = 65536 * 0 + name in
      rw (a.is, global_count g v a.place a.number size room (inside names 0 g (content names name) v a.place a.number size room a.goes))

module _ (tree names : Bytes) (g g' : List ℕ) (name : ℕ) (room : get_or g 0 0 < globals_limit) (small : name < 65536) (x : GoodGlobals tree names g) where
  -- a global of the tree more
  pub new_good : Stands tree name → Adds tree 1 name g g' → GoodGlobals tree names g'
  new_good whole a =
      let v = 65536 * 1 + name in
      let m = content tree name in
      let e : v % 65536 ≡ name = omega arith in
      let z : v - 65536 ≡ name = omega arith in
      let i = inside tree 1 g m v a.place a.number x.size room a.goes in
      rw a.is
      (good_more tree names g v a.place a.number x.size room i x (record { old = λ h. absurd (omega arith); new = λ h. rw z whole }) (λ n.
      let f = x.finds n in
      record {
        new = pick (same n m) (some (get_or g 0 0)) f.new;
        old = f.old;
        below_new = own_side tree 1 g m v a.place a.number x.size room a.goes (rw e whole) (omega arith) (rw e) n f.below_new;
        below_old = other_side tree 1 g m v a.place a.number x.size room a.goes 0 refl names n f.below_old;
        latest = latest_more tree names g v a.place a.number x.size room i m n (new_name tree names g g' name x.size room small) ∙ first_new (same n m) f.new f.old f.latest;
      }))
    where
      first_new : (b : Bool) (o p : Option ℕ) {f : Option ℕ} → f ≡ first_found o p → pick b (some (get_or g 0 0)) f ≡ first_found (pick b (some (get_or g 0 0)) o) p
      first_new true o p h = refl
      first_new false o p h = h

  -- a global of the session more, where the tree has none yet
  module _ (none : (h : ℕ) → h < buckets → child_of (get_or g (heads_at + h) 0) 1 ≡ 0) where
    pub old_good : Stands names name → Adds names 0 name g g' → GoodGlobals tree names g'
    old_good whole a =
        let v = 65536 * 0 + name in
        let m = content names name in
        let e : v % 65536 ≡ name = omega arith in
        let z : v ≡ name = omega arith in
        let i = inside names 0 g m v a.place a.number x.size room a.goes in
        rw a.is
        (good_more tree names g v a.place a.number x.size room i x (record { old = λ h. rw z whole; new = λ h. absurd (omega arith) }) (λ n.
        let f = x.finds n in
        record {
          new = f.new;
          old = pick (same n m) (some (get_or g 0 0)) f.old;
          below_new = other_side names 0 g m v a.place a.number x.size room a.goes 1 refl tree n f.below_new;
          below_old = own_side names 0 g m v a.place a.number x.size room a.goes (rw e whole) (omega arith) (rw e) n f.below_old;
          latest = latest_more tree names g v a.place a.number x.size room i m n (old_name tree names g g' name x.size room small)
              ∙ first_old (same n m) f.new f.old (way_none f.below_new (none (hash_of n % buckets) (omega arith))) f.latest;
        }))
      where
        first_old : (b : Bool) (o p : Option ℕ) {f : Option ℕ} → o ≡ Option.none → f ≡ first_found o p → pick b (some (get_or g 0 0)) f ≡ first_found o (pick b (some (get_or g 0 0)) p)
        first_old true o p z h = rw z
        first_old false o p z h = h

    pub none_more : Adds names 0 name g g' → (h : ℕ) → h < buckets → child_of (get_or g' (heads_at + h) 0) 1 ≡ 0
    none_more a h l = rw a.is (head_kept names 0 g (content names name) (65536 * 0 + name) a.place a.number x.size room a.goes 1 refl h l ∙ none h l)

-- a global of the tree can be added
pub addable_new : {tree names : Bytes} {g : List ℕ} {name hash : ℕ} → GoodGlobals tree names g → get_or g 0 0 < globals_limit → IsName tree name hash → name < 32768 → Addable tree 1 g name hash
addable_new {tree} {names} {g} {name} x room named small =
    record { size = x.size; room = room; named = named; within = omega arith; found = (x.finds (content tree name)).new; way = (x.finds (content tree name)).below_new }
