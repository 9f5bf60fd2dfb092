-- A global more in the search trees: what a search finds afterwards.
use Prim.Native.Nat.{ℕ, ◌+◌, ◌*◌, ◌/◌, ◌%◌, ◌<◌}
use mathlib.Core.Path.{◌≡◌, refl, sym, ap, subst, ◌∙◌}
use mathlib.Core.Bool.{Bool, true, false}
use mathlib.Core.Logic.{◌⊎◌, inl, inr, ⊎_elim}
use mathlib.Core.List.{List}
use mathlib.Core.Option.{Option, none, some}
use native.Mathlib.Omega.{arith}
use lib.ListN.{length, get_or}
use lib.Dec.{eqb}
use borrow.Author.Tests.{eqb-true, eqb-false}
use Rattle.definition.specs.Basic.{Bytes}
use Rattle.definition.specs.Limit.{globals_limit}
use Rattle.definition.specs.SymbolTable.{same}
use Rattle.definition.proofs.Undefined.{same_equal, same_self}
use Rattle.field.specs.Layout.{content}
use Rattle.symbol_table.specs.Name.{Stands, buckets, hash_of}
use Rattle.symbol_table.specs.Search.{nodes_at, side_of, child_of, latest_of, with_child, with_latest, Node, name_of, next_of, Way, ends, hits, goes, Goes, hangs, follows, further}
use Rattle.symbol_table.specs.Layout.{globals_size, heads_at}
use Rattle.symbol_table.specs.Store.{global_in}
use Rattle.symbol_table.proofs.Names.{differs}
use Rattle.symbol_table.proofs.Nodes.{child_new, latest_same, child-either, child_later, latest_later, child_none, latest_own}
use Rattle.symbol_table.proofs.Pushing.{Inside, global_at, global-name, global_count, global_new, global_node, global_place}

module _ (bytes : Bytes) (side : ℕ) (g : List ℕ) (m : Bytes) where
  -- where a side of something is: a head of the globals' own side, or the node of one of them
  pub data Owner : ℕ → ℕ → Type 0 where
    head : {at s h : ℕ} → at ≡ heads_at + h → h < buckets → s ≡ side → Owner at s
    node : {at s k : ℕ} → at ≡ nodes_at + k → Node bytes side g k → Owner at s

  -- what a global more of a name changes: a side that had none, or the latest of its name
  pub data Change : ℕ → ℕ → Type 0 where
    link : {at s number : ℕ} → Owner at s → child_of (get_or g at 0) s ≡ 0 → number ≡ with_child (get_or g at 0) s (get_or g 0 0 + 1) → Change at number
    late : {at k number : ℕ} → at ≡ nodes_at + k → Node bytes side g k → same m (name_of bytes side g k) ≡ true → number ≡ with_latest (get_or g (nodes_at + k) 0) (get_or g 0 0) → Change at number

  pub change : {d at s place number : ℕ} → Goes bytes side g m d at s place number → Owner at s → Change place number
  change (hangs z e w) o = rw e (link o z w)
  change (follows e n h p w) o = late p n h w
  change (further e n h u y) o = change y (node refl n)

  module _ (room : get_or g 0 0 < globals_limit) where
    pub node_inside : {k : ℕ} → Node bytes side g k → Inside g (nodes_at + k)
    node_inside x = record { from = omega (arith, x.there); to = omega (arith, x.below); other = λ q. omega (arith, x.below) }

    pub owner_inside : {at s : ℕ} → Owner at s → Inside g at
    owner_inside (head e l z) = record { from = omega arith; to = omega arith; other = λ q. omega arith }
    owner_inside (node e x) = rw e (node_inside x)

    pub change_inside : {at number : ℕ} → Change at number → Inside g at
    change_inside (link o z w) = owner_inside o
    change_inside (late e x h w) = rw e (node_inside x)

-- the area after it
module _ (g : List ℕ) (v at number : ℕ) (size : length g ≡ globals_size) (room : get_or g 0 0 < globals_limit) (inside : Inside g at) where
  -- a global stays what it is
  node_kept : {bytes : Bytes} {side k : ℕ} → Node bytes side g k → Node bytes side (global_in g v at number) k
  node_kept {bytes} {side} {k} x =
      let e : get_or (global_in g v at number) k 0 ≡ get_or g k 0 = global-name g v at number size room inside k x.there x.below in
      record { there = x.there; below = omega (arith, x.below, global_count g v at number size room inside); part = rw e x.part; stands = rw e x.stands }

  name_kept : (n : Bytes) {bytes : Bytes} {side k : ℕ} {t : Bool} → Node bytes side g k → same n (name_of bytes side g k) ≡ t → same n (name_of bytes side (global_in g v at number) k) ≡ t
  name_kept n {bytes} {side} {k} x h = rw (global-name g v at number size room inside k x.there x.below) h

  module _ (bytes : Bytes) (side : ℕ) (m : Bytes) (c : Change bytes side g m at number) where
    -- a side of a node or of a head stays, or is new
    pub child_grown : (j : ℕ) → Inside g j → (t : ℕ)
        → (child_of (get_or (global_in g v at number) j 0) t ≡ child_of (get_or g j 0) t) ⊎ ((child_of (get_or g j 0) t ≡ 0) × (child_of (get_or (global_in g v at number) j 0) t ≡ get_or g 0 0 + 1))
    child_grown j l t = go (eqb j at) refl
      where
        go : (b : Bool) → eqb j at ≡ b → (child_of (get_or (global_in g v at number) j 0) t ≡ child_of (get_or g j 0) t) ⊎ ((child_of (get_or g j 0) t ≡ 0) × (child_of (get_or (global_in g v at number) j 0) t ≡ get_or g 0 0 + 1))
        go true p = rw (eqb-true j at p, global_place g v at number size room inside) (placed c)
          where
            placed : {a x : ℕ} → Change bytes side g m a x → (child_of x t ≡ child_of (get_or g a 0) t) ⊎ ((child_of (get_or g a 0) t ≡ 0) × (child_of x t ≡ get_or g 0 0 + 1))
            placed {a} (link {s = s} o z w) = rw w (child-either (get_or g a 0) s (get_or g 0 0 + 1) z (omega arith) t)
            placed (late {k = k} e n h w) = inl (rw (w, e) (child_later (get_or g (nodes_at + k) 0) (get_or g 0 0) t))
        go false p =
            inl (ap (λ x. child_of x t) (global_at g v at number size room inside j (omega (arith, l.from)) (omega (arith, l.from)) l.other (eqb-false j at p)))

    child_kept : (j t k : ℕ) → Inside g j → k ≡ child_of (get_or g j 0) t → 0 < k → child_of (get_or (global_in g v at number) j 0) t ≡ k
    child_kept j t k l e there = ⊎_elim (λ q. q ∙ sym e) (λ q. absurd (omega (arith, q.0))) (child_grown j l t)

    -- the latest of another name stays
    latest_kept : {k : ℕ} → Node bytes side g k → (same m (name_of bytes side g k) ≡ true → ⊥) → latest_of (get_or (global_in g v at number) (nodes_at + k) 0) ≡ latest_of (get_or g (nodes_at + k) 0)
    latest_kept {k} x d = go (eqb (nodes_at + k) at) refl
      where
        placed : {a y : ℕ} → Change bytes side g m a y → nodes_at + k ≡ a → latest_of y ≡ latest_of (get_or g a 0)
        placed {a} (link {s = s} o z w) q = rw w (latest_same (get_or g a 0) s (get_or g 0 0 + 1) z (omega arith))
        placed (late {k = j} e n h w) q = let p : k ≡ j = omega arith in absurd (d (rw p h))

        go : (b : Bool) → eqb (nodes_at + k) at ≡ b → latest_of (get_or (global_in g v at number) (nodes_at + k) 0) ≡ latest_of (get_or g (nodes_at + k) 0)
        go true p = rw (eqb-true (nodes_at + k) at p, global_place g v at number size room inside) (placed c (eqb-true (nodes_at + k) at p))
        go false p =
            ap latest_of (global_at g v at number size room inside (nodes_at + k) (omega arith) (omega (arith, x.there)) (omega (arith, x.below)) (eqb-false (nodes_at + k) at p))

    -- the global that is new
    module _ (whole : Stands bytes (v % 65536)) (part : v / 65536 ≡ side) (named : m ≡ content bytes (v % 65536)) where
      node_new : Node bytes side (global_in g v at number) (get_or g 0 0 + 1)
      node_new =
          let o : get_or g 0 0 + 1 ≡ 1 + get_or g 0 0 = omega arith in
          let e : get_or (global_in g v at number) (get_or g 0 0 + 1) 0 ≡ v = rw (o, global_new g v at number size room inside) in
          record { there = omega arith; below = omega (arith, global_count g v at number size room inside); part = rw e part; stands = rw e whole }

      name_new : (n : Bytes) → same n (name_of bytes side (global_in g v at number) (get_or g 0 0 + 1)) ≡ same n m
      name_new n =
          let o : get_or g 0 0 + 1 ≡ 1 + get_or g 0 0 = omega arith in
          rw (o, global_new g v at number size room inside, named)

      number_new : get_or (global_in g v at number) (nodes_at + (get_or g 0 0 + 1)) 0 ≡ 4194304 * get_or g 0 0
      number_new = let o : get_or g 0 0 + 1 ≡ 1 + get_or g 0 0 = omega arith in rw (o, global_node g v at number size room inside)

      -- the way to a later global leads to a later one still
      rises : (n : Bytes) (d k : ℕ) → Node bytes side g k → (0 < next_of bytes side g n d k → k < next_of bytes side g n d k)
          → 0 < next_of bytes side (global_in g v at number) n d k → k < next_of bytes side (global_in g v at number) n d k
      rises n d k x u l =
          ⊎_elim (λ (e : next_of bytes side (global_in g v at number) n d k ≡ next_of bytes side g n d k). omega (arith, u (omega arith))) (λ e. omega (arith, x.below, e.1))
          (child_grown (nodes_at + k) (node_inside bytes side g m room x) (side_of n (hash_of n) d))

      -- another name is found as before
      pub way_kept : (n : Bytes) → (n ≡ m → ⊥) → {d k : ℕ} {r : Option ℕ} → Way bytes side g n d k r → (j : ℕ) → (j ≡ k) ⊎ ((k ≡ 0) × (j ≡ get_or g 0 0 + 1)) → Way bytes side (global_in g v at number) n d j r
      way_kept n o (ends z e) j (inl p) = ends (p ∙ z) e
      way_kept n o {d} (ends z e) j (inr p) =
          let f : next_of bytes side (global_in g v at number) n d (get_or g 0 0 + 1) ≡ 0 = rw number_new (child_none (get_or g 0 0) (side_of n (hash_of n) d)) in
          let u : 0 < next_of bytes side (global_in g v at number) n d (get_or g 0 0 + 1) → get_or g 0 0 + 1 < next_of bytes side (global_in g v at number) n d (get_or g 0 0 + 1) = λ l. absurd (omega arith) in
          rw p.1 (goes node_new (name_new n ∙ differs n m o) u (ends f e))
      way_kept n o (hits x h e) j (inl p) =
          rw p (hits (node_kept x) (name_kept n x h) (e ∙ ap some (sym (latest_kept x (λ q. o (same_equal n _ h ∙ sym (same_equal m _ q)))))))
      way_kept n o (hits x h e) j (inr p) = absurd (omega (arith, x.there, p.0))
      way_kept n o {d} {k} (goes x h u y) j (inl p) =
          rw p
          (goes (node_kept x) (name_kept n x h) (rises n d k x u)
          (way_kept n o y (next_of bytes side (global_in g v at number) n d k) (child_grown (nodes_at + k) (node_inside bytes side g m room x) (side_of n (hash_of n) d))))
      way_kept n o (goes x h u y) j (inr p) = absurd (omega (arith, x.there, p.0))

      -- the name itself is found as the latest
      pub way_new : {d a s : ℕ} → Goes bytes side g m d a s at number → Owner bytes side g m a s → Way bytes side (global_in g v at number) m d (child_of (get_or (global_in g v at number) a 0) s) (some (get_or g 0 0))
      way_new {d} {a} {s} (hangs z e w) o =
          let f : child_of (get_or (global_in g v at number) a 0) s ≡ get_or g 0 0 + 1 = rw (← e, global_place g v at number size room inside, w) (child_new (get_or g a 0) s (get_or g 0 0 + 1) z (omega arith)) in
          let l : get_or g 0 0 ≡ latest_of (get_or (global_in g v at number) (nodes_at + (get_or g 0 0 + 1)) 0) = rw number_new (sym (latest_own (get_or g 0 0))) in
          rw f (hits node_new (name_new m ∙ same_self m) (ap some l))
      way_new {d} {a} {s} (follows {k = k} e x h p w) o =
          let f : child_of (get_or (global_in g v at number) a 0) s ≡ k = child_kept a s k (owner_inside bytes side g m room o) e x.there in
          let l : get_or g 0 0 ≡ latest_of (get_or (global_in g v at number) (nodes_at + k) 0) = rw (← p, global_place g v at number size room inside, w) (sym (latest_later (get_or g (nodes_at + k) 0) (get_or g 0 0))) in
          rw f (hits (node_kept x) (name_kept m x h) (ap some l))
      way_new {d} {a} {s} (further {k = k} e x h u y) o =
          let f : child_of (get_or (global_in g v at number) a 0) s ≡ k = child_kept a s k (owner_inside bytes side g m room o) e x.there in
          rw f (goes (node_kept x) (name_kept m x h) (rises m d k x u) (way_new y (node refl x)))

    -- the globals of the other side: their nodes stay
    module _ (bytes' : Bytes) (side' : ℕ) (differ : side' ≡ side → ⊥) where
      number_kept : {k : ℕ} → Node bytes' side' g k → get_or (global_in g v at number) (nodes_at + k) 0 ≡ get_or g (nodes_at + k) 0
      number_kept {k} x = global_at g v at number size room inside (nodes_at + k) (omega arith) (omega (arith, x.there)) (omega (arith, x.below)) (λ q. elsewhere c q)
        where
          elsewhere : {a y : ℕ} → Change bytes side g m a y → nodes_at + k ≡ a → ⊥
          elsewhere (link (head e l z) f w) q = omega (arith, x.below)
          elsewhere (link (node {k = j} e n) f w) q = let p : k ≡ j = omega arith in differ (sym x.part ∙ rw p n.part)
          elsewhere (late {k = j} e n h w) q = let p : k ≡ j = omega arith in differ (sym x.part ∙ rw p n.part)

      pub way_other : {n : Bytes} {d k : ℕ} {r : Option ℕ} → Way bytes' side' g n d k r → Way bytes' side' (global_in g v at number) n d k r
      way_other (ends z e) = ends z e
      way_other {n} (hits x h e) = hits (node_kept x) (name_kept n x h) (e ∙ ap (λ z. some (latest_of z)) (sym (number_kept x)))
      way_other {n} {d} {k} {r} (goes x h u y) =
          let s = side_of n (hash_of n) d in
          goes (node_kept x) (name_kept n x h) (subst (λ z. 0 < child_of z s → k < child_of z s) (sym (number_kept x)) u)
          (subst (λ z. Way bytes' side' (global_in g v at number) n (d + 1) (child_of z s) r) (sym (number_kept x)) (way_other y))

-- a search that begins with no global finds none
pub way_none : {bytes : Bytes} {side : ℕ} {g : List ℕ} {n : Bytes} {d k : ℕ} {r : Option ℕ} → Way bytes side g n d k r → k ≡ 0 → r ≡ none
way_none (ends z e) p = e
way_none (hits x h e) p = absurd (omega (arith, x.there))
way_none (goes x h u y) p = absurd (omega (arith, x.there))
