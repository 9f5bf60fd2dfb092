-- The loops of a search: what is left of the way decides.
use Prim.Native.Nat.{ℕ, zero, suc, ◌+◌, ◌-◌, ◌/◌, ◌%◌, ◌≤◌, ◌<◌}
use mathlib.Core.Path.{◌≡◌, refl, sym, ◌∙◌}
use mathlib.Core.Bool.{Bool, true, false}
use mathlib.Core.List.{List}
use mathlib.Core.Option.{Option, none, some}
use native.Mathlib.Omega.{arith}
use lib.ListN.{get_or}
use Rattle.definition.specs.Basic.{Bytes}
use Rattle.definition.specs.Limit.{globals_limit}
use Rattle.definition.specs.SymbolTable.{Symbol, same}
use Rattle.field.specs.Layout.{content}
use Rattle.symbol_table.specs.Name.{buckets, hash_of}
use Rattle.symbol_table.specs.Search.{side_number, turn_number, nodes_at, side_of, child_of, latest_of, with_child, with_latest, Node, name_of, next_of, Way, ends, hits, goes, Goes, hangs, follows, further}
use Rattle.symbol_table.specs.declared.globals.Side.{Side}
use Rattle.symbol_table.specs.declared.globals.Side.TheVariants.{Session, Tree}
use Rattle.symbol_table.specs.Layout.{globals_size, heads_at, head_of, offset_of, StandsAt, first_found}
use Rattle.symbol_table.specs.Contract.{as_symbol, Searchable, Ends}
use Rattle.symbol_table.specs.declared.globals.Turn.{Turn}
use Rattle.symbol_table.specs.declared.globals.End.TheVariants.{Hit, Open}
use Rattle.symbol_table.specs.declared.globals.NamePlace.{NamePlace}
use Rattle.symbol_table.specs.declared.globals.NamePlace.TheVariants as place
use Rattle.symbol_table.proofs.Growing.{way_none}

-- where a way goes from a global on
module _ {bytes : Bytes} {side : ℕ} {g : List ℕ} {n : Bytes} {d k : ℕ} {r : Option ℕ} where
  pub way_node : Way bytes side g n d k r → 0 < k → Node bytes side g k
  way_node (ends z e) l = absurd (omega arith)
  way_node (hits x h e) l = x
  way_node (goes x h u y) l = x

  pub way_hit : Way bytes side g n d k r → 0 < k → same n (name_of bytes side g k) ≡ true → r ≡ some (latest_of (get_or g (nodes_at + k) 0))
  way_hit (ends z e) l q = absurd (omega arith)
  way_hit (hits x h e) l q = e
  way_hit (goes x h u y) l q = let z : ◌≡◌ {A = ℕ} 0 1 = cc in absurd (omega arith)

  pub way_rises : Way bytes side g n d k r → 0 < k → same n (name_of bytes side g k) ≡ false → 0 < next_of bytes side g n d k → k < next_of bytes side g n d k
  way_rises (ends z e) l q = absurd (omega arith)
  way_rises (hits x h e) l q = let z : ◌≡◌ {A = ℕ} 0 1 = cc in absurd (omega arith)
  way_rises (goes x h u y) l q = u

  pub way_next : Way bytes side g n d k r → 0 < k → same n (name_of bytes side g k) ≡ false → Way bytes side g n (d + 1) (next_of bytes side g n d k) r
  way_next (ends z e) l q = absurd (omega arith)
  way_next (hits x h e) l q = let z : ◌≡◌ {A = ℕ} 0 1 = cc in absurd (omega arith)
  way_next (goes x h u y) l q = y

-- the measure of a search: its globals are later and later, until there is none
falls : (j k : ℕ) → 0 < k → k ≤ 1024 → (0 < j → k < j) → (2048 - j) % 2048 < (2048 - k) % 2048
falls zero k a b h = omega arith
falls (suc j) k a b h = omega (arith, h (omega arith))

-- there are two sides
pub two_sides : (s : Side) → side_number s < 2
two_sides Session = omega arith
two_sides Tree = omega arith

-- the offset of a name's place
pub offset_in : (v : ℕ) (p : NamePlace) → StandsAt v p → v / 65536 < 2 → offset_of p ≡ v % 65536
offset_in v (place.Session k) e l = omega (arith, e.0, e.1)
offset_in v (place.Tree k) e l = omega (arith, e)

-- a search for a name on a side
module _ (bytes : Bytes) (side : ℕ) (g : List ℕ) (n : Bytes) where
  pub record Sought (at on k depth : ℕ) : Type 0 where
    pub deep : 0 < k → depth < k
    pub from : 0 < at
    pub to : at < globals_size
    pub is : k ≡ child_of (get_or g at 0) on
    pub ways : (r : Option ℕ) → Way bytes side g n 0 (head_of g n side) r → Way bytes side g n depth k r
    pub rest : (p x : ℕ) → Goes bytes side g n depth at on p x → Goes bytes side g n 0 (heads_at + hash_of n % buckets) side p x

  pub sought_first : {hash on k : ℕ} → hash ≡ hash_of n → on ≡ side → k ≡ child_of (get_or g (heads_at + hash % buckets) 0) on → Sought (heads_at + hash % buckets) on k 0
  sought_first is turn e = rw (e, turn, is) (record { deep = λ l. l; from = omega arith; to = omega arith; is = refl; ways = λ r w. w; rest = λ p x y. y })

  pub sought_none : {at k depth : ℕ} {on : Turn} → Sought at (turn_number on) k depth → k ≡ 0 → Ends bytes side g n (Open at on)
  sought_none {at} {k} {depth} {on} s e =
      let vacant : child_of (get_or g at 0) (turn_number on) ≡ 0 = sym s.is ∙ e in
      record {
        found = λ r w. way_none (s.ways r w) e;
        goes = s.rest at (with_child (get_or g at 0) (turn_number on) (get_or g 0 0 + 1)) (hangs vacant refl refl);
        within = s.to;
        vacant = vacant;
      }

  module _ (x : Searchable bytes side g n) {at on k depth : ℕ} (s : Sought at on k depth) (there : 0 < k) where
    -- the search is at a global, which is one of few
    pub sought_node : Node bytes side g k
    sought_node = way_node (s.ways x.found x.way) there

    pub sought_small : k ≤ globals_limit
    sought_small = omega (arith, sought_node.below, x.count)

    -- its name stands at the offset of its place, and is compared with the one that is sought
    module _ (two : side < 2) (p : NamePlace) {o : ℕ} (stands : StandsAt (get_or g k 0) p) (offset : o ≡ offset_of p) where
      pub sought_offset : o ≡ get_or g k 0 % 65536
      sought_offset = offset ∙ offset_in (get_or g k 0) p stands (omega (arith, sought_node.part))

      module _ {t : Bool} (told : t ≡ same n (content bytes o)) where
        alike : {b : Bool} → t ≡ b → same n (name_of bytes side g k) ≡ b
        alike h = sym (rw sought_offset at told) ∙ h

        pub sought_hit : t ≡ true → Ends bytes side g n (Hit k)
        sought_hit h = record {
          found = λ r w. way_hit (s.ways r w) there (alike h);
          goes = s.rest (nodes_at + k) (with_latest (get_or g (nodes_at + k) 0) (get_or g 0 0)) (follows s.is sought_node (alike h) refl refl);
          within = omega (arith, sought_small);
          vacant = tt;
        }

        module _ {hash turn j : ℕ} (h : t ≡ false) (is : hash ≡ hash_of n) (turns : turn ≡ side_of n hash depth) (next : j ≡ child_of (get_or g (nodes_at + k) 0) turn) where
          follower : j ≡ next_of bytes side g n depth k
          follower = rw (next, turns, is)

          sought_rises : 0 < j → k < j
          sought_rises = rw follower (way_rises (s.ways x.found x.way) there (alike h))

          pub sought_less : (2048 - j) % 2048 < (2048 - k) % 2048
          sought_less = falls j k there sought_small sought_rises

          pub sought_next : Sought (nodes_at + k) turn j (depth + 1)
          sought_next = record {
            deep = λ l. omega (arith, sought_rises l, s.deep there);
            from = omega arith;
            to = omega (arith, sought_small);
            is = next;
            ways = λ r w. rw follower (way_next (s.ways r w) there (alike h));
            rest = λ q v y. s.rest q v (further s.is sought_node (alike h) (rw follower at sought_rises) (rw (turns, is) at y));
          }

-- what is found on the tree's side, or else on the session's
module _ {h : Option Symbol} (old : Option ℕ) where
  pub found_new : {s : Symbol} (new : Option ℕ) → h ≡ some s → h ≡ as_symbol Symbol.global new → h ≡ as_symbol Symbol.global (first_found new old)
  found_new (some k) p q = q
  found_new none p q = let z : ◌≡◌ {A = ℕ} 0 1 = cc in absurd (omega arith)

  pub found_old : (new : Option ℕ) → none ≡ as_symbol Symbol.global new → h ≡ as_symbol Symbol.global old → h ≡ as_symbol Symbol.global (first_found new old)
  found_old (some k) p q = let z : ◌≡◌ {A = ℕ} 0 1 = cc in absurd (omega arith)
  found_old none p q = q
