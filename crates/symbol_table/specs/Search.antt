-- The search trees of the globals. A global k, counted from 1, has its name's number at k and its node at `nodes_at + k`; 0 is none.
-- A name is sought from a global to the one on a side of it, by the bits of the name's hash that its bucket leaves, then by the name's own.
use Rattle.std.specs.Prelude.{ℕ, ◌+◌, ◌-◌, ◌*◌, ◌/◌, ◌%◌, ◌^◌, ◌≤◌, ◌<◌, ◌≡◌, true, false, List, length, get_or, ltb, leb, eqb}
use Rattle.std.proofs.Math.Option.{Option, none, some}
use Rattle.definition.specs.Basic.{Bytes, pick}
use Rattle.definition.specs.SymbolTable.{same}
use Rattle.field.specs.Layout.{content}
use Rattle.symbol_table.specs.Name.{Stands, hash_of}
use Rattle.symbol_table.specs.declared.globals.Side.{Side}
use Rattle.symbol_table.specs.declared.globals.Side.TheVariants.{Session, Tree}
use Rattle.symbol_table.specs.declared.globals.Turn.{Turn}
use Rattle.symbol_table.specs.declared.globals.Turn.TheVariants.{Left, Right}

-- the session's globals are on side 0, the tree's on side 1
abbrev pub side_number : Side → ℕ
side_number Session = 0
side_number Tree = 1

-- the sides on which a search goes on from a node
abbrev pub turn_number : Turn → ℕ
turn_number Left = 0
turn_number Right = 1

-- where the nodes are
abbrev pub nodes_at : ℕ
nodes_at = 1024

-- the side on which a name of a hash is sought further, at a depth
unfoldable pub side_of : Bytes → ℕ → ℕ → ℕ
side_of n hash depth =
    pick (ltb depth 22) (hash / 2 ^ (10 + depth) % 2)
    (pick (leb (length n) ((depth - 22) / 8)) 0 (get_or n ((depth - 22) / 8) 0 / 2 ^ ((depth - 22) % 8) % 2))

-- the global on a side of a node, and the index of the latest global of its name
unfoldable pub child_of : ℕ → ℕ → ℕ
child_of node side = pick (eqb side 0) (node % 2048) (node / 2048 % 2048)

abbrev pub latest_of : ℕ → ℕ
latest_of node = node / 4194304

-- a node with a global on a side that had none, and one with a later global of its name
unfoldable pub with_child : ℕ → ℕ → ℕ → ℕ
with_child node side k = node + pick (eqb side 0) k (2048 * k)

abbrev pub with_latest : ℕ → ℕ → ℕ
with_latest node i = node % 4194304 + 4194304 * i

module _ (bytes : Bytes) (side : ℕ) (g : List ℕ) where
  -- a global is there, one of the session's on side 0 or of the tree's on side 1, and has a whole name
  pub record Node (k : ℕ) : Type 0 where
    pub there : 0 < k
    pub below : k ≤ get_or g 0 0
    pub part : get_or g k 0 / 65536 ≡ side
    pub stands : Stands bytes (get_or g k 0 % 65536)

  -- its name
  abbrev pub name_of : ℕ → Bytes
  name_of k = content bytes (get_or g k 0 % 65536)

  module _ (n : Bytes) where
    -- the global after k on the way of a name, at a depth
    abbrev pub next_of : ℕ → ℕ → ℕ
    next_of d k = child_of (get_or g (nodes_at + k) 0) (side_of n (hash_of n) d)

    -- what a search for a name finds from a global on, at a depth: the way goes to later globals only
    pub data Way : ℕ → ℕ → Option ℕ → Type 0 where
      ends : {d k : ℕ} {r : Option ℕ} → k ≡ 0 → r ≡ none → Way d k r
      hits : {d k : ℕ} {r : Option ℕ} → Node k → same n (name_of k) ≡ true → r ≡ some (latest_of (get_or g (nodes_at + k) 0)) → Way d k r
      goes : {d k : ℕ} {r : Option ℕ} → Node k → same n (name_of k) ≡ false → (0 < next_of d k → k < next_of d k) → Way (d + 1) (next_of d k) r → Way d k r

    -- where a global more of a name goes, from a side of the node or the heads at an index on, and the number that is to stand there
    pub data Goes : ℕ → ℕ → ℕ → ℕ → ℕ → Type 0 where
      hangs : {d at s place number : ℕ} → child_of (get_or g at 0) s ≡ 0 → place ≡ at → number ≡ with_child (get_or g at 0) s (get_or g 0 0 + 1) → Goes d at s place number
      follows : {d at s k place number : ℕ} → k ≡ child_of (get_or g at 0) s → Node k → same n (name_of k) ≡ true → place ≡ nodes_at + k → number ≡ with_latest (get_or g (nodes_at + k) 0) (get_or g 0 0) → Goes d at s place number
      further : {d at s k place number : ℕ} → k ≡ child_of (get_or g at 0) s → Node k → same n (name_of k) ≡ false → (0 < next_of d k → k < next_of d k)
          → Goes (d + 1) (nodes_at + k) (side_of n (hash_of n) d) place number → Goes d at s place number
