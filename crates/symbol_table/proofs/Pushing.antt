-- A global more: what the numbers of the area become, and the names after it.
use Prim.Native.Nat.{ℕ, suc, ◌+◌, ◌*◌, ◌≤◌, ◌<◌}
use mathlib.Core.Path.{◌≡◌}
use mathlib.Core.Logic.{◌≢◌}
use mathlib.Core.List.{List, ◌∷◌}
use native.Mathlib.Omega.{arith}
use lib.ListN.{length, get_or, set, length-set}
use lib.Seq.{get_or-set_same, get_or-set_other, lt-length-set}
use Rattle.definition.specs.Basic.{Bytes}
use Rattle.definition.specs.Limit.{globals_limit}
use Rattle.symbol_table.specs.Search.{nodes_at}
use Rattle.symbol_table.specs.Layout.{globals_size, back, global_name, globals_of}
use Rattle.symbol_table.specs.Store.{global_in}
use Rattle.symbol_table.proofs.Back.{back_same, length_back}

pub globals-length : (g : List ℕ) (tree names : Bytes) → length (globals_of tree names g) ≡ get_or g 0 0
unfolding globals_of
globals-length g tree names = length_back (global_name tree names) g 1 (get_or g 0 0)

-- an index of a node or of a head, but not that of the node of the next global
pub record Inside (g : List ℕ) (at : ℕ) : Type 0 where
  pub from : nodes_at < at
  pub to : at < globals_size
  pub other : at ≢ nodes_at + (1 + get_or g 0 0)

module _ (g : List ℕ) (v at number : ℕ) (size : length g ≡ globals_size) (room : get_or g 0 0 < globals_limit) (i : Inside g at) where
  pub global_at : (j : ℕ) → j ≢ 0 → j ≢ 1 + get_or g 0 0 → j ≢ nodes_at + (1 + get_or g 0 0) → j ≢ at → get_or (global_in g v at number) j 0 ≡ get_or g j 0
  unfolding global_in
  global_at j a b c d = rw (get_or-set_other, get_or-set_other, get_or-set_other, get_or-set_other)

  pub global-name : (k : ℕ) → 0 < k → k ≤ get_or g 0 0 → get_or (global_in g v at number) k 0 ≡ get_or g k 0
  global-name k a b = global_at k (omega arith) (omega arith) (omega arith) (omega (arith, i.from))

  pub global_size : length (global_in g v at number) ≡ globals_size
  unfolding global_in
  global_size = simp length-set size

  pub global_count : get_or (global_in g v at number) 0 0 ≡ suc (get_or g 0 0)
  unfolding global_in
  global_count =
      let e : get_or g 0 0 + 1 ≡ suc (get_or g 0 0) = omega arith in
      let b : 0 < length g = omega arith in
      rw (get_or-set_same, lt-length-set) e

  pub global_new : get_or (global_in g v at number) (1 + get_or g 0 0) 0 ≡ v
  unfolding global_in
  global_new =
      let a : 1 + get_or g 0 0 ≢ 0 = omega arith in
      let b : 1 + get_or g 0 0 ≢ at = omega (arith, i.from) in
      let d : 1 + get_or g 0 0 ≢ nodes_at + (1 + get_or g 0 0) = omega arith in
      let e : 1 + get_or g 0 0 < length g = omega arith in
      rw (get_or-set_other, get_or-set_other, get_or-set_other, get_or-set_same)

  pub global_node : get_or (global_in g v at number) (nodes_at + (1 + get_or g 0 0)) 0 ≡ 4194304 * get_or g 0 0
  unfolding global_in
  global_node =
      let a : nodes_at + (1 + get_or g 0 0) ≢ 0 = omega arith in
      let b : nodes_at + (1 + get_or g 0 0) ≢ at = λ e. i.other (omega arith) in
      let e : nodes_at + (1 + get_or g 0 0) < length g = omega arith in
      rw (get_or-set_other, get_or-set_other, get_or-set_same, lt-length-set)

  pub global_place : get_or (global_in g v at number) at 0 ≡ number
  unfolding global_in
  global_place =
      let a : at ≢ 0 = omega (arith, i.from) in
      let e : at < length g = omega (arith, i.to) in
      let f : at < length (set g (1 + get_or g 0 0) v) = lt-length-set g (1 + get_or g 0 0) v e in
      rw (get_or-set_other, get_or-set_same, lt-length-set)

  pub globals_more : (tree names : Bytes) → globals_of tree names (global_in g v at number) ≡ global_name tree names v ∷ globals_of tree names g
  unfolding globals_of back
  globals_more tree names =
      rw (global_count, global_new, back_same (global_name tree names) g 1 (global_in g v at number) (get_or g 0 0) (λ j a b. global-name j (omega arith) (omega arith)))
