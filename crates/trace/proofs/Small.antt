-- The symbol that a lookup finds has a code below 2,048: a global's index is below the number of globals.
use Prim.Native.Nat.{ℕ, zero, suc, ◌+◌, ◌-◌, ◌≤◌, ◌<◌}
use native.Mathlib.Omega.{arith}
use mathlib.Core.Bool.{Bool, true, false}
use mathlib.Core.List.{List, [], ◌∷◌}
use mathlib.Core.Option.{Option, none, some}
use mathlib.Core.Path.{◌≡◌, refl}
use lib.ListN.{length, get_or, take}
use lib.Dec.{leb, ltb}
use borrow.Author.Tests.{le-ltb, ltb-true, ltb-false}
use Rattle.definition.specs.Basic.{Bytes, pick}
use Rattle.definition.specs.Limit.{globals_limit, free_limit}
use Rattle.definition.specs.SymbolTable.{Symbol, Entry, Table, Resolved, same, find, find_global, find_builtin, outermost, capture, cross, or_outer, resolve}
use Rattle.definition.specs.Valid.{All}
use Rattle.symbol_table.specs.Layout.{globals_size, part, symbol_of, code_in, entries_at, entries, entry_of, back, table_of, tables_of, global_name, globals_of, globals_in, Good}
use Rattle.symbol_table.proofs.Back.{length_back}
use Rattle.symbol_table.proofs.Resolving.{good-globals}

-- a global's index is within the limit
pub data Small : Symbol → Type 0 where
  global : {k : ℕ} → k < globals_limit → Small (Symbol.global k)
  local : {k : ℕ} → Small (Symbol.local k)
  builtin : {k : ℕ} → Small (Symbol.builtin k)
  free : {k : ℕ} → Small (Symbol.free k)
  function : Small Symbol.function

small_pick : {x y : Symbol} (b : Bool) → Small x → Small y → Small (pick b x y)
small_pick true h k = h
small_pick false h k = k

-- the symbol of a code below 2,048
symbol_small : (c : ℕ) → c < 2048 → Small (symbol_of c)
unfolding symbol_of
symbol_small c h = small_pick (ltb c 256) Small.function (small_pick (ltb c 512) Small.local (small_pick (ltb c 768) Small.free (small_pick (ltb c 1024) Small.builtin (Small.global (omega arith)))))

-- no other code has such a symbol
pub code_small : (c : ℕ) → Small (symbol_of c) → c < 2048
unfolding symbol_of
code_small c h = go (ltb c 1024) refl
  where
    index : {k : ℕ} → Small (Symbol.global k) → k < globals_limit
    index (Small.global h) = h

    go : (b : Bool) → ltb c 1024 ≡ b → c < 2048
    go true e = omega (arith, ltb-true c 1024 e)
    go false e =
        let far : 1024 ≤ c = ltb-false c 1024 e in
        let k : Small (Symbol.global (c - 1024)) = rw (le-ltb c 256 (omega arith), le-ltb c 512 (omega arith), le-ltb c 768 (omega arith), le-ltb c 1024 far) at h in
        omega (arith, index k)

-- what a search found
data SmallOption : Option Symbol → Type 0 where
  nothing : SmallOption none
  just : {y : Symbol} → Small y → SmallOption (some y)

option_pick : {x y : Option Symbol} (b : Bool) → SmallOption x → SmallOption y → SmallOption (pick b x y)
option_pick true h k = h
option_pick false h k = k

-- in the entries of a table
abbrev SmallEntry : Entry → Type 0
SmallEntry e = Small e.symbol

find_small : (n : Bytes) {es : List Entry} → All SmallEntry es → SmallOption (find n es)
unfolding find
find_small n All.none = SmallOption.nothing
find_small n (All.more {x = e} h hs) = option_pick (same n e.name) (SmallOption.just h) (find_small n hs)

abbrev SmallTable : Table → Type 0
SmallTable t = All SmallEntry t.entries

-- what a lookup found
pub data SmallResolved : Resolved → Type 0 where
  found : {y : Symbol} {ts : List Table} → Small y → SmallResolved (Resolved.found y ts)
  undefined : SmallResolved Resolved.undefined
  full : SmallResolved Resolved.full

resolved_pick : {x y : Resolved} (b : Bool) → SmallResolved x → SmallResolved y → SmallResolved (pick b x y)
resolved_pick true h k = h
resolved_pick false h k = k

-- outside all functions
outermost_small : (n : Bytes) (gs : List Bytes) → length gs ≤ globals_limit → (b : Option ℕ) → SmallResolved (outermost (find_global n gs) b)
unfolding find_global
outermost_small n [] h none = SmallResolved.undefined
outermost_small n [] h (some k) = SmallResolved.found Small.builtin
outermost_small n (g ∷ gs) h b = go (same n g) (outermost_small n gs (omega arith) b)
  where
    go : (x : Bool) → SmallResolved (outermost (find_global n gs) b) → SmallResolved (outermost (pick x (some (length gs)) (find_global n gs)) b)
    go true k = SmallResolved.found (Small.global {k = length gs} (omega arith))
    go false k = k

capture_small : (n : Bytes) (y : Symbol) (t : Table) (ts : List Table) → SmallResolved (capture n y t ts)
capture_small n y t ts = resolved_pick (leb free_limit (length t.originals)) SmallResolved.full (SmallResolved.found Small.free)

cross_small : (n : Bytes) (t : Table) {x : Resolved} → SmallResolved x → SmallResolved (cross n t x)
cross_small n t (SmallResolved.found (Small.global h)) = SmallResolved.found (Small.global h)
cross_small n t (SmallResolved.found Small.builtin) = SmallResolved.found Small.builtin
cross_small n t (SmallResolved.found {ts = ts} Small.function) = capture_small n Symbol.function t ts
cross_small n t (SmallResolved.found {ts = ts} (Small.local {k = k})) = capture_small n (Symbol.local k) t ts
cross_small n t (SmallResolved.found {ts = ts} (Small.free {k = k})) = capture_small n (Symbol.free k) t ts
cross_small n t SmallResolved.undefined = SmallResolved.undefined
cross_small n t SmallResolved.full = SmallResolved.full

outer_small : (n : Bytes) (t : Table) (ts : List Table) {y : Option Symbol} {x : Resolved} → SmallOption y → SmallResolved x → SmallResolved (or_outer n t ts y x)
outer_small n t ts (SmallOption.just h) k = SmallResolved.found h
outer_small n t ts SmallOption.nothing k = cross_small n t k

resolve_small : (ws gs : List Bytes) (n : Bytes) {ts : List Table} → length gs ≤ globals_limit → All SmallTable ts → SmallResolved (resolve ws gs n ts)
unfolding resolve
resolve_small ws gs n h All.none = outermost_small n gs h (find_builtin n ws 0)
resolve_small ws gs n h (All.more {x = t} {xs = ts} l ls) = outer_small n t ts (find_small n l) (resolve_small ws gs n h ls)

-- The tables of an area

entries_small : (tree : Bytes) (r : List ℕ) (start n : ℕ) → All SmallEntry (back (entry_of tree) r start n)
unfolding back
entries_small tree r start zero = All.none
entries_small tree r start (suc n) = All.more (symbol_small (code_in (get_or r (start + n) 0)) (omega arith)) (entries_small tree r start n)

tables_small : (tree : Bytes) (level : ℕ) (t : List ℕ) → All SmallTable (tables_of tree level t)
unfolding tables_of table_of
tables_small tree zero t = All.none
tables_small tree (suc level) t = All.more (entries_small tree (part level t) entries_at (entries (part level t))) (tables_small tree level t)

globals_few : (tree names : Bytes) (level : ℕ) (t : List ℕ) → Good tree names level t → length (globals_in tree names t) ≤ globals_limit
unfolding globals_of
globals_few tree names level t g = omega (arith, length_back (global_name tree names) (take globals_size t) 1 (get_or (take globals_size t) 0 0), (good-globals tree names t level g).count)

-- a lookup in an area that stands well
pub lookup_small : (ws : List Bytes) (tree names : Bytes) (level : ℕ) (t : List ℕ) (n : Bytes) → Good tree names level t → SmallResolved (resolve ws (globals_in tree names t) n (tables_of tree level t))
lookup_small ws tree names level t n g = resolve_small ws (globals_in tree names t) n (globals_few tree names level t g) (tables_small tree level t)
