-- What the captures of the open functions weigh: the bytes of the loads that a closing function emits for them. A name that is looked up
-- adds two at most to the innermost table, and to each table no more than to the one inside it.
use Prim.Native.Nat.{ℕ, ◌+◌, ◌≤◌}
use native.Mathlib.Omega.{arith}
use mathlib.Core.List.{List, [], ◌∷◌}
use mathlib.Core.Path.{◌≡◌, refl}
use lib.ListN.{length}
use lib.Dec.{leb}
use Rattle.std.proofs.Math.Option.{Option, none, some}
use Rattle.definition.specs.Basic.{Bytes}
use Rattle.definition.specs.Limit.{free_limit}
use Rattle.definition.specs.Opcode.{size}
use Rattle.definition.specs.SymbolTable.{Symbol, Table, Resolved, find, find_global, find_builtin, outermost, with_free, capture, cross, or_outer, resolve, load_of, with_local, named, with_params}
use Rattle.definition.proofs.Basic.{chosen}

-- the bytes of the loads
abbrev pub weight : List Symbol → ℕ
weight [] = 0
weight (y ∷ ys) = weight ys + size (load_of y)

-- of the innermost open function's captures
abbrev pub held : List Table → ℕ
held [] = 0
held (t ∷ ts) = weight t.originals

-- tables before and after: none lighter, and each grown by no more than the one inside it
pub data Chained : List Table → List Table → Type 0 where
  empty : Chained [] []
  inner : {t u : Table} {ts us : List Table} → weight t.originals ≤ weight u.originals
      → held us + weight t.originals ≤ held ts + weight u.originals → Chained ts us → Chained (t ∷ ts) (u ∷ us)

pub chained_same : (ts : List Table) → Chained ts ts
chained_same [] = Chained.empty
chained_same (t ∷ ts) = Chained.inner {t = t} {u = t} {ts = ts} {us = ts} (omega arith) (omega arith) (chained_same ts)

pub chained_then : {ts us vs : List Table} → Chained ts us → Chained us vs → Chained ts vs
chained_then Chained.empty Chained.empty = Chained.empty
chained_then (Chained.inner {t} {u} {ts} {us} a b c) (Chained.inner {u =
    v} {us = vs} d e f) = Chained.inner {t = t} {u = v} {ts = ts} {us = vs} (omega arith) (omega arith) (chained_then c f)

pub chained_held : {ts us : List Table} → Chained ts us → held ts ≤ held us
chained_held Chained.empty = omega arith
chained_held (Chained.inner a b c) = a

-- what a name that is looked up may add
abbrev pub extra : Symbol → ℕ
extra (Symbol.global k) = 0
extra (Symbol.local k) = 0
extra (Symbol.builtin k) = 0
extra (Symbol.free k) = 2
extra Symbol.function = 0

-- its load and that together
pub load_pays : (y : Symbol) → size (load_of y) + extra y ≤ 4
load_pays (Symbol.global k) = omega arith
load_pays (Symbol.local k) = omega arith
load_pays (Symbol.builtin k) = omega arith
load_pays (Symbol.free k) = omega arith
load_pays Symbol.function = omega arith

pub extra_most : (y : Symbol) → extra y ≤ 2
extra_most (Symbol.global k) = omega arith
extra_most (Symbol.local k) = omega arith
extra_most (Symbol.builtin k) = omega arith
extra_most (Symbol.free k) = omega arith
extra_most Symbol.function = omega arith

-- the tables after a lookup
pub record Looked (ts us : List Table) (y : Symbol) : Type 0 where
  pub chained : Chained ts us
  pub within : held us ≤ held ts + extra y

pub data Finding (ts : List Table) : Resolved → Type 0 where
  found : {y : Symbol} {us : List Table} → Looked ts us y → Finding ts (Resolved.found y us)
  undefined : Finding ts Resolved.undefined
  full : Finding ts Resolved.full

-- nothing changes
unchanged : (ts : List Table) (y : Symbol) → Finding ts (Resolved.found y ts)
unchanged ts y = Finding.found {y = y} {us = ts} (record { chained = chained_same ts; within = omega arith })

-- through a table
passed : (t : Table) {ts us : List Table} (y : Symbol) → Looked ts us y → extra y ≡ 0 → Finding (t ∷ ts) (Resolved.found y (t ∷ us))
passed t {ts} {us} y l e =
    Finding.found {y = y} {us = t ∷ us} (record { chained = Chained.inner {t = t} {u = t} {ts = ts} {us = us} (omega arith) (omega (arith, l.within)) l.chained; within = omega arith })

-- captured
captured : (n : Bytes) (s : Symbol) (t : Table) {ts us : List Table} → Looked ts us s → extra s ≤ size (load_of s) → size (load_of s) ≤ 2
    → Finding (t ∷ ts) (capture n s t us)
captured n s t {ts} {us} l e h =
    let a : weight t.originals ≤ weight (with_free n s t).originals = omega arith in
    let b : held us + weight t.originals ≤ held ts + weight (with_free n s t).originals = omega (arith, l.within) in
    let c : held (with_free n s t ∷ us) ≤ held (t ∷ ts) + 2 = omega arith in
    chosen (Finding (t ∷ ts)) (leb free_limit (length t.originals)) (λ _. Finding.full) (λ _. Finding.found {y = Symbol.free (length t.originals)} (record { chained = Chained.inner a b l.chained; within = c }))

crossed : (n : Bytes) (t : Table) {ts : List Table} {r : Resolved} → Finding ts r → Finding (t ∷ ts) (cross n t r)
crossed n t (Finding.found {y = Symbol.global k} l) = passed t (Symbol.global k) l refl
crossed n t (Finding.found {y = Symbol.builtin k} l) = passed t (Symbol.builtin k) l refl
crossed n t (Finding.found {y = Symbol.function} l) = captured n Symbol.function t l (omega arith) (omega arith)
crossed n t (Finding.found {y = Symbol.local k} l) = captured n (Symbol.local k) t l (omega arith) (omega arith)
crossed n t (Finding.found {y = Symbol.free k} l) = captured n (Symbol.free k) t l (omega arith) (omega arith)
crossed n t Finding.undefined = Finding.undefined
crossed n t Finding.full = Finding.full

-- a lookup
pub finding : (bs gs : List Bytes) (n : Bytes) (ts : List Table) → Finding ts (resolve bs gs n ts)
unfolding resolve
finding bs gs n [] = go (find_global n gs) (find_builtin n bs 0)
  where
    go : (a b : Option ℕ) → Finding [] (outermost a b)
    go (some k) b = unchanged [] (Symbol.global k)
    go none (some k) = unchanged [] (Symbol.builtin k)
    go none none = Finding.undefined
finding bs gs n (t ∷ ts) = go (find n t.entries) (finding bs gs n ts)
  where
    go : (o : Option Symbol) {r : Resolved} → Finding ts r → Finding (t ∷ ts) (or_outer n t ts o r)
    go (some s) f = unchanged (t ∷ ts) s
    go none f = crossed n t f

-- a function that is opened has captured nothing
pub opened_none : (n : Bytes) (ps : List Bytes) → weight (with_params ps (named n)).originals ≡ 0
opened_none n ps = go ps (named n) (start n)
  where
    start : (n : Bytes) → weight (named n).originals ≡ 0
    start [] = refl
    start (b ∷ bs) = refl

    go : (ps : List Bytes) (t : Table) → weight t.originals ≡ 0 → weight (with_params ps t).originals ≡ 0
    go [] t e = e
    go (p ∷ ps) t e = go ps (with_local p t) e
