-- Lookups and definitions keep the number of tables, and definitions extend the globals.
use Prim.Native.Nat.{ℕ, suc}
use mathlib.Core.Bool.{Bool, true, false}
use mathlib.Core.List.{List, [], ◌∷◌, ◌++◌, append_assoc}
use mathlib.Core.Option.{Option, none, some}
use mathlib.Core.Path.{◌≡◌, refl, sym, ap, ◌∙◌}
use lib.ListN.{length}
use lib.Dec.{leb}
use Rattle.definition.specs.Basic.{Bytes, pick}
use Rattle.definition.specs.Limit.{globals_limit, locals_limit, free_limit}
use Rattle.definition.specs.Opcode.{Instr}
use Rattle.definition.specs.SymbolTable.{Symbol, Table, Resolved, Defined, find_global, find_builtin, find, outermost, capture, cross, or_outer, resolve, place}
use Rattle.refinement.specs.Relation.{Extends}
use Rattle.definition.specs.declared.reason.Reason.{Reason}

-- the tables after a lookup
pub data Looked (k : ℕ) : Resolved → Type 0 where
  found : {y : Symbol} {ts : List Table} → length ts ≡ k → Looked k (Resolved.found y ts)
  undefined : Looked k Resolved.undefined
  full : Looked k Resolved.full

-- one of two lookups
looked_pick : {k : ℕ} {x y : Resolved} (b : Bool) → Looked k x → Looked k y → Looked k (pick b x y)
looked_pick true h h' = h
looked_pick false h h' = h'

-- outside all functions there is no table
outermost_looked : (g b : Option ℕ) → Looked 0 (outermost g b)
outermost_looked (some k) b = Looked.found refl
outermost_looked none (some k) = Looked.found refl
outermost_looked none none = Looked.undefined

-- a free symbol more
capture_looked : {k : ℕ} (n : Bytes) (y : Symbol) (t : Table) (ts : List Table) → length ts ≡ k → Looked (suc k) (capture n y t ts)
capture_looked n y t ts e = looked_pick (leb free_limit (length t.originals)) Looked.full (Looked.found (ap suc e))

-- through a table
cross_looked : {k : ℕ} (n : Bytes) (t : Table) {x : Resolved} → Looked k x → Looked (suc k) (cross n t x)
cross_looked n t (Looked.found {y = Symbol.global k} e) = Looked.found (ap suc e)
cross_looked n t (Looked.found {y = Symbol.builtin k} e) = Looked.found (ap suc e)
cross_looked n t (Looked.found {y = Symbol.function} {ts = ts} e) = capture_looked n Symbol.function t ts e
cross_looked n t (Looked.found {y = Symbol.local k} {ts = ts} e) = capture_looked n (Symbol.local k) t ts e
cross_looked n t (Looked.found {y = Symbol.free k} {ts = ts} e) = capture_looked n (Symbol.free k) t ts e
cross_looked n t Looked.undefined = Looked.undefined
cross_looked n t Looked.full = Looked.full

-- in a table or outside of it
outer_looked : (n : Bytes) (t : Table) (ts : List Table) (y : Option Symbol) {x : Resolved} → Looked (length ts) x → Looked (suc (length ts)) (or_outer n t ts y x)
outer_looked n t ts (some y) h = Looked.found refl
outer_looked n t ts none h = cross_looked n t h

-- a lookup
pub resolve_depth : (bs gs : List Bytes) (n : Bytes) (ts : List Table) → Looked (length ts) (resolve bs gs n ts)
unfolding resolve
resolve_depth bs gs n [] = outermost_looked (find_global n gs) (find_builtin n bs 0)
resolve_depth bs gs n (t ∷ ts) = outer_looked n t ts (find n t.entries) (resolve_depth bs gs n ts)

-- the globals and the tables after a definition
pub data Placed (k : ℕ) (gs : List Bytes) : Defined → Type 0 where
  defined : (i : Instr) {gs' : List Bytes} {ts : List Table} → Extends gs gs' → length ts ≡ k → Placed k gs (Defined.defined i gs' ts)
  no_room : (m : Reason) → Placed k gs (Defined.no_room m)

-- one of two definitions
placed-pick : {k : ℕ} {gs : List Bytes} {x y : Defined} (b : Bool) → Placed k gs x → Placed k gs y → Placed k gs (pick b x y)
placed-pick true h h' = h
placed-pick false h h' = h'

-- a definition
pub place_depth : (n : Bytes) (gs : List Bytes) (ts : List Table) → Placed (length ts) gs (place n gs ts)
place_depth n gs [] = placed-pick (leb globals_limit (length gs)) (Placed.no_room _) (Placed.defined _ (record { more = n ∷ []; same = refl }) refl)
place_depth n gs (t ∷ ts) = placed-pick (leb locals_limit t.definitions) (Placed.no_room _) (Placed.defined _ (record { more = []; same = refl }) refl)

-- an extension of an extension
pub extends_more : {A : Type 0} {xs ys zs : List A} → Extends xs ys → Extends ys zs → Extends xs zs
extends_more {xs = xs} f g = record { more = g.more ++ f.more; same = g.same ∙ ap (λ l. g.more ++ l) f.same ∙ sym (append_assoc g.more f.more xs) }
