-- A name is refused as undefined exactly when no reachable table holds it.
use Prim.Native.Nat.{ℕ, ◌+◌}
use native.Mathlib.Omega.{arith}
use mathlib.Core.Bool.{Bool, true, false}
use mathlib.Core.List.{List, [], ◌∷◌}
use mathlib.Core.Logic.{◌↔◌}
use mathlib.Core.Option.{Option, none, some}
use mathlib.Core.Path.{◌≡◌, refl, sym, ap, ◌∙◌}
use lib.ListN.{length}
use lib.Dec.{eqb, leb}
use borrow.Author.Tests.{eqb-true, eq-eqb}
use Rattle.definition.specs.Basic.{Bytes, pick}
use Rattle.definition.specs.Limit.{free_limit, code_size}
use Rattle.definition.specs.Number
use Rattle.definition.specs.Number.{refusal, number_of}
use Rattle.definition.specs.Opcode.{Instr, size}
use Rattle.definition.specs.Bytecode.{size_of}
use Rattle.definition.specs.Walk.{refuse}
use Rattle.definition.specs.SymbolTable.{Symbol, Entry, Table, Resolved, same, find, find_global, find_builtin, outermost, capture, cross, or_outer, resolve, load_of}
use Rattle.definition.specs.Compiler.{State, with_tables, emit_beside, emit, loaded, load}
use Rattle.definition.specs.Valid.{All}
use Rattle.definition.proofs.Basic.{pick_false, chosen}
use Rattle.definition.proofs.ValidSymbols.{all_first, all_rest}

-- no reachable table holds a name: no open function's, not the globals, not the session's words
pub record Unheld (bs gs : List Bytes) (n : Bytes) (ts : List Table) : Type 0 where
  pub tables : All (λ (t : Table). All (λ (e : Entry). e.name ≡ n → ⊥) t.entries) ts
  pub globals : All (λ m. m ≡ n → ⊥) gs
  pub builtins : All (λ m. m ≡ n → ⊥) bs

-- names that are the same are equal, and the other way round
pub same_equal : (x y : Bytes) → same x y ≡ true → x ≡ y
unfolding same
same_equal [] [] e = refl
same_equal [] (b ∷ y) e = cc
same_equal (a ∷ x) [] e = cc
same_equal (a ∷ x) (b ∷ y) e = go (λ q. same_equal x y q) (eqb a b) refl e
  where
    go : (same x y ≡ true → x ≡ y) → (t : Bool) → eqb a b ≡ t → pick t (same x y) false ≡ true → a ∷ x ≡ b ∷ y
    go rest true p q = cc (eqb-true a b p, rest q)
    go rest false p q = cc

pub same_self : (x : Bytes) → same x x ≡ true
unfolding same
same_self [] = refl
same_self (a ∷ x) = (λ i. pick (eq-eqb a a refl i) (same x x) false) ∙ same_self x

-- Searches

-- what a search for a name answers: something for the first item of that name
data Searched {A B : Type 0} (name : A → Bytes) (n : Bytes) : List A → Option B → Type 0 where
  end : Searched name n [] none
  item : {x : A} {xs : List A} {o : Option B} (y : B) → Searched name n xs o → Searched name n (x ∷ xs) (pick (same n (name x)) (some y) o)

-- it finds nothing exactly when no item has the name
searched_none : {A B : Type 0} {name : A → Bytes} {n : Bytes} {xs : List A} {o : Option B} → Searched name n xs o → (o ≡ none) ↔ All (λ x. name x ≡ n → ⊥) xs
searched_none Searched.end = (λ _. All.none, λ _. refl)
searched_none {name = name} {n} (Searched.item {x} {xs} {o} y s) = let rest = searched_none s in (λ e. go rest.0 (same n (name x)) refl e, λ a. back rest.1 a)
  where
    go : (o ≡ none → All (λ x. name x ≡ n → ⊥) xs) → (b : Bool) → same n (name x) ≡ b → pick b (some y) o ≡ none → All (λ x. name x ≡ n → ⊥) (x ∷ xs)
    go rest true p e = let z : ◌≡◌ {A = ℕ} 0 1 = cc in absurd (omega arith)
    go rest false p e = All.more (λ q. let t : same n (name x) ≡ true = ap (λ m. same n m) q ∙ same_self n in let z : ◌≡◌ {A = ℕ} 0 1 = cc in omega arith) (rest e)

    differ : (b : Bool) → same n (name x) ≡ b → (name x ≡ n → ⊥) → b ≡ false
    differ true p h = absurd (h (sym (same_equal n (name x) p)))
    differ false p h = refl

    back : (All (λ x. name x ≡ n → ⊥) xs → o ≡ none) → All (λ x. name x ≡ n → ⊥) (x ∷ xs) → pick (same n (name x)) (some y) o ≡ none
    back rest (All.more h hs) = pick_false (some y) o (differ (same n (name x)) refl h) ∙ rest hs

find_searched : (n : Bytes) (es : List Entry) → Searched (λ (e : Entry). e.name) n es (find n es)
unfolding find
find_searched n [] = Searched.end
find_searched n (e ∷ es) = Searched.item e.symbol (find_searched n es)

global_searched : (n : Bytes) (gs : List Bytes) → Searched (λ m. m) n gs (find_global n gs)
unfolding find_global
global_searched n [] = Searched.end
global_searched n (g ∷ gs) = Searched.item (length gs) (global_searched n gs)

builtin_searched : (n : Bytes) (ws : List Bytes) (k : ℕ) → Searched (λ m. m) n ws (find_builtin n ws k)
unfolding find_builtin
builtin_searched n [] k = Searched.end
builtin_searched n (w ∷ ws) k = Searched.item k (builtin_searched n ws (k + 1))

-- The lookup

outermost_none : (a b : Option ℕ) → (outermost a b ≡ Resolved.undefined) ↔ ((a ≡ none) × (b ≡ none))
outermost_none (some k) b = (λ e. let z : ◌≡◌ {A = ℕ} 0 1 = cc in absurd (omega arith), λ e. let p = e.0 in let z : ◌≡◌ {A = ℕ} 0 1 = cc in absurd (omega arith))
outermost_none none (some k) = (λ e. let z : ◌≡◌ {A = ℕ} 0 1 = cc in absurd (omega arith), λ e. let p = e.1 in let z : ◌≡◌ {A = ℕ} 0 1 = cc in absurd (omega arith))
outermost_none none none = (λ _. (refl, refl), λ _. refl)

capture_known : (n : Bytes) (s : Symbol) (t : Table) (ts : List Table) → capture n s t ts ≡ Resolved.undefined → ⊥
capture_known n s t ts =
    chosen (λ r. r ≡ Resolved.undefined → ⊥) (leb free_limit (length t.originals))
    (λ _ e. let z : ◌≡◌ {A = ℕ} 0 1 = cc in omega arith)
    (λ _ e. let z : ◌≡◌ {A = ℕ} 0 1 = cc in omega arith)

-- crossing a table neither loses nor finds a name
cross-undefined : (n : Bytes) (t : Table) (r : Resolved) → cross n t r ≡ Resolved.undefined → r ≡ Resolved.undefined
cross-undefined n t (Resolved.found (Symbol.global k) ts) e = let z : ◌≡◌ {A = ℕ} 0 1 = cc in absurd (omega arith)
cross-undefined n t (Resolved.found (Symbol.builtin k) ts) e = let z : ◌≡◌ {A = ℕ} 0 1 = cc in absurd (omega arith)
cross-undefined n t (Resolved.found Symbol.function ts) e = absurd (capture_known n Symbol.function t ts e)
cross-undefined n t (Resolved.found (Symbol.local k) ts) e = absurd (capture_known n (Symbol.local k) t ts e)
cross-undefined n t (Resolved.found (Symbol.free k) ts) e = absurd (capture_known n (Symbol.free k) t ts e)
cross-undefined n t Resolved.undefined e = refl
cross-undefined n t Resolved.full e = let z : ◌≡◌ {A = ℕ} 0 1 = cc in absurd (omega arith)

outer_undefined : (n : Bytes) (t : Table) (ts : List Table) (o : Option Symbol) (r : Resolved) → (or_outer n t ts o r ≡ Resolved.undefined) ↔ ((o ≡ none) × (r ≡ Resolved.undefined))
outer_undefined n t ts (some s) r = (λ e. let z : ◌≡◌ {A = ℕ} 0 1 = cc in absurd (omega arith), λ e. let p = e.0 in let z : ◌≡◌ {A = ℕ} 0 1 = cc in absurd (omega arith))
outer_undefined n t ts none r = (λ e. (refl, cross-undefined n t r e), λ e. ap (cross n t) e.1)

module _ (bs gs : List Bytes) (n : Bytes) where
  -- the lookup finds nothing exactly when no reachable table holds the name
  pub resolve-undefined : (ts : List Table) → (resolve bs gs n ts ≡ Resolved.undefined) ↔ Unheld bs gs n ts
  unfolding resolve
  resolve-undefined [] =
      let g = searched_none (global_searched n gs) in
      let b = searched_none (builtin_searched n bs 0) in
      let both = outermost_none (find_global n gs) (find_builtin n bs 0) in
      (λ e. record { tables = All.none; globals = g.0 (both.0 e).0; builtins = b.0 (both.0 e).1 }, λ u. both.1 (g.1 u.globals, b.1 u.builtins))
  resolve-undefined (t ∷ ts) =
      let rest = resolve-undefined ts in
      let here = searched_none (find_searched n t.entries) in
      let both = outer_undefined n t ts (find n t.entries) (resolve bs gs n ts) in
      (λ e. more (here.0 (both.0 e).0) (rest.0 (both.0 e).1), λ u. both.1 (here.1 (first u), rest.1 (others u)))
    where
      more : All (λ (e : Entry). e.name ≡ n → ⊥) t.entries → Unheld bs gs n ts → Unheld bs gs n (t ∷ ts)
      more h u = record { tables = All.more h u.tables; globals = u.globals; builtins = u.builtins }

      first : Unheld bs gs n (t ∷ ts) → All (λ (e : Entry). e.name ≡ n → ⊥) t.entries
      first u = all_first u.tables

      others : Unheld bs gs n (t ∷ ts) → Unheld bs gs n ts
      others u = record { tables = all_rest u.tables; globals = u.globals; builtins = u.builtins }

-- an emission is not refused 5
emit_known : (p : ℕ) (i : Instr) (s t : State) → emit p i s ≡ refuse Number.undefined p t → ⊥
unfolding emit_beside
emit_known p i s t =
    chosen (λ r. r ≡ refuse Number.undefined p t → ⊥) (leb (s.around + size_of s.code + 0 + size i) code_size)
    (λ _ e. let z : ◌≡◌ {A = ℕ} 0 1 = cc in omega arith)
    (λ _ e. let q : refusal Number.code p ≡ refusal Number.undefined p = cc in omega (arith, ap (λ r. (number_of r.reason)) q))

-- Number 5 at an Identifier: exactly when no reachable table holds its name
pub load-undefined : (p : ℕ) (n : Bytes) (s : State) → (load p n s ≡ refuse Number.undefined p s) ↔ Unheld s.words s.globals n s.tables
unfolding load
load-undefined p n s = (λ e. (resolve-undefined s.words s.globals n s.tables).0 (go (resolve s.words s.globals n s.tables) e), λ u. ap (loaded p s) ((resolve-undefined s.words s.globals n s.tables).1 u))
  where
    go : (r : Resolved) → loaded p s r ≡ refuse Number.undefined p s → r ≡ Resolved.undefined
    go (Resolved.found y ts) e = absurd (emit_known p (load_of y) (with_tables ts s) s e)
    go Resolved.undefined e = refl
    go Resolved.full e = let q : refusal Number.captures p ≡ refusal Number.undefined p = cc in absurd (omega (arith, ap (λ r. (number_of r.reason)) q))
