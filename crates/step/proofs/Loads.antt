-- The loads of captured originals.
use Prim.Native.Nat.{ℕ, zero, suc, ◌+◌, ◌-◌, ◌*◌, ◌≤◌, ◌<◌}
use native.Mathlib.Omega.{arith}
use native.Mathlib.Numerals.{add-one}
use mathlib.Core.List.{List, [], ◌∷◌, map}
use mathlib.Core.Path.{◌≡◌, refl, sym, ap, subst, ◌∙◌}
use lib.ListN.{length, get_or}
use Rattle.definition.specs.Basic.{Bytes}
use Rattle.definition.specs.Opcode.{instr, width, size}
use Rattle.definition.specs.SymbolTable.{Symbol, load_of}
use Rattle.definition.proofs.Instructions.{width_most}
use Rattle.symbol_table.specs.Layout.{part, symbol_of, back, originals_of, symbols_in}
use Rattle.symbol_table.proofs.Back.{back_none, back_next}
use Rattle.definition.specs.declared.reason.Refusal.{Refusal}
use Rattle.scope.specs.Lent.{Emits}
use Rattle.scope.specs.Walked.{Walked, Stopped, stopped}
use Rattle.scope.specs.declared.State.{State}
use Rattle.scope.specs.declared.lent.Scope.{Scope}
use Rattle.std.specs.Prelude.{Ok, Err}
use Rattle.std.specs.List.{sum}
use Rattle.std.proofs.lemmas.List.Sums.{sum_by-cons}
use Rattle.scope.specs.View.{Ready, Done}
use Rattle.scope.specs.Machine.{emit, loads_size, loads}
use Rattle.step.proofs.Memory.{done_done, done_stops}

-- the originals of the function at a level
abbrev pub captured : List ℕ → ℕ → List Symbol
captured t l = originals_of (part l t) (get_or (part l t) 2 0)

-- the symbols of the first so many codes
abbrev firsts : List ℕ → ℕ → List Symbol
firsts cs i = back symbol_of cs 0 i

-- one more at a time
firsts_more : (cs : List ℕ) (i : ℕ) → firsts cs (i + 1) ≡ symbol_of (get_or cs i 0) ∷ firsts cs i
firsts_more cs i = let e : 0 + i ≡ i = omega arith in rw (add-one i) (back_next symbol_of cs 0 i ∙ ap (λ k. symbol_of (get_or cs k 0) ∷ firsts cs i) e)

firsts_none : (cs : List ℕ) → firsts cs 0 ≡ []
firsts_none cs = back_none symbol_of cs 0 0 (omega arith)

-- the bytes of the load of a code
abbrev pub size_of : ℕ → ℕ
size_of k = size (load_of (symbol_of k))

pub same_size : (k : ℕ) {o a x : ℕ} → instr o a 0 ≡ load_of (symbol_of k) → x ≡ width o → 1 + x ≡ size_of k
same_size k j e = ap (λ x. 1 + x) e ∙ ap size j

-- the symbols of codes in front of others
behind : (c : ℕ) (cs : List ℕ) (n : ℕ) → loads_size (back symbol_of (c ∷ cs) 0 (suc n)) ≡ loads_size (back symbol_of cs 0 n) + size_of c
unfolding back
behind c cs zero = omega arith
behind c cs (suc n) =
    let e : 0 + suc n ≡ suc (0 + n) = omega arith in
    let last : size_of (get_or (c ∷ cs) (0 + suc n) 0) ≡ size_of (get_or cs (0 + n) 0) = ap (λ i. size_of (get_or (c ∷ cs) i 0)) e in
    omega (arith, behind c cs n, last)

-- the sum of the sizes
pub sizes_sum : (cs : List ℕ) → sum (map size_of cs) ≡ loads_size (symbols_in cs)
unfolding back
sizes_sum [] = refl
sizes_sum (c ∷ cs) = omega (arith, sizes_sum cs, behind c cs (length cs), sum_by-cons (λ x. x) (size_of c) (map size_of cs))

-- at most four bytes each
pub sizes_small : (cs : List ℕ) → sum (map size_of cs) ≤ 4 * length cs
sizes_small [] = omega arith
sizes_small (c ∷ cs) = omega (arith, sizes_small cs, width_most (load_of (symbol_of c)).op, sum_by-cons (λ x. x) (size_of c) (map size_of cs))

-- nothing to load
pub loads_none : (p : ℕ) (r : List ℕ) {c : Bytes} {s : State} → Ready c (Ok s) → Done c c (Ok s) (Ok s) (loads p (firsts r 0))
unfolding loads
loads_none p r h = rw (firsts_none r) (record { step = λ e y. refl; ready = h; same = refl })

pub loads_more : (p : ℕ) (r : List ℕ) (i : ℕ) {k o a : ℕ} {c c₁ c₂ : Bytes} {w v u : Walked} → Done c c₁ w v (loads p (firsts r i)) → k ≡ get_or r i 0 → instr o a 0 ≡ load_of (symbol_of k) → Done c₁ c₂ v u (emit p (instr o a 0))
    → Done c c₂ w u (loads p (firsts r (i + 1)))
unfolding loads
loads_more p r i {c₁ = c₁} {c₂ = c₂} {v = v} {u = u} d q j h = rw (firsts_more r i) (done_done d (subst (λ x. Done c₁ c₂ v u (emit p x)) (j ∙ ap (λ k. load_of (symbol_of k)) q) h))

-- a walk that has stopped at one of them loads no more
loads_stopped : (p : ℕ) (r : List ℕ) (i k : ℕ) {c c' : Bytes} {w : Walked} {z : Stopped} → Done c c' w (Err z) (loads p (firsts r i)) → Done c c' w (Err z) (loads p (firsts r (i + k)))
unfolding loads
loads_stopped p r i zero {c} {c'} {w} {z} d = let e : i + 0 ≡ i = omega arith in subst (λ n. Done c c' w (Err z) (loads p (firsts r n))) (sym e) d
loads_stopped p r i (suc k) {c} {c'} {w} {z} d =
    let e : i + suc k ≡ i + k + 1 = omega arith in
    subst (λ n. Done c c' w (Err z) (loads p (firsts r n))) (sym e)
    (rw (firsts_more r (i + k)) (done_stops (emit p (load_of (symbol_of (get_or r (i + k) 0)))) (loads_stopped p r i k d)))

-- The loop: the originals before an index are loaded

pub record LoadTurn (p : ℕ) (r : List ℕ) (s t : Scope) (i : ℕ) : Type 0 where
  pub done : Done s.code.now t.code.now (Ok s.state) (Ok t.state) (loads p (firsts r i))
  pub same : t.code.ghost_name ≡ s.code.ghost_name

module _ (p : ℕ) (r : List ℕ) {s : Scope} where
  pub load_holds : LoadTurn p r s s 0
  load_holds = record { done = loads_none p r (record { area = s.area; sound = s.fits }); same = refl }

  module _ {t : Scope} {i : ℕ} (h : LoadTurn p r s t i) {k o a : ℕ} (q : k ≡ get_or r i 0) (j : instr o a 0 ≡ load_of (symbol_of k)) where
    pub load_again : {u : Scope} → Emits t u (Ok tt) (emit p (instr o a 0)) → LoadTurn p r s u (i + 1)
    load_again d = record { done = loads_more p r i h.done q j d.done; same = d.same ∙ h.same }

    pub load_stops : {u : Scope} {z : Refusal} → i < length r → Emits t u (Err z) (emit p (instr o a 0)) → Emits s u (Err z) (loads p (symbols_in r))
    load_stops {u} {z} l d =
        let n = length r in
        let m = n - (i + 1) in
        let e : i + 1 + m ≡ n = omega arith in
        record {
          done = subst (λ x. Done s.code.now u.code.now (Ok s.state) (Err (stopped z u.state)) (loads p (firsts r x))) e (loads_stopped p r (i + 1) m (loads_more p r i h.done q j d.done));
          same = d.same ∙ h.same;
        }
