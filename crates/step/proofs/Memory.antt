-- Steps on the lent memory in a row, and steps on the code area alone.
use Prim.Native.Nat.{ℕ, ◌+◌}
use native.Mathlib.Omega.{arith}
use mathlib.Core.List.{[]}
use mathlib.Core.Path.{◌≡◌, refl, sym, ap, ◌∙◌}
use Rattle.definition.specs.Basic.{Bytes}
use Rattle.definition.specs.Walk.{Res, on, stop, bind, Go}
use Rattle.definition.specs.declared.reason.Refusal.{Refusal}
use Rattle.scope.specs.declared.State.{State}
use Rattle.scope.specs.declared.lent.Scope.{Scope}
use Rattle.scope.specs.Walked.{Walked, Stopped, stopped, walked}
use Rattle.std.specs.Prelude.{Ok, Err, Result}
use Rattle.scope.specs.View.{View, ended, then, outline, outline_of, Ready, Done}
use Rattle.step.specs.Memory.{Rest, state_of, symbols_of, no_symbols, settled, memory, FineState, Fine, Deeper, Keeps}
use Rattle.step.specs.Contract.{Steps}

-- Steps in a row

module _ {A B C : Type 0} where
  assoc : (x : Res View A) (f : A → View → Res View B) (g : B → View → Res View C) → bind (bind x f) g ≡ bind x (λ a v. bind (f a v) g)
  assoc (on a v) f g = refl
  assoc (stop r v) f g = refl

module _ {A B : Type 0} where
  -- nobody looks at the symbols of a refusal
  pub settled-bind : (x : Res View A) (f : A → View → Res View B) → settled (bind (settled x) f) ≡ settled (bind x f)
  settled-bind (on a v) f = refl
  settled-bind (stop r v) f = refl

-- a step after a step
pub follow : {A B C : Type 0} (x : Res View A) {y : Res View B} {z : Res View C} (f : A → View → Res View B) (g : B → View → Res View C)
    → y ≡ settled (bind x f) → z ≡ settled (bind y g) → z ≡ settled (bind x (λ a v. bind (f a v) g))
follow x f g p q = q ∙ ap (λ r. settled (bind r g)) p ∙ settled-bind (bind x f) g ∙ ap settled (assoc x f g)

-- the same of steps that give nothing but the view
pub chain : (x : Res View (Unit {0})) {y z : Res View (Unit {0})} (f g : Go View) → y ≡ settled (then x f) → z ≡ settled (then y g) → z ≡ settled (then x (λ v. then (f v) g))
chain x f g p q = follow x (λ _. f) (λ _. g) p q

module _ (tree c : Bytes) (m : Rest) where
  -- the symbols are those of the state
  memory-ended : (w : Walked) → memory tree c m w ≡ settled (ended c m.session (symbols_of tree m (state_of w)) w)
  memory-ended (Ok s) = refl
  memory-ended (Err z) = refl

-- Where a walk goes on

-- a walk that has stopped does not
pub no_way : {A : Type 0} {a : A} {v v' : View} {x : Refusal} → on a v ≡ stop x v' → ⊥
no_way e = let z : ◌≡◌ {A = ℕ} 0 1 = cc in omega arith

pub stop_deeper : {n : ℕ} {w : Walked} {x : Refusal} {s : State} → Deeper n w (Err (stopped x s))
stop_deeper = record { origin = λ t q. let z : ◌≡◌ {A = ℕ} 0 1 = cc in absurd (omega arith) }

pub on_deeper : {n : ℕ} {s t : State} → t.level ≡ s.level + n → t.names_end ≡ s.names_end → Deeper n (Ok s) (Ok t)
on_deeper {n} {s} {t} l m = record { origin = λ u q. let e : t ≡ u = cc in record { from = s; is = refl; level = rw (sym e) l; names = rw (sym e) m } }

pub keeps_refl : (w : Walked) → Keeps w w
keeps_refl w = record { origin = λ t q. record { from = t; is = q; level = omega arith; names = refl } }

pub deeper_keeps : {n : ℕ} {w v r : Walked} → Deeper n w v → Keeps v r → Deeper n w r
deeper_keeps d k =
    record {
      origin = λ t q.
          let o = k.origin t q in
          let p = d.origin o.from o.is in
          record { from = p.from; is = p.is; level = omega arith; names = o.names ∙ p.names };
    }

-- A step on the code area alone

outline_state : (w : Walked) → outline_of w ≡ outline (state_of w)
outline_state (Ok s) = refl
outline_state (Err z) = refl

module _ (tree : Bytes) (m : Rest) where
  pub same_symbols : (s t : State) → outline t ≡ outline s → symbols_of tree m t ≡ symbols_of tree m s
  same_symbols s t e = rw (ap (λ o. o.level) e, ap (λ o. o.names_end) e)

  same_fine : {s t : State} → outline t ≡ outline s → FineState tree m s → FineState tree m t
  same_fine e f =
      let l = ap (λ o. o.level) e in
      let n = ap (λ o. o.names_end) e in
      let p = ap (λ o. o.pool_end) e in
      record {
        words = rw n f.words;
        symbols = rw (l, n) f.symbols;
        level = rw l f.level;
        area = f.area;
        pool = record { area = f.pool.area; room = rw n f.pool.room; start = rw (n, p) f.pool.start; end = rw (n, p) f.pool.end };
      }

module _ (tree : Bytes) {c c' : Bytes} (m : Rest) {k : Go View} where
  pub done_step : (w r : Walked) → Done c c' w r k → memory tree c' m r ≡ settled (then (memory tree c m w) k)
  done_step w r d =
      let y = symbols_of tree m (state_of w) in
      let o : outline (state_of r) ≡ outline (state_of w) = sym (outline_state r) ∙ d.same ∙ outline_state w in
      memory-ended tree c' m r
      ∙ ap (λ y. settled (ended c' m.session y r)) (same_symbols tree m (state_of w) (state_of r) o)
      ∙ ap settled (d.step m.session y)
      ∙ sym (settled-bind (ended c m.session y w) (λ _. k))
      ∙ ap (λ x. settled (then x k)) (sym (memory-ended tree c m w))

  pub done_fine : (w r : Walked) → Done c c' w r k → Fine tree m w → Fine tree m r
  done_fine (Ok s) (Ok t) d f = same_fine tree m d.same f
  done_fine (Ok s) (Err z) d f = tt
  done_fine (Err z) (Ok t) d f = absurd (no_way (d.step [] no_symbols))
  done_fine (Err z) (Err z₂) d f = tt

  pub done_keeps : (w r : Walked) → Done c c' w r k → Keeps w r
  done_keeps (Ok s) (Ok t) d = on_deeper (omega (arith, ap (λ o. o.level) d.same)) (ap (λ o. o.names_end) d.same)
  done_keeps (Ok s) (Err z) d = stop_deeper
  done_keeps (Err z) (Ok t) d = absurd (no_way (d.step [] no_symbols))
  done_keeps (Err z) (Err z₂) d = stop_deeper

pub done_steps : {tree c c' : Bytes} {m : Rest} {k : Go View} {w r : Walked} → Fine tree m w → Done c c' w r k → Steps tree k c c' m m w r
done_steps {tree = tree} {m = m} {w = w} {r = r} f d = record { step = λ _ _. done_step tree m w r d; ready = d.ready; fine = done_fine tree m w r d f; keeps = done_keeps tree m w r d }

-- one after another
pub done_done : {c c₁ c₂ : Bytes} {w v r : Walked} {f g : Go View} → Done c c₁ w v f → Done c₁ c₂ v r g → Done c c₂ w r (λ s. then (f s) g)
done_done {c = c} {w = w} {f = f} {g = g} d h =
    record { step = λ e y. h.step e y ∙ ap (λ x. then x g) (d.step e y) ∙ assoc (ended c e y w) (λ _. f) (λ _. g); ready = h.ready; same = h.same ∙ d.same }

-- a walk that has stopped stays as it is
pub done_stays : {c : Bytes} {z : Stopped} {k : Go View} → Ready c (Err z) → Done c c (Err z) (Err z) k
done_stays h = record { step = λ _ _. refl; ready = h; same = refl }

-- after a step that is refused nothing more is done
pub done_stops : {c c' : Bytes} {w : Walked} {z : Stopped} {f : Go View} (g : Go View) → Done c c' w (Err z) f → Done c c' w (Err z) (λ s. then (f s) g)
done_stops g d = done_done {g = g} d (done_stays d.ready)

-- what a scope that is lent is always: ready, whatever a step on it answered
pub always_ready : {A : Type 0} (r : Result A Refusal) (s : Scope) → Ready s.code.now (walked r s.state)
always_ready (Ok a) s = record { area = s.area; sound = s.fits }
always_ready (Err z) s = record { area = s.area; sound = tt }
