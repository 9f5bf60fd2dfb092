-- Steps and walks in a row on the lent memory: what each promises, and what they promise together.
use Prim.Native.Nat.{ℕ, ◌≤◌}
use mathlib.Core.Path.{◌≡◌, refl, ap, ◌∙◌}
use lib.ListN.{length}
use Rattle.definition.specs.Basic.{Bytes}
use Rattle.definition.specs.Limit.{code_size}
use Rattle.definition.specs.Number.{refusal}
use Rattle.definition.specs.Walk.{Res, on, refuse, bind, Go}
use Rattle.definition.specs.declared.reason.Reason.{Reason}
use Rattle.definition.specs.declared.reason.Refusal.{Refusal}
use Rattle.scope.specs.View.{Symbols, View, view, ended, ended_at, then, Ready, Done, Jumped}
use Rattle.scope.specs.Walked.{Walked, Stopped, walked, stopped}
use Rattle.scope.specs.declared.State.{State}
use Rattle.std.specs.Prelude.{Ok, Err, Result}
use Rattle.step.specs.Memory.{Rest, symbols_of, settled, answered, memory, Fine, Walks}
use Rattle.step.proofs.Memory.{chain, follow, keeps_refl, deeper_keeps, same_symbols, done_steps}

-- Walks in a row

-- two things that stand there
abbrev pub Both : {A B : Type 0} → (A → Type 0) → (B → Type 0) → A × B → Type 0
Both R Q p = R p.0 × Q p.1

module _ {tree : Bytes} {A : Type 0} {R : A → Type 0} {k : A → Go View} {c c' : Bytes} {m m' : Rest} where
  -- the same walk, of what stands there by another name
  pub walks_as : {B : Type 0} {Q : B → Type 0} {l : B → Go View} {w r : Walked} → ((b : B) → Q b → (a : A) × R a × (l b ≡ k a)) → Walks tree R k c c' m m' w r → Walks tree Q l c c' m m' w r
  walks_as f d = record { step = λ b q. let i = f b q in rw i.2 (d.step i.0 i.1); ready = d.ready; fine = d.fine; keeps = d.keeps }

-- a walk, and then a walk
pub walk_walk : {tree : Bytes} {A B : Type 0} {R : A → Type 0} {Q : B → Type 0} {k : A → Go View} {l : B → Go View} {c c₁ c₂ : Bytes} {m m₁ m₂ : Rest} {w v r : Walked}
    → Walks tree R k c c₁ m m₁ w v → Walks tree Q l c₁ c₂ m₁ m₂ v r → Walks tree (Both R Q) (λ p s. then (k p.0 s) (l p.1)) c c₂ m m₂ w r
walk_walk {tree} {k = k} {l = l} {c = c} {m = m} {w = w} d e =
    record {
      step = λ p h. chain (memory tree c m w) (k p.0) (l p.1) (d.step p.0 h.0) (e.step p.1 h.1);
      ready = e.ready;
      fine = e.fine;
      keeps = deeper_keeps d.keeps e.keeps;
    }

-- a walk, and then a step on the code area
pub walk_done : {tree : Bytes} {A : Type 0} {R : A → Type 0} {k : A → Go View} {g : Go View} {c c₁ c₂ : Bytes} {m m₁ : Rest} {w v r : Walked}
    → Walks tree R k c c₁ m m₁ w v → Done c₁ c₂ v r g → Walks tree R (λ a s. then (k a s) g) c c₂ m m₁ w r
walk_done d e = walks_as (λ a h. ((a, tt), (h, tt), refl)) (walk_walk d (done_steps d.fine e))

-- a refusal
pub done_refuses : {c : Bytes} {s : State} {n : Reason} {p : ℕ} {r : Result (Unit {0}) Refusal} → code_size ≤ length c → r ≡ Err (refusal n p) → Done c c (Ok s) (walked r s) (refuse n p)
done_refuses h q = rw q (record { step = λ _ _. refl; ready = record { area = h; sound = tt }; same = refl })

-- A walk that has stopped stays as it is
module _ {c : Bytes} {z : Stopped} (h : Ready c (Err z)) where
  pub walk_stays : {tree : Bytes} {A : Type 0} {R : A → Type 0} {k : A → Go View} {m : Rest} → Walks tree R k c c m m (Err z) (Err z)
  walk_stays = record { step = λ _ _. refl; ready = h; fine = tt; keeps = keeps_refl (Err z) }

-- A jump

module _ {c c' : Bytes} {s t : State} {f : View → Res View ℕ} where
  -- its position forgotten
  jumped_done : (r : Result ℕ Refusal) → Jumped c c' (Ok s) r t f → Done c c' (Ok s) (walked r t) (λ v. bind (f v) (λ _. on tt))
  jumped_done r d = record { step = λ e y. forgot r e y ∙ ap (λ x. bind x (λ _. on tt)) (d.step e y); ready = d.ready; same = d.same }
    where
      forgot : (r : Result ℕ Refusal) (e : Bytes) (y : Symbols) → ended c' e y (walked r t) ≡ bind (ended_at c' e y r t) (λ _. on tt)
      forgot (Ok n) e y = refl
      forgot (Err z) e y = refl

  -- the memory is fine after it
  pub jumped_fine : {tree : Bytes} {m : Rest} {n : ℕ} → Jumped c c' (Ok s) (Ok n) t f → Fine tree m (Ok s) → Fine tree m (Ok t)
  jumped_fine {n = n} d h = (done_steps h (jumped_done (Ok n) d)).fine

  -- with its position, on the whole memory
  jumped_answer : (tree : Bytes) (m : Rest) (r : Result ℕ Refusal) → Jumped c c' (Ok s) r t f → answered tree c' m r t ≡ settled (bind (memory tree c m (Ok s)) (λ _. f))
  jumped_answer tree m (Ok n) d = ap (λ y. on n (view c' m.session y t)) (same_symbols tree m s t d.same) ∙ ap settled (d.step m.session (symbols_of tree m s))
  jumped_answer tree m (Err z) d = ap settled (d.step m.session (symbols_of tree m s))

  module _ {tree : Bytes} {A : Type 0} {R : A → Type 0} (k : ℕ → A → Go View) {m : Rest} (h : Fine tree m (Ok s)) where
    -- a walk after it, to which its position is given
    pub jump_walk : {n : ℕ} {c₂ : Bytes} {m₁ : Rest} {r : Walked} → Jumped c c' (Ok s) (Ok n) t f → Walks tree R (k n) c' c₂ m m₁ (Ok t) r → Walks tree R (λ a v. bind (f v) (λ at. k at a)) c c₂ m m₁ (Ok s) r
    jump_walk {n} d e =
        record {
          step = λ a i. follow (memory tree c m (Ok s)) (λ _. f) (λ at. k at a) (jumped_answer tree m (Ok n) d) (e.step a i);
          ready = e.ready;
          fine = e.fine;
          keeps = deeper_keeps (done_steps h (jumped_done (Ok n) d)).keeps e.keeps;
        }

    -- it is refused
    pub jump_refused : {z : Refusal} → Jumped c c' (Ok s) (Err z) t f → Walks tree R (λ a v. bind (f v) (λ at. k at a)) c c' m m (Ok s) (Err (stopped z t))
    jump_refused {z} d =
        record {
          step = λ a i. follow (memory tree c m (Ok s)) (λ _. f) (λ at. k at a) (jumped_answer tree m (Err z) d) refl;
          ready = d.ready;
          fine = tt;
          keeps = (done_steps h (jumped_done (Err z) d)).keeps;
        }
