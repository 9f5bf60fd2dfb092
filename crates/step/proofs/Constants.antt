-- A constant more behind the pool.
use Prim.Native.Nat.{ℕ, ◌+◌, ◌≤◌, ◌<◌}
use native.Mathlib.Omega.{arith}
use mathlib.Core.Bool.{Bool, true, false}
use mathlib.Core.List.{List}
use mathlib.Core.Path.{◌≡◌, refl, sym, ◌∙◌}
use lib.Dec.{leb}
use lib.ListN.{length}
use lib.Seq.{sets, length-sets}
use borrow.Author.Tests.{le-leb, lt-leb, leb-true, leb-false}
use Rattle.definition.specs.Basic.{Bytes, pick}
use Rattle.definition.specs.Limit.{code_size, constants_limit, pool_limit}
use Rattle.definition.specs.Number
use Rattle.definition.specs.Field.{field}
use Rattle.definition.specs.Opcode.{instr, op_constant}
use Rattle.definition.specs.Walk.{on, refuse}
use Rattle.field.specs.Layout.{content}
use Rattle.scope.specs.declared.State.{State}
use Rattle.definition.specs.Number.{refusal}
use Rattle.definition.specs.declared.reason.Refusal.{Refusal}
use Rattle.scope.specs.Walked.{Walked, stopped}
use Rattle.std.specs.Prelude.{Ok, Err}
use Rattle.scope.specs.View.{View, view, Done}
use Rattle.scope.specs.Machine.{with_constant, add_constant, emit, literal}
use Rattle.session.proofs.Stores.{take_sets}
use Rattle.step.specs.Memory.{rest, symbols_of, memory, RoomyState, FineState}
use Rattle.step.specs.Contract.{Steps, StepsBeside, has_room, Adds}
use Rattle.step.proofs.Memory.{follow, stop_deeper, on_deeper, deeper_keeps, done_steps}

-- The test for room
module _ (n : ℕ) (s : State) where
  -- what it says where it holds
  pub room_true : {b : Bool} → b ≡ has_room n s → b ≡ true → (s.constants < constants_limit) × (s.pool_end + (3 + n) ≤ s.names_end + 3 + pool_limit)
  room_true q t = go (leb constants_limit s.constants) refl (sym q ∙ t)
    where
      go : (x : Bool) → leb constants_limit s.constants ≡ x → pick x false (leb (s.pool_end + (3 + n)) (s.names_end + 3 + pool_limit)) ≡ true
          → (s.constants < constants_limit) × (s.pool_end + (3 + n) ≤ s.names_end + 3 + pool_limit)
      go true e r = absurd (let z : ◌≡◌ {A = ℕ} 0 1 = cc in omega arith)
      go false e r = (leb-false constants_limit s.constants e, leb-true (s.pool_end + (3 + n)) (s.names_end + 3 + pool_limit) r)

-- What the code needs on the way
module _ {e : Bytes} {s : State} (m : RoomyState e s) (n : ℕ) {t : Bool} (h : t ≡ has_room n s) (y : t ≡ true) where
  pub roomy_write : s.pool_end + (3 + n) ≤ length e
  roomy_write = let r = room_true n s h y in omega (arith, m)

-- The machine's step by that test
module _ (p tag : ℕ) (b : Bytes) (v : View) where
  add_room : has_room (length b) v.state ≡ true → add_constant p tag b v ≡ on v.state.constants (view v.code (sets v.session v.state.pool_end (field tag b)) v.symbols (with_constant (length b) v.state))
  unfolding add_constant
  add_room t = let r = room_true (length b) v.state refl t in rw (lt-leb constants_limit v.state.constants r.0, le-leb (v.state.pool_end + (3 + length b)) (v.state.names_end + 3 + pool_limit) r.1)

  add_full : has_room (length b) v.state ≡ false → add_constant p tag b v ≡ refuse Number.pool p v
  unfolding add_constant
  add_full t = go (leb constants_limit v.state.constants) t
    where
      go : (x : Bool) → pick x false (leb (v.state.pool_end + (3 + length b)) (v.state.names_end + 3 + pool_limit)) ≡ false
          → pick x (refuse Number.pool p v)
          (pick (leb (v.state.pool_end + (3 + length b)) (v.state.names_end + 3 + pool_limit))
          (on v.state.constants (view v.code (sets v.session v.state.pool_end (field tag b)) v.symbols (with_constant (length b) v.state)))
          (refuse Number.pool p v)) ≡ refuse Number.pool p v
      go true e = refl
      go false e = rw e

-- What was added, as the code does it
module _ (p tag : ℕ) (b e : Bytes) where
  -- the names stay, and so does what stands before the pool's end
  constant_fine : {tree : Bytes} {t : List ℕ} {s : State} → s.pool_end + (3 + length b) ≤ s.names_end + 3 + pool_limit → FineState tree (rest e t) s
      → FineState tree (rest (sets e s.pool_end (field tag b)) t) (with_constant (length b) s)
  constant_fine {s = s} h f =
      record {
        words = rw (take_sets e s.pool_end s.names_end (field tag b) (omega (arith, f.pool.start))) f.words;
        symbols = rw (take_sets e s.pool_end s.names_end (field tag b) (omega (arith, f.pool.start))) f.symbols;
        level = f.level;
        area = f.area;
        pool = record { area = simp length-sets f.pool.area; room = f.pool.room; start = omega (arith, f.pool.start); end = h };
      }

  module _ {s : State} where
    pub adds_on : (n : ℕ) {t : Bool} {e' : Bytes} {s' : State} → RoomyState e s → n ≡ length b → t ≡ has_room n s → t ≡ true → e' ≡ sets e s.pool_end (field tag b) → s' ≡ with_constant n s
        → Adds (add_constant p tag b) e e' s s' (Ok s.constants)
    adds_on n k l o y st i =
        let y' : has_room (length b) s ≡ true = rw (sym l) (sym o ∙ y) in
        let r = room_true (length b) s refl y' in
        rw (st, i, l)
        (record {
          step = λ tree c u. rw (add_room p tag b (view c e (symbols_of tree (rest e u) s) s) y', take_sets e s.pool_end s.names_end (field tag b) (omega (arith, k.start)));
          fine = λ tree u f. constant_fine r.1 f;
          keeps = on_deeper (omega arith) refl;
          chunk = refl;
        })

    pub adds_full : (n : ℕ) {t : Bool} → n ≡ length b → t ≡ has_room n s → t ≡ false → Adds (add_constant p tag b) e e s s (Err (refusal Number.pool p))
    adds_full n l o y =
        let y' : has_room (length b) s ≡ false = rw (sym l) (sym o ∙ y) in
        record {
          step = λ tree c u. rw (add_full p tag b (view c e (symbols_of tree (rest e u) s) s) y');
          fine = λ tree u f. tt;
          keeps = stop_deeper;
          chunk = refl;
        }

-- Constant after its constant
module _ (at tag : ℕ) {tree c e e' : Bytes} {s s₁ : State} where
  pub literal_goes : {k : ℕ} {c' : Bytes} {r : Walked} → Adds (add_constant at tag (content tree at)) e e' s s₁ (Ok k) → Done c c' (Ok s₁) r (emit at (instr op_constant k 0)) → StepsBeside tree (literal at tag (content tree at)) c c' e e' (Ok s) r
  literal_goes {k} {c'} {r} x d = record { steps = λ t f. go t f (done_steps (x.fine tree t f) d) }
    where
      go : (t : List ℕ) → FineState tree (rest e t) s → Steps tree (emit at (instr op_constant k 0)) c c' (rest e' t) (rest e' t) (Ok s₁) r → Steps tree (literal at tag (content tree at)) c c' (rest e t) (rest e' t) (Ok s) r
      go t f g =
          record {
            step = λ _ _. follow (memory tree c (rest e t) (Ok s)) (λ _. add_constant at tag (content tree at)) (λ k. emit at (instr op_constant k 0)) (x.step tree c t) (g.step tt tt);
            ready = g.ready;
            fine = g.fine;
            keeps = deeper_keeps x.keeps g.keeps;
          }

  pub literal_stops : {z : Refusal} → code_size ≤ length c → Adds (add_constant at tag (content tree at)) e e' s s₁ (Err z) → StepsBeside tree (literal at tag (content tree at)) c c e e' (Ok s) (Err (stopped z s₁))
  literal_stops a x =
      record {
        steps = λ t f.
            record {
              step = λ _ _. follow (memory tree c (rest e t) (Ok s)) (λ _. add_constant at tag (content tree at)) (λ k. emit at (instr op_constant k 0)) (x.step tree c t) refl;
              ready = record { area = a; sound = tt };
              fine = tt;
              keeps = stop_deeper;
            };
      }
