-- Each leaf's step is the machine's step.
use Prim.Native.Nat.{ℕ, ◌+◌, ◌/◌, ◌%◌, ◌≤◌, ◌<◌}
use native.Mathlib.Omega.{arith}
use mathlib.Core.Bool.{Bool, true, false}
use mathlib.Core.List.{[], ◌∷◌}
use mathlib.Core.Path.{◌≡◌, refl, sym, ap, ◌∙◌}
use lib.ListN.{length, set, length-set}
use lib.Dec.{eqb}
use lib.Seq.{sets, length-sets}
use borrow.Author.Tests.{le-leb, lt-leb, lt-ltb, le-ltb, leb-true, leb-false, ltb-true, ltb-false}
use Rattle.definition.specs.Basic.{Bytes, byte_at, pick, both}
use Rattle.definition.specs.Limit.{code_size}
use Rattle.definition.specs.Number
use Rattle.definition.specs.Opcode.{Instr, instr, plain, size, bytes_of, op_pop, op_return_value, op_return}
use Rattle.definition.specs.Walk.{on, refuse, bind, Go}
use Rattle.definition.specs.Compiler.{unpatched}
use Rattle.definition.specs.declared.reason.Refusal.{Refusal}
use Rattle.scope.specs.declared.Chunk.{Chunk}
use Rattle.scope.specs.declared.State.{State}
use Rattle.scope.specs.Walked.{Walked, stopped}
use Rattle.std.proofs.lemmas.Bool.{ne_eqb}
use Rattle.std.specs.Prelude.{Ok, Err, Option, Some, None, ltb}
use Rattle.scope.specs.View.{Symbols, View, view, Fits, Done, Jumped}
use Rattle.scope.specs.declared.instruction.Instruction.{Instruction}
use Rattle.scope.specs.Emission.{instr_of, room_for, Adds, holds_operand, Changes}
use Rattle.scope.specs.Machine.{with_chunk, here, longer, put, emit, jump, patch, last_is, without_last, dropped, returned}
use Rattle.scope.specs.Code.{last}

-- an answer is this byte
abbrev pub is_byte : ℕ → Option ℕ → Bool
is_byte o (Some x) = eqb x o
is_byte o None = false

-- another byte is not this one
pub other_byte : {x : Option ℕ} {n o : ℕ} → (n ≡ o → ⊥) → x ≡ Some n → is_byte o x ≡ false
other_byte {x} {n} {o} h e = rw (e, ne_eqb n o h)

-- a byte where there is one, and is it
byte_picked : (b : Bool) (x o : ℕ) → is_byte o (pick b (Some x) None) ≡ both b (eqb x o)
byte_picked true x o = refl
byte_picked false x o = refl

-- the last instruction is of a byte where that is its byte
is_last : (c : Bytes) (k : Chunk) {x : Option ℕ} → x ≡ last c k → (o : ℕ) → last_is o c k ≡ is_byte o x
is_last c k l o = sym (ap (is_byte o) l ∙ byte_picked (ltb k.last k.len) (byte_at c (k.start + k.last)) o)

module _ {c : Bytes} {s : State} (a : code_size ≤ length c) (g : Fits s) where
  -- a step that leaves code and state, and is a refusal
  pub refused : {r : Refusal} {k : Go View} → ((e : Bytes) (y : Symbols) → refuse r.reason r.place (view c e y s) ≡ k (view c e y s)) → Done c c (Ok s) (Err (stopped r s)) k
  refused q = record { step = q; ready = record { area = a; sound = tt }; same = refl }

  -- Emission, with what it answered on the chunk
  module _ (p : ℕ) (i : Instr) where
    -- where there is room, the bytes are written, and the chunk is longer
    put_step : here s + size i ≤ code_size → Done c (sets c (here s) (bytes_of i)) (Ok s) (Ok (longer (size i) s)) (emit p i)
    unfolding emit put
    put_step h =
        record {
          step = λ e y. simp (le-leb (here s + size i) code_size h);
          ready = record { area = simp length-sets a; sound = record { room = omega arith; last = omega arith; prev = omega arith } };
          same = refl;
        }

    -- and where there is none
    full_step : code_size < here s + size i → (e : Bytes) (y : Symbols) → refuse Number.code p (view c e y s) ≡ emit p i (view c e y s)
    unfolding emit
    full_step h e y = simp (lt-leb (here s + size i) code_size h)

  module _ (p : ℕ) (i : Instruction) {c' : Bytes} {k : Chunk} {b : Bool} (d : Adds c s.chunk i k b c') where
    pub emit-on : b ≡ true → Done c c' (Ok s) (Ok (with_chunk k s)) (emit p (instr_of i))
    emit-on t =
        let r : room_for (instr_of i) s.chunk ≡ true = sym d.room ∙ t in
        rw (d.chunk, d.code, r) (put_step p (instr_of i) (leb-true (here s + size (instr_of i)) code_size r))

    pub emit_full : b ≡ false → Done c c' (Ok s) (Err (stopped (record { reason = Number.code; place = p }) (with_chunk k s))) (emit p (instr_of i))
    emit_full t =
        let r : room_for (instr_of i) s.chunk ≡ false = sym d.room ∙ t in
        rw (d.chunk, d.code, r) (refused (full_step p (instr_of i) (leb-false (here s + size (instr_of i)) code_size r)))

  -- The jump at a position
  module _ (at : ℕ) where
    -- its operand is written
    patch-on : {c' : Bytes} → s.chunk.start + at + 2 < code_size → c' ≡ sets c (s.chunk.start + at + 1) (s.chunk.len / 256 % 256 ∷ s.chunk.len % 256 ∷ []) → Done c c' (Ok s) (Ok s) (λ v. on tt (patch at v))
    unfolding patch
    patch-on f t =
        rw t
        (record {
          step = λ e y. simp (lt-ltb (s.chunk.start + at + 2) code_size f);
          ready = record { area = simp length-sets a; sound = g };
          same = refl;
        })

    -- it is not within the code area
    patch_past : code_size ≤ s.chunk.start + at + 2 → Done c c (Ok s) (Ok s) (λ v. on tt (patch at v))
    unfolding patch
    patch_past f = record { step = λ e y. simp (le-ltb (s.chunk.start + at + 2) code_size f); ready = record { area = a; sound = g }; same = refl }

    -- the two, with what patching did to the chunk
    pub patched : {c' : Bytes} {k : Chunk} → Changes c s.chunk at k c' → Done c c' (Ok s) (Ok (with_chunk k s)) (λ v. on tt (patch at v))
    patched {c'} d = rw d.chunk (go (holds_operand at s.chunk) refl)
      where
        go : (b : Bool) → holds_operand at s.chunk ≡ b → Done c c' (Ok s) (Ok s) (λ v. on tt (patch at v))
        go true t = patch-on (ltb-true (s.chunk.start + at + 2) code_size t) (d.code ∙ rw t)
        go false t = rw (d.code, t) (patch_past (ltb-false (s.chunk.start + at + 2) code_size t))

  -- The byte of the last instruction, if it has one
  module _ (p : ℕ) {x : Option ℕ} (l : x ≡ last c s.chunk) where
    -- a last Pop is dropped
    pub drop-on : x ≡ Some op_pop → Done c c (Ok s) (Ok (without_last s)) (dropped p)
    unfolding dropped
    drop-on t =
        record {
          step = λ e y. rw (is_last c s.chunk l op_pop, t);
          ready = record { area = a; sound = record { room = omega (arith, g.room, g.last); last = g.prev; prev = omega arith } };
          same = refl;
        }

    -- the same Pop, at a function's end
    pub return_pop : x ≡ Some op_pop → Done c (set c (s.chunk.start + s.chunk.last) op_return_value) (Ok s) (Ok s) (returned p)
    unfolding returned
    return_pop t = record { step = λ e y. rw (is_last c s.chunk l op_pop, t); ready = record { area = simp length-set a; sound = g }; same = refl }

    -- ReturnValue is last
    pub return-value : x ≡ Some op_return_value → Done c c (Ok s) (Ok s) (returned p)
    unfolding returned
    return-value t = record { step = λ e y. rw (is_last c s.chunk l op_pop, is_last c s.chunk l op_return_value, t); ready = record { area = a; sound = g }; same = refl }

    -- and stays at a branch's end
    pub drop-value : x ≡ Some op_return_value → Done c c (Ok s) (Ok s) (dropped p)
    unfolding dropped
    drop-value t = record { step = λ e y. rw (is_last c s.chunk l op_pop, is_last c s.chunk l op_return_value, t); ready = record { area = a; sound = g }; same = refl }

    -- Neither is last
    module _ (n : is_byte op_pop x ≡ false) (n' : is_byte op_return_value x ≡ false) where
      -- a branch yields no value
      pub drop-refused : Done c c (Ok s) (Err (stopped (record { reason = Number.no_value; place = p }) s)) (dropped p)
      unfolding dropped
      drop-refused = refused (λ e y. rw (is_last c s.chunk l op_pop, is_last c s.chunk l op_return_value, n, n'))

      -- Return follows
      pub return_more : {c' : Bytes} {r : Walked} → Done c c' (Ok s) r (emit p (plain op_return)) → Done c c' (Ok s) r (returned p)
      unfolding returned
      return_more d = record { step = λ e y. d.step e y ∙ rw (is_last c s.chunk l op_pop, is_last c s.chunk l op_return_value, n, n'); ready = d.ready; same = d.same }

-- Jumps: an instruction that was emitted, with the position before it
module _ (p o : ℕ) {c c' : Bytes} {s t : State} where
  pub jump_goes : Done c c' (Ok s) (Ok t) (emit p (instr o unpatched 0)) → Jumped c c' (Ok s) (Ok s.chunk.len) t (jump p o)
  unfolding jump
  jump_goes d = record { step = λ e y. ap (λ x. bind x (λ _. on s.chunk.len)) (d.step e y); ready = d.ready; same = d.same }

  pub jump_stops : {z : Refusal} → Done c c' (Ok s) (Err (stopped z t)) (emit p (instr o unpatched 0)) → Jumped c c' (Ok s) (Err z) t (jump p o)
  unfolding jump
  jump_stops d = record { step = λ e y. ap (λ x. bind x (λ _. on s.chunk.len)) (d.step e y); ready = d.ready; same = d.same }
