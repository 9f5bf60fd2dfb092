-- Each step on views refines the definition's, but for opening and closing functions.
use Prim.Native.Nat.{ℕ, ◌+◌, ◌≤◌}
use native.Mathlib.Omega.{arith}
use mathlib.Core.Bool.{Bool}
use mathlib.Core.List.{List, ◌∷◌}
use mathlib.Core.Path.{◌≡◌, refl, sym, subst, subst₂, ◌∙◌}
use lib.ListN.{length, take}
use lib.Dec.{T}
use Rattle.definition.specs.Basic.{Bytes, pick}
use Rattle.definition.specs.Limit.{code_size, session_size}
use Rattle.definition.specs.Opcode.{Instr, instr, size, op_constant, op_pop, op_jump_not_truthy, op_jump, op_return_value}
use Rattle.definition.specs.Bytecode.{Code, Const, size_of, content, tag_of}
use Rattle.definition.specs.Session.{Session, session_bytes}
use Rattle.definition.specs.Valid.{All, ValidInstr, ValidSession}
use Rattle.definition.specs.Walk.{Res}
use Rattle.definition.specs.SymbolTable.{Resolved, Defined, resolve, place, load_of}
use Rattle.definition.specs.Compiler as Structured
use Rattle.definition.specs.Compiler.{State, with_code, with_tables, unpatched}
use Rattle.definition.proofs.Simulation.{Both, both_bind, both_map}
use Rattle.definition.proofs.Symbols.{DefinedValid, place-valid}
use Rattle.definition.proofs.Jumps as Jumps
use Rattle.definition.proofs.Jumps.{Keeps, jump_at, at_last}
use Rattle.scope.specs.View.{View}
use Rattle.scope.specs.Machine as Machine
use Rattle.scope.specs.Machine.{here, put, last_is}
use Rattle.refinement.specs.Relation.{Context, jumped, Refines, Droppable, Stopped}
use Rattle.refinement.proofs.Tests.{forked, compared, on_same}
use Rattle.refinement.proofs.Area.{put_coded, last-is, drop_coded}
use Rattle.refinement.proofs.Operands.{patch-fits, patch_coded, prev_changed}
use Rattle.refinement.proofs.Buffer.{words-stand}
use Rattle.refinement.proofs.Constants.{Added, added}
use Rattle.refinement.proofs.Depth.{Looked, resolve_depth, Placed, place_depth, extends_more}

-- jumps that code keeps are still there
pub still : {c d : Code} {js : List ℕ} → Keeps c d → All (λ j. T (jump_at j c)) js → All (λ j. T (jump_at j d)) js
still k All.none = All.none
still k (All.more {x = j} h hs) = All.more (k.keep j h) (still k hs)

-- an instruction more, in the definition's code and in memory
record Emitted (z : Session) (e : Bytes) (n : ℕ) (w : Context) (i : Instr) (s s' : State) (v' : View) : Type 0 where
  code : s'.code ≡ i ∷ s.code
  droppable : Droppable z e n w s' v'

-- both go on in a state where a last Pop may be dropped, or both refuse
abbrev pub Like : Session → Bytes → ℕ → Context → Res State (Unit {0}) → Res View (Unit {0}) → Type 0
Like z e n w = Both (λ _. Stopped z e n) (λ (_ : Unit {0}). Droppable z e n w)

module _ {z : Session} {e : Bytes} {n : ℕ} where
  -- where both refuse
  pub halted : {w : Context} {s : State} {v : View} → Refines z e n w s v → Stopped z e n v
  halted r = record { appended = r.pool.appended; area = r.code.area }

  module _ (wide : code_size ≤ n) where
    -- an instruction that there is room for
    pub put_refines : {w : Context} {s : State} {v : View} → Refines z e n w s v → (i : Instr) → s.around + size_of s.code + size i ≤ code_size → Droppable z e n w (with_code (i ∷ s.code) s) (put i v)
    unfolding put
    put_refines {s = s} r i h =
        record {
          refines =
              record {
                code = put_coded r.code wide i h;
                pool = r.pool;
                words = r.words;
                symbols = r.symbols;
                globals = r.globals;
                level = r.level;
                depth = r.depth;
                pending = still (Jumps.more i s.code) r.pending;
              };
          prev = r.code.last;
        }

    -- an instruction, and the code with it
    emit_shows : {w : Context} {s : State} {v : View} → Refines z e n w s v → (p : ℕ) (i : Instr)
        → Both (λ _. Stopped z e n) (λ (_ : Unit {0}). Emitted z e n w i s) (Structured.emit p i s) (Machine.emit p i v)
    unfolding Structured.emit_beside Machine.emit
    emit_shows {s = s} {v} r p i =
        compared (s.around + size_of s.code + 0 + size i) code_size (here v.state + size i) code_size 0 (omega (arith, r.code.start, r.code.len)) refl
        (λ h. Both.on tt (record { code = refl; droppable = put_refines r i (omega arith) })) (λ _. Both.stop _ tt (halted r))

    -- an instruction
    pub emitted : {w : Context} {s : State} {v : View} → Refines z e n w s v → (p : ℕ) (i : Instr) → Like z e n w (Structured.emit p i s) (Machine.emit p i v)
    emitted r p i = both_map (emit_shows r p i) (λ _ _ _ h. h.droppable)

    -- a constant, then its instruction
    constant_refines : {w : Context} {c : Const} {s : State} {v : View} {k : ℕ} {s' : State} {v' : View} → Refines z e n w s v → Added z e c s v k s' v' → Refines z e n w s' v'
    constant_refines {w} r h =
        subst₂ (Refines z e n w) (sym h.state) (sym h.memory) (record { code = r.code; pool = h.pooled; words = r.words; symbols = r.symbols; globals = r.globals; level = r.level; depth = r.depth; pending = r.pending })

    -- a constant of its own for each literal
    pub constant : {w : Context} {s : State} {v : View} → ValidSession z → Refines z e n w s v → (p : ℕ) (c : Const) → Like z e n w (Structured.literal p c s) (Machine.literal p (tag_of c) (content c) v)
    constant valid r p c = both_bind (added valid r.pool r.code.area p c) (λ k _ _ h. emitted (constant_refines r h) p (instr op_constant k 0))

    -- a name's load
    loaded_refines : {w : Context} {s : State} {v : View} → Refines z e n w s v → (p : ℕ) {f : Resolved} → Looked (length s.tables) f → Like z e n w (Structured.loaded p s f) (Machine.loaded p v f)
    loaded_refines {w} {s} {v} r p (Looked.found {y = y} {ts = ts} l) =
        let r₁ : Refines z e n w (with_tables ts s) (Machine.with_tables ts v) =
        record { code = r.code; pool = r.pool; words = r.words; symbols = λ i. record { globals = (r.symbols i).globals; tables = ts }; globals = r.globals; level = r.level; depth = l ∙ r.depth; pending = r.pending }
        in
        emitted r₁ p (load_of y)
    loaded_refines r p Looked.undefined = Both.stop _ tt (halted r)
    loaded_refines r p Looked.full = Both.stop _ tt (halted r)

    -- a name is looked up, by the words that the session's buffer began with, and loaded
    pub load_refines : take session_size e ≡ session_bytes z → ValidSession z → {w : Context} {s : State} {v : View} → Refines z e n w s v → (p : ℕ) (x : Bytes) → Like z e n w (Structured.load p x s) (Machine.load p x v)
    unfolding Structured.load Machine.load
    load_refines held valid {w} {s} {v} r p x =
        let words = r.words ∙ sym (words-stand z e held r.pool.appended valid) in
        subst (λ f. Like z e n w (Structured.load p x s) (Machine.loaded p v f)) (λ i. resolve (words i) (sym r.symbols i).globals x (sym r.symbols i).tables)
        (loaded_refines r p (resolve_depth s.words s.globals x s.tables))

    -- a jump, not yet patched
    pub jump_refines : {w : Context} {s : State} {v : View} → Refines z e n w s v → (p : ℕ) (b : Bool)
        → Both (λ _. Stopped z e n) (λ (j : ℕ). Droppable z e n (jumped w j)) (Structured.jump p (pick b op_jump_not_truthy op_jump) s) (Machine.jump p (pick b op_jump_not_truthy op_jump) v)
    unfolding Structured.jump Machine.jump
    jump_refines {w} {s} {v} r p b =
        both_bind (emit_shows r p (instr (pick b op_jump_not_truthy op_jump) unpatched 0)) (λ _ _ _ h.
        let d = h.droppable in
        let r₁ = d.refines in
        let there = subst (λ c. T (jump_at (size_of s.code) c)) (sym h.code) (at_last b s.code) in
        on_same r.code.len
        (record { refines = record { code = r₁.code; pool = r₁.pool; words = r₁.words; symbols = r₁.symbols; globals = r₁.globals; level = r₁.level; depth = r₁.depth; pending = All.more there r₁.pending }; prev = d.prev }))

  -- a definition
  placed_refines : {w : Context} {s : State} {v : View} → Refines z e n w s v → (p : ℕ) {d : Defined} → Placed (length s.tables) s.globals d → DefinedValid d
      → Both (λ _. Stopped z e n) (λ i s v. ValidInstr i × Refines z e n w s v) (Structured.placed p s d) (Machine.placed p v d)
  placed_refines r p (Placed.defined i g l) valid =
      Both.on i (valid, record { code = r.code; pool = r.pool; words = r.words; symbols = refl; globals = extends_more r.globals g; level = r.level; depth = l ∙ r.depth; pending = r.pending })
  placed_refines r p (Placed.no_room k) valid = Both.stop _ valid (halted r)

  -- a name is placed
  pub define_refines : {w : Context} {s : State} {v : View} → Refines z e n w s v → (p : ℕ) (x : Bytes)
      → Both (λ _. Stopped z e n) (λ i s v. ValidInstr i × Refines z e n w s v) (Structured.define p x s) (Machine.define p x v)
  unfolding Structured.define Machine.define
  define_refines {w} {s} {v} r p x =
      subst (λ d. Both (λ _. Stopped z e n) (λ i s v. ValidInstr i × Refines z e n w s v) (Structured.define p x s) (Machine.placed p v d))
      (λ i. place x (sym r.symbols i).globals (sym r.symbols i).tables)
      (placed_refines r p (place_depth x s.globals s.tables) (place-valid x s.globals s.tables))

  -- a jump's target
  pub patch_refines : {w : Context} {s : State} {v : View} (j : ℕ) → T (jump_at j s.code) → Refines z e n w s v → Refines z e n w (Structured.patch j s) (Machine.patch j v)
  unfolding Structured.patch Machine.patch
  patch_refines {s = s} j h r =
      rw (patch-fits r.code j h)
      (record {
        code = patch_coded r.code j h;
        pool = r.pool;
        words = r.words;
        symbols = r.symbols;
        globals = r.globals;
        level = r.level;
        depth = r.depth;
        pending = still (Jumps.changed j (size_of s.code) s.code) r.pending;
      })

  -- and where a last Pop may be dropped
  pub patch_droppable : {w : Context} {s : State} {v : View} (j : ℕ) → T (jump_at j s.code) → Droppable z e n w s v → Droppable z e n w (Structured.patch j s) (Machine.patch j v)
  unfolding Structured.patch Machine.patch
  patch_droppable {s = s} j h d =
      record { refines = patch_refines j h d.refines; prev = rw (patch-fits d.refines.code j h) (d.prev ∙ sym (prev_changed j _ s.code)) }

  -- a branch's end
  pub drop_refines : {w : Context} {s : State} {v : View} → Droppable z e n w s v → (p : ℕ) → Both (λ _. Stopped z e n) (λ (_ : Unit {0}). Refines z e n w) (Structured.dropped p s) (Machine.dropped p v)
  unfolding Structured.dropped Machine.dropped
  drop_refines {w} {s} {v} d p =
      let r = d.refines in
      forked (Both (λ _. Stopped z e n) (λ (_ : Unit {0}). Refines z e n w)) (Structured.last_is op_pop s.code) (last_is op_pop v.code v.state.chunk) (last-is r.code op_pop)
      (λ t. Both.on tt (record { code = drop_coded r.code d.prev; pool = r.pool; words = r.words; symbols = r.symbols; globals = r.globals; level = r.level; depth = r.depth; pending = still (Jumps.less s.code t) r.pending }))
      (λ _. forked (Both (λ _. Stopped z e n) (λ (_ : Unit {0}). Refines z e n w)) (Structured.last_is op_return_value s.code) (last_is op_return_value v.code v.state.chunk) (last-is r.code op_return_value)
      (λ _. Both.on tt r) (λ _. Both.stop _ tt (halted r)))
