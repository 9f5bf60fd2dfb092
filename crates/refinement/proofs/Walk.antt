-- The walk on memory refines the definition's walk.
use Prim.Native.Nat.{ℕ, ◌≤◌}
use native.Mathlib.Omega.{arith}
use mathlib.Core.List.{[], append-nil}
use mathlib.Core.Path.{◌≡◌, refl, sym, ap, ◌∙◌}
use lib.ListN.{length, take}
use lib.Seq.{take_at}
use Rattle.definition.specs.Basic.{Bytes}
use Rattle.definition.specs.Limit.{code_size, session_size}
use Rattle.definition.specs.Syntax.{Stmts}
use Rattle.definition.specs.Bytecode.{Const, pool_bytes, encode, size_of}
use Rattle.definition.specs.Session.{Session, session_bytes}
use Rattle.definition.specs.Valid.{All, ValidSession}
use Rattle.definition.specs.Walk.{Res, walk_stmts}
use Rattle.definition.specs.Compiler as Structured
use Rattle.definition.specs.Compiler.{State, boolean_of}
use Rattle.definition.specs.Compile.{start}
use Rattle.definition.proofs.WellFormed.{WfStmts}
use Rattle.definition.proofs.Simulation.{Both, Simulation, Ends}
use Rattle.definition.proofs.Refine.{refined, as_is}
use Rattle.definition.proofs.ValidSymbols.{all_first, all_rest}
use Rattle.definition.proofs.Instructions.{code-length}
use Rattle.definition.proofs.Sessions.{fields-length}
use Rattle.definition.proofs.Limits.{ValidState, walk_limits}
use Rattle.definition.proofs.Steps.{start-valid}
use Rattle.scope.specs.View.{View}
use Rattle.scope.specs.Machine as Machine
use Rattle.refinement.specs.Relation.{start_view, Context, outermost, jumped, inside, Refines, Droppable, Stopped, Compiled, WalkEnds}
use Rattle.refinement.proofs.Steps.{Like, halted, emitted, constant, load_refines, define_refines, jump_refines, patch_refines, patch_droppable, drop_refines}
use Rattle.refinement.proofs.Functions.{enter_refines}
use Rattle.refinement.proofs.Closing.{leave_refines}

-- the jump that waits first, patched
patched : {z : Session} {e : Bytes} {n : ℕ} {w : Context} {s : State} {v : View} (j : ℕ) → Refines z e n (jumped w j) s v → Refines z e n w (Structured.patch j s) (Machine.patch j v)
patched j r = patch_refines j (all_first r.pending) (record { code = r.code; pool = r.pool; words = r.words; symbols = r.symbols; globals = r.globals; level = r.level; depth = r.depth; pending = all_rest r.pending })

-- the one behind it
patched_under : {z : Session} {e : Bytes} {n : ℕ} {w : Context} {s : State} {v : View} (j k : ℕ) → Droppable z e n (jumped (jumped w j) k) s v → Droppable z e n (jumped w k) (Structured.patch j s) (Machine.patch j v)
patched_under j k d =
    let r = d.refines in
    let js = all_rest r.pending in
    patch_droppable j (all_first js)
    (record { refines = record { code = r.code; pool = r.pool; words = r.words; symbols = r.symbols; globals = r.globals; level = r.level; depth = r.depth; pending = All.more (all_first r.pending) (all_rest js) }; prev = d.prev })

-- each step on views does what the definition's does
pub refinement : (z : Session) → ValidSession z → (e : Bytes) → take session_size e ≡ session_bytes z → (n : ℕ) → code_size ≤ n → Simulation Structured.machine Machine.machine as_is (Refines z e n) (Droppable z e n) (λ _. Stopped z e n)
refinement z valid e held n wide =
    record {
      jumped = jumped;
      inside = λ w s _. inside w s.code;
      halt = halted;
      rest = λ d. d.refines;
      emit = λ r p i _. emitted wide r p i;
      boolean = λ r p b. emitted wide r p (boolean_of b);
      integer = λ r p b _. constant wide valid r p (Const.integer b);
      string = λ r p b. constant wide valid r p (Const.string b);
      load = λ r p x _. load_refines wide held valid r p x;
      define = λ r p x _. define_refines r p x;
      jump = λ r p b. jump_refines wide r p b;
      patch = patched;
      patch-under = patched_under;
      drop_pop = drop_refines;
      enter = λ r p x xs _ _. enter_refines r p x xs;
      leave = λ r d p k _. leave_refines wide valid r d.refines p k;
    }

-- at the start
started : (z : Session) → ValidSession z → (e c : Bytes) → Droppable z e (length c) outermost (start z) (start_view z e c)
started z valid e c =
    record {
      refines =
          record {
            code = record { rest = c; bytes = refl; area = refl; before = refl; start = refl; len = refl; last = refl; room = omega arith };
            pool =
                record {
                  appended = record { new = []; session = refl; upto = omega arith; within = omega (arith, fields-length z valid); names = refl };
                  pool = sym (append-nil (pool_bytes z.pool));
                  constants = refl;
                  size = valid.pool.size;
                };
            words = refl;
            symbols = refl;
            globals = record { more = []; same = refl };
            level = refl;
            depth = refl;
            pending = All.none;
          };
      prev = refl;
    }

-- from one session, the two walks of a tree
pub walk_refines : (z : Session) → ValidSession z → (e c : Bytes) → take session_size e ≡ session_bytes z → code_size ≤ length c → (b : Stmts) → WfStmts b
    → Like z e (length c) outermost (walk_stmts Structured.machine b (start z)) (walk_stmts Machine.machine b (start_view z e c))
walk_refines z valid e c held wide b h = refined (refinement z valid e held (length c) wide) b {w = outermost} h (started z valid e c)

-- the facts at the end
compiled : {z : Session} {e : Bytes} {n : ℕ} {s : State} {v : View} → Refines z e n outermost s v → ValidState s → Compiled z e n s v
compiled {s = s} {v} r valid =
    record {
      start = r.code.start ∙ sym r.code.before;
      len = r.code.len;
      code = ap (take (size_of s.code)) r.code.bytes ∙ take_at (encode s.code) r.code.rest (size_of s.code) (code-length s.code);
      area = r.code.area;
      words = r.words;
      symbols = r.symbols;
      globals = r.globals;
      pool = r.pool;
      valid = valid;
    }

-- how they end
ended : {z : Session} {e : Bytes} {n : ℕ} {x : Res State (Unit {0})} {y : Res View (Unit {0})} → Like z e n outermost x y → Ends (λ (_ : Unit {0}). ValidState) x → WalkEnds z e n x y
ended (Both.on tt {s} {t = v} d) (Ends.on _ valid) = WalkEnds.through s v refl refl (compiled d.refines valid)
ended (Both.stop r k {s} {t = v} q) (Ends.stop _ _ _) = WalkEnds.stopped r s v refl refl k q

-- both walks end alike, and the session's limits are kept
pub walk_ends : (z : Session) → ValidSession z → (e c : Bytes) → take session_size e ≡ session_bytes z → code_size ≤ length c → (b : Stmts) → WfStmts b
    → WalkEnds z e (length c) (walk_stmts Structured.machine b (start z)) (walk_stmts Machine.machine b (start_view z e c))
walk_ends z valid e c held wide b h = ended (walk_refines z valid e c held wide b h) (walk_limits b h (start-valid z valid))
