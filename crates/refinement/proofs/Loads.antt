-- The loads of captured originals: on one machine tested one by one, on the other their total beforehand.
use Prim.Native.Nat.{ℕ, ◌+◌, ◌≤◌, ◌<◌}
use native.Mathlib.Omega.{arith}
use mathlib.Core.Bool.{Bool, true, false}
use mathlib.Core.List.{List, [], ◌∷◌}
use mathlib.Core.Path.{◌≡◌, refl, ap, ◌∙◌}
use lib.Dec.{leb}
use borrow.Author.Tests.{leb-true, leb-false, le-leb, lt-leb}
use Rattle.definition.specs.Basic.{Bytes}
use Rattle.definition.specs.Limit.{code_size}
use Rattle.definition.specs.Number
use Rattle.definition.specs.Number.{refusal}
use Rattle.definition.specs.Opcode.{size}
use Rattle.definition.specs.Bytecode.{Code, size_of}
use Rattle.definition.specs.Session.{Session}
use Rattle.definition.specs.Walk.{Res, on, stop, bind}
use Rattle.definition.specs.SymbolTable.{Symbol, load_of}
use Rattle.definition.specs.Compiler as Structured
use Rattle.definition.specs.Compiler.{State, with_code, emit_beside}
use Rattle.definition.proofs.Basic.{pick_true, pick_false}
use Rattle.scope.specs.View.{View}
use Rattle.scope.specs.Machine as Machine
use Rattle.scope.specs.Machine.{here, put, loads_size}
use Rattle.refinement.specs.Relation.{Context, Refines}
use Rattle.refinement.proofs.Steps.{put_refines}

-- code with the loads
abbrev pub with_loads : List Symbol → Code → Code
with_loads [] c = c
with_loads (y ∷ ys) c = load_of y ∷ with_loads ys c

-- its length
loads-size : (ys : List Symbol) (c : Code) → size_of (with_loads ys c) ≡ size_of c + loads_size ys
loads-size [] c = omega arith
loads-size (y ∷ ys) c = omega (arith, loads-size ys c)

module _ (closing p : ℕ) where
  -- they all fit
  pub loads_fit : (ys : List Symbol) (s : State) → s.around + size_of s.code + closing + loads_size ys ≤ code_size → Structured.loads closing p ys s ≡ on tt (with_code (with_loads ys s.code) s)
  unfolding Structured.loads emit_beside
  loads_fit [] s h = refl
  loads_fit (y ∷ ys) s h =
      ap (λ r. bind r (λ _. emit_beside closing p (load_of y))) (loads_fit ys s (omega arith))
      ∙ pick_true _ _ (le-leb (s.around + size_of (with_loads ys s.code) + closing + size (load_of y)) code_size (omega (arith, loads-size ys s.code)))

  -- or one of them doesn't
  pub record Refused (r : Res State (Unit {0})) : Type 0 where
    pub state : State
    pub same : r ≡ stop (refusal Number.code p) state

  -- then the definition refuses at the place of the function
  pub loads-refused : (ys : List Symbol) (s : State) → s.around + size_of s.code + closing ≤ code_size → code_size < s.around + size_of s.code + closing + loads_size ys → Refused (Structured.loads closing p ys s)
  unfolding Structured.loads emit_beside
  loads-refused [] s h l =
      let no : ⊥ = omega arith in
      absurd no
  loads-refused (y ∷ ys) s h l = go (leb total code_size) refl (loads-refused ys s h)
    where
      -- all but the last one
      total : ℕ
      total = s.around + size_of s.code + closing + loads_size ys

      go : (b : Bool) → leb total code_size ≡ b → (code_size < total → Refused (Structured.loads closing p ys s)) → Refused (bind (Structured.loads closing p ys s) (λ _. emit_beside closing p (load_of y)))
      go true e f =
          record {
            state = with_code (with_loads ys s.code) s;
            same =
                ap (λ r. bind r (λ _. emit_beside closing p (load_of y))) (loads_fit ys s (leb-true total code_size e))
                ∙ pick_false _ _ (lt-leb (s.around + size_of (with_loads ys s.code) + closing + size (load_of y)) code_size (omega (arith, loads-size ys s.code)));
          }
      go false e f =
          let q = f (leb-false total code_size e) in
          record { state = q.state; same = ap (λ r. bind r (λ _. emit_beside closing p (load_of y))) q.same }

-- on memory, where they all fit
pub record Loaded (z : Session) (e : Bytes) (n : ℕ) (w : Context) (s : State) (r : Res View (Unit {0})) : Type 0 where
  pub memory : View
  pub same : r ≡ on tt memory
  pub refines : Refines z e n w s memory

-- the loads one by one
pub loads-put : {z : Session} {e : Bytes} {n : ℕ} → code_size ≤ n → {w : Context} {s : State} {v : View} → Refines z e n w s v → (p : ℕ) (ys : List Symbol) → s.around + size_of s.code + loads_size ys ≤ code_size
    → Loaded z e n w (with_code (with_loads ys s.code) s) (Machine.loads p ys v)
unfolding Machine.loads Machine.emit
loads-put wide {v = v} r p [] h = record { memory = v; same = refl; refines = r }
loads-put wide {s = s} r p (y ∷ ys) h =
    let q = loads-put wide r p ys (omega arith) in
    let v₁ = q.memory in
    let r₁ = q.refines in
    record {
      memory = put (load_of y) v₁;
      same =
          ap (λ r. bind r (λ _. Machine.emit p (load_of y))) q.same
          ∙ pick_true _ _ (le-leb (here v₁.state + size (load_of y)) code_size (omega (arith, r₁.code.start, r₁.code.len, loads-size ys s.code)));
      refines = (put_refines wide r₁ (load_of y) (omega (arith, loads-size ys s.code))).refines;
    }
