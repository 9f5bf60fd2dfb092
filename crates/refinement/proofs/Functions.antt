-- Opening and closing functions on views refines the definition's.
use Prim.Native.Nat.{ℕ, suc, ◌≤◌}
use native.Mathlib.Omega.{arith}
use mathlib.Core.List.{List, ◌∷◌}
use mathlib.Core.Path.{refl, ap}
use lib.ListN.{length}
use lib.Dec.{ltb}
use borrow.Author.Tests.{ltb-false}
use Rattle.definition.specs.Basic.{Bytes}
use Rattle.definition.specs.Limit.{code_size, arguments_limit, nesting_limit}
use Rattle.definition.specs.Opcode.{plain, op_pop, op_return_value, op_return}
use Rattle.definition.specs.Session.{Session}
use Rattle.definition.specs.Valid.{All}
use Rattle.definition.specs.Walk.{Res}
use Rattle.definition.specs.SymbolTable.{named, with_params}
use Rattle.definition.specs.Compiler as Structured
use Rattle.definition.specs.Compiler.{State, without_last}
use Rattle.definition.proofs.Simulation.{Both, both_map}
use Rattle.definition.proofs.Jumps as Jumps
use Rattle.scope.specs.View.{View}
use Rattle.scope.specs.Machine as Machine
use Rattle.scope.specs.Machine.{last_is}
use Rattle.refinement.specs.Relation.{Context, inside, Refines, Droppable, Stopped}
use Rattle.refinement.proofs.Tests.{forked, compared}
use Rattle.refinement.proofs.Area.{last-is, return_coded, inside_coded}
use Rattle.refinement.proofs.Steps.{still, halted, emitted}

-- both are inside a function of these parameters, or both refuse
abbrev Opened : Session → Bytes → ℕ → Context → State → List Bytes → Res State (Unit {0}) → Res View (Unit {0}) → Type 0
Opened z e n w s xs = Both (λ _. Stopped z e n) (λ (_ : Unit {0}) s' v'. (length xs ≤ arguments_limit) × Droppable z e n (inside w s.code) s' v')

module _ {z : Session} {e : Bytes} {n : ℕ} where
  -- a function is opened
  pub enter_refines : {w : Context} {s : State} {v : View} → Refines z e n w s v → (p : ℕ) (x : Bytes) (xs : List Bytes) → Opened z e n w s xs (Structured.enter p x xs s) (Machine.enter p x xs v)
  unfolding Structured.enter Machine.enter
  enter_refines {w} {s} {v} r p x xs =
      compared nesting_limit (length s.tables) nesting_limit v.state.level 0 refl (omega (arith, r.level, r.depth)) (λ _. Both.stop _ tt (halted r)) (λ _.
      forked (Opened z e n w s xs) (ltb arguments_limit (length xs)) (ltb arguments_limit (length xs)) refl (λ _. Both.stop _ tt (halted r)) (λ f.
      Both.on tt (
        ltb-false arguments_limit (length xs) f,
        record {
          refines =
              record {
                code = inside_coded r.code;
                pool = r.pool;
                words = r.words;
                symbols = λ i. record { globals = (r.symbols i).globals; tables = with_params xs (named x) ∷ (r.symbols i).tables };
                globals = r.globals;
                level = omega (arith, r.level);
                depth = ap suc r.depth;
                pending = All.none;
              };
          prev = refl;
        },
      )))

  module _ (wide : code_size ≤ n) where
    -- a function's last instruction
    pub returned_refines : {w : Context} {s : State} {v : View} → Refines z e n w s v → (p : ℕ)
        → Both (λ _. Stopped z e n) (λ (_ : Unit {0}). Refines z e n w) (Structured.returned p s) (Machine.returned p v)
    unfolding Structured.returned Machine.returned
    returned_refines {w} {s} {v} r p =
        let B = Both {S = State} {U = View} {A = Unit {0}} (λ _. Stopped z e n) (λ _. Refines z e n w) in
        forked B (Structured.last_is op_pop s.code) (last_is op_pop v.code v.state.chunk) (last-is r.code op_pop)
        (λ t. Both.on tt
        (record {
          code = return_coded r.code t;
          pool = r.pool;
          words = r.words;
          symbols = r.symbols;
          globals = r.globals;
          level = r.level;
          depth = r.depth;
          pending = still (Jumps.then (Jumps.less s.code t) (Jumps.more (plain op_return_value) (without_last s.code))) r.pending;
        }))
        (λ _. forked B (Structured.last_is op_return_value s.code) (last_is op_return_value v.code v.state.chunk) (last-is r.code op_return_value) (λ _. Both.on tt r)
        (λ _. both_map (emitted wide r p (plain op_return)) (λ _ _ _ d. d.refines)))
