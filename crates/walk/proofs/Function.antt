-- A function: it is entered, its body walked, and it is left.
use Prim.Native.Nat.{ℕ, ◌+◌}
use mathlib.Core.List.{List}
use mathlib.Core.Path.{◌≡◌, refl, ap, ◌∙◌}
use lib.ListN.{length}
use Rattle.definition.specs.Basic.{Bytes}
use Rattle.definition.specs.Syntax.{Stmts}
use Rattle.definition.specs.Walk.{bind, Go, walk_stmts, walk_expr}
use Rattle.field.specs.Layout.{after, content}
use Rattle.scope.specs.View.{View, then, view, Ready}
use Rattle.scope.specs.Machine.{machine, enter, leave}
use Rattle.scope.specs.Walked.{Walked, Stopped}
use Rattle.scope.specs.declared.State.{State}
use Rattle.std.specs.Prelude.{Ok, Err}
use Rattle.step.specs.Memory.{Rest, symbols_of, settled, memory, Deeper, Keeps, Walks}
use Rattle.step.specs.Contract.{Enters, Leaves, Inside}
use Rattle.step.proofs.Memory.{chain, stop_deeper, deeper_keeps}
use Rattle.tree.specs.At.{FunctionAt}
use Rattle.tree.specs.Reads.{ReadsBlock, ReadsStmts, Counted}

-- behind a body that was walked inside it, all stands inside it still
pub inside_walked : {o i s : State} → Deeper 1 (Ok o) (Ok i) → Keeps (Ok i) (Ok s) → Inside o s
inside_walked {o} {s = s} d k =
    let p = (deeper_keeps d k).origin s refl in
    let e : o ≡ p.from = cc in
    record { level = rw e p.level; names = rw e p.names }

-- a body that has stopped: nothing is left
pub leaves_stays : {tree : Bytes} {at n : ℕ} {c : Bytes} {m : Rest} {o : State} {z : Stopped} → Ready c (Err z) → Leaves tree at n c c m m o (Err z) (Err z)
leaves_stays h = record { step = λ _ _. refl; ready = h; fine = tt; keeps = stop_deeper }

-- the whole
pub function_walks : {tree : Bytes} {at params body end n : ℕ} {c c₁ c₂ : Bytes} {m m₁ m₂ m₃ : Rest} {o : State} {i v r : Walked} → params ≡ after tree (at + 3) → body ≡ after tree params → end ≡ after tree body
    → Counted tree (params + 3) body n → Enters tree at c m m₁ (Ok o) i → Walks tree (ReadsStmts tree (body + 3) end) (walk_stmts machine) c c₁ m₁ m₂ i v → Leaves tree at n c₁ c₂ m₂ m₃ o v r
    → Walks tree (FunctionAt tree (ReadsBlock tree) at) (walk_expr machine) c c₂ m m₃ (Ok o) r
unfolding walk_expr
function_walks {tree} {at} {params} {body} {end} {n} {c} {m = m} {m₁ = m₁} {o = o} {i = i} q p z k e d l =
    record {
      step = λ x f.
          let b : ReadsStmts tree (body + 3) end f.body = rw (z, p, q) f.on_body.body in
          let j : n ≡ length f.params = k.names f.params (rw (p, q) f.on_params.names) in
          let v = view c m.session (symbols_of tree m o) o in
          rw f.is (chain (memory tree c m (Ok o)) (enter at (content tree (at + 3)) f.params) (λ s. then (walk_stmts machine f.body s) (leave at n v)) (e.step f.params f.on_params)
          (chain (memory tree c m₁ i) (walk_stmts machine f.body) (leave at n v) (d.step f.body b) (l.step v refl)) ∙ ap (λ k. settled (then (memory tree c m (Ok o)) (walked f.params f.body k))) j);
      ready = l.ready;
      fine = l.fine;
      keeps = l.keeps;
    }
  where
    -- the walk of a function of so many parameters
    walked : List Bytes → Stmts → ℕ → Go View
    walked ps b n s = bind (enter at (content tree (at + 3)) ps s) (λ _ s₁. bind (walk_stmts machine b s₁) (λ _. leave at n s))
