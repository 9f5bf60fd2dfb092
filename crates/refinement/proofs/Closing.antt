-- Closing a function on views refines the definition's.
use Prim.Native.Nat.{ℕ, suc, ◌+◌, ◌≤◌, ◌<◌}
use native.Mathlib.Omega.{arith}
use mathlib.Core.Bool.{Bool, true, false}
use mathlib.Core.List.{List, [], ◌∷◌}
use mathlib.Core.Path.{◌≡◌, refl, sym, subst, subst₂}
use lib.ListN.{length, length-append}
use lib.Dec.{leb}
use borrow.Author.Tests.{leb-true, leb-false}
use Rattle.definition.specs.Basic.{Bytes, pick}
use Rattle.definition.specs.Limit.{code_size}
use Rattle.definition.specs.Number
use Rattle.definition.specs.Tag.{tag_function_const}
use Rattle.definition.specs.Opcode.{Instr, instr, op_closure}
use Rattle.definition.specs.Bytecode.{Const, encode, size_of, content}
use Rattle.definition.specs.Session.{Session}
use Rattle.definition.specs.Valid.{ValidSession}
use Rattle.definition.specs.Walk.{Res, bind, refuse}
use Rattle.definition.specs.SymbolTable.{Table}
use Rattle.definition.specs.Compiler as Structured
use Rattle.definition.specs.Compiler.{State, with_code, with_pool}
use Rattle.definition.proofs.Simulation.{Both, both_bind}
use Rattle.definition.proofs.Instructions.{code-length}
use Rattle.scope.specs.View.{View, view}
use Rattle.scope.specs.Machine as Machine
use Rattle.scope.specs.Machine.{here, loads_size, function_content, chunk_bytes, outside}
use Rattle.refinement.specs.Relation.{Context, inside, marks, Pooled, Refines}
use Rattle.refinement.proofs.Area.{outside_coded, chunk-bytes}
use Rattle.refinement.proofs.Constants.{added, with_field}
use Rattle.refinement.proofs.Steps.{Like, halted, emitted}
use Rattle.refinement.proofs.Functions.{returned_refines}
use Rattle.refinement.proofs.Loads.{with_loads, loads_fit, loads-refused, loads-put}

-- the state outside again: the outer chunk, and what was added inside
abbrev closed_state : State → State → List Table → State
closed_state s s₁ ts = record { code = s.code; around = s.around; tables = ts; words = s₁.words; globals = s₁.globals; pool = s₁.pool }

-- and the view
abbrev closed_view : View → View → List Table → View
closed_view v v₁ ts = view v₁.code v₁.session (record { globals = v₁.symbols.globals; tables = ts }) (outside v.state v₁.state)

-- the function as a constant
abbrev closed_const : Table → ℕ → State → Const
closed_const t params s₁ = Const.function t.definitions params s₁.code

-- Closure over a constant
abbrev closure : Table → ℕ → Instr
closure t k = instr op_closure k (length t.originals)

module _ {z : Session} {e : Bytes} {n : ℕ} {w : Context} {s : State} {v : View} {s₁ : State} {v₁ : View} (r : Refines z e n w s v) (r₁ : Refines z e n (inside w s.code) s₁ v₁) where
  -- where the inner chunk starts
  inner_start : s₁.around ≡ s.around + size_of s.code
  inner_start = omega (arith, r.code.before, r₁.code.before, length-append w.around (encode s.code), code-length s.code)

  -- a constant more, and outside again
  closed_refines : (c : Const) (ts : List Table) → length ts ≡ w.depth → Pooled z e (c ∷ s₁.pool) (with_field c v₁).session (marks (with_field c v₁).state)
      → Refines z e n w (with_pool (c ∷ s₁.pool) (closed_state s s₁ ts)) (closed_view v (with_field c v₁) ts)
  closed_refines c ts l h =
      record {
        code = outside_coded r.code r₁.code;
        pool = h;
        words = r₁.words;
        symbols = λ i. record { globals = (r₁.symbols i).globals; tables = ts };
        globals = r₁.globals;
        level = r.level;
        depth = l;
        pending = r.pending;
      }

  module _ (wide : code_size ≤ n) (valid : ValidSession z) (p params : ℕ) where
    -- the constant and Closure where the loads fit; on memory the loads stand between them
    close_fits : (t : Table) (ts : List Table) → length ts ≡ w.depth → s.around + size_of s.code + loads_size t.originals ≤ code_size
        → Like z e n w (bind (Structured.add_constant p (closed_const t params s₁) (with_code (with_loads t.originals s.code) (closed_state s s₁ ts))) (λ k. Structured.emit p (closure t k)))
        (bind (Machine.add_constant p tag_function_const (content (closed_const t params s₁)) v₁) (λ k v₂. bind (Machine.loads p t.originals (closed_view v v₂ ts)) (λ _. Machine.emit p (closure t k))))
    close_fits t ts l h =
        let c = closed_const t params s₁ in
        let s₂ = with_code (with_loads t.originals s.code) (closed_state s s₁ ts) in
        both_bind (added {s = s₂} valid r₁.pool r₁.code.area p c) (λ k _ _ a.
        let q = loads-put wide (closed_refines c ts l a.pooled) p t.originals h in
        subst₂ (λ x y. Like z e n w (Structured.emit p (closure t k) x) (bind (Machine.loads p t.originals (closed_view v y ts)) (λ _. Machine.emit p (closure t k)))) (sym a.state) (sym a.memory)
        (subst (λ x. Like z e n w (Structured.emit p (closure t k) (with_pool (c ∷ s₁.pool) s₂)) (bind x (λ _. Machine.emit p (closure t k)))) (sym q.same) (emitted wide q.refines p (closure t k))))

    -- the loads' total decides on both
    close_refines : (ts : List Table) → length ts ≡ suc w.depth → Like z e n w (Structured.close_over p params s s₁ ts) (Machine.close_over p params v.state v₁ ts)
    close_refines [] l =
        let no : ⊥ = omega arith in
        absurd no
    close_refines (t ∷ ts) l = go (leb total code_size) refl
      where
        -- the open chunks with the loads
        total : ℕ
        total = here v.state + v₁.state.chunk.len + loads_size t.originals

        -- the closing chunk
        closing : ℕ
        closing = size_of s₁.code

        -- what the definition does after the loads
        rest : Res State (Unit {0}) → Res State (Unit {0})
        rest x = bind x (λ _ s₂. bind (Structured.add_constant p (closed_const t params s₁) s₂) (λ k. Structured.emit p (closure t k)))

        -- what memory does with a function's bytes
        memory : Bytes → Res View (Unit {0})
        memory b = bind (Machine.add_constant p tag_function_const (function_content t.definitions params b) v₁) (λ k v₂. bind (Machine.loads p t.originals (closed_view v v₂ ts)) (λ _. Machine.emit p (closure t k)))

        go : (b : Bool) → leb total code_size ≡ b → Like z e n w (rest (Structured.loads closing p t.originals (closed_state s s₁ ts))) (pick b (memory (chunk_bytes v₁)) (refuse Number.code p v₁))
        go true h =
            let fits : total ≤ code_size = leb-true total code_size h in
            subst₂ (λ x b. Like z e n w (rest x) (memory b)) (sym (loads_fit closing p t.originals (closed_state s s₁ ts) (omega (arith, r.code.start, r.code.len, r₁.code.len)))) (sym (chunk-bytes r₁.code))
            (close_fits t ts (omega arith) (omega (arith, r.code.start, r.code.len)))
        go false h =
            let over : code_size < total = leb-false total code_size h in
            let q = loads-refused closing p t.originals (closed_state s s₁ ts) (omega (arith, inner_start, r₁.code.room)) (omega (arith, r.code.start, r.code.len, r₁.code.len)) in
            subst (λ x. Like z e n w (rest x) (refuse Number.code p v₁)) (sym q.same) (Both.stop _ tt (halted r₁))

-- a function is closed
pub leave_refines : {z : Session} {e : Bytes} {n : ℕ} → code_size ≤ n → ValidSession z → {w : Context} {s : State} {v : View} {s₁ : State} {v₁ : View} → Refines z e n w s v → Refines z e n (inside w s.code) s₁ v₁
    → (p params : ℕ) → Like z e n w (Structured.leave p params s s₁) (Machine.leave p params v v₁)
unfolding Structured.leave Machine.leave
leave_refines {z} {e} {n} wide valid {w} {s} {v} r r₁ p params =
    both_bind (returned_refines wide r₁ p) (λ _ s₂ v₂ r₂.
    subst (λ ts. Like z e n w (Structured.close_over p params s s₂ s₂.tables) (Machine.close_over p params v.state v₂ ts)) (λ i. (sym r₂.symbols i).tables) (close_refines r r₂ wide valid p params s₂.tables r₂.depth))
