-- Number 13 never arises: the code of each construct is paid from the construct's bytes in the tree. What a construct has emitted, and the
-- loads that the innermost open function owes for its captures, is no more than its bytes; a statement has two to spare, from which an If
-- without else pays.
use Prim.Native.Nat.{ℕ, zero, suc, ◌+◌, ◌*◌, ◌-◌, ◌≤◌}
use native.Mathlib.Omega.{arith}
use mathlib.Core.Bool.{Bool, true, false}
use mathlib.Core.List.{List, [], ◌∷◌}
use mathlib.Core.Path.{◌≡◌, refl, sym, ap, subst, ◌∙◌}
use lib.ListN.{length, get_or}
use lib.Dec.{T, leb, ltb, eqb, leb→le}
use borrow.Author.Tests.{leb-false, eq-eqb}
use Rattle.std.proofs.Math.Option.{Option, none, some}
use Rattle.definition.specs.Basic.{Bytes, pick, both}
use Rattle.definition.specs.Limit.{code_size, constants_limit, pool_limit, nesting_limit, arguments_limit, globals_limit, locals_limit}
use Rattle.definition.specs.Number
use Rattle.definition.specs.Number.{refusal, number_of}
use Rattle.definition.specs.Syntax.{Stmt, Stmts, Else, Expr, Exprs, count}
use Rattle.definition.specs.Opcode.{Instr, instr, plain, size, op_constant, op_pop, op_jump_not_truthy, op_jump, op_null, op_array, op_hash, op_index, op_call, op_return_value, op_return, op_closure}
use Rattle.definition.specs.Bytecode.{Code, size_of, Const, pool_size}
use Rattle.definition.specs.Walk.{Res, bind, operate, prefixes, infixes, less_than, walk_stmt, walk_stmts, walk_else, walk_expr, walk_exprs}
use Rattle.definition.specs.SymbolTable.{Symbol, Table, Resolved, load_of, place, with_local, named, with_params}
use Rattle.definition.specs.Compiler.{State, machine, with_code, with_tables, literal, boolean_of, emit, emit_beside, add_constant, last_is, without_last, load, loaded, define, placed, unpatched, jump, patch, dropped, enter, returned, loads, close_over, leave}
use Rattle.definition.specs.declared.reason.Refusal.{Refusal}
use Rattle.definition.specs.declared.reason.Reason.{Reason}
use Rattle.definition.proofs.Basic.{chosen, pick_false}
use Rattle.definition.proofs.Jumps.{size_of-change_operand}
use Rattle.definition.proofs.WellFormed.{WfStmt, WfStmts, WfElse, WfExpr, WfExprs}
use Rattle.promises.specs.Charge.{bytes_stmt, bytes_stmts, bytes_else, bytes_expr, bytes_exprs}
use Rattle.promises.proofs.Weights.{weight, held, Chained, chained_same, chained_then, chained_held, load_pays, extra_most, Finding, finding, opened_none}

-- from one state to another in the same chunk, for so many bytes
record Paid (s : State) (c : ℕ) (s' : State) : Type 0 where
  around : s'.around ≡ s.around
  code : size_of s'.code + held s'.tables ≤ size_of s.code + held s.tables + c
  names : 2 * held s'.tables ≤ 2 * held s.tables + c
  chained : Chained s.tables s'.tables

-- so many bytes more can be emitted
abbrev Room : State → ℕ → Type 0
Room s c = s.around + size_of s.code + c ≤ code_size

-- a step that goes on, to what Q says; or is refused, not with 13
data Pays {A : Type 0} (Q : A → State → Type 0) : Res State A → Type 0 where
  on : {a : A} {s : State} → Q a s → Pays Q (Res.on a s)
  stop : {r : Refusal} {s : State} → (number_of r.reason ≡ number_of Number.code → ⊥) → Pays Q (Res.stop r s)

module _ {A : Type 0} {Q : A → State → Type 0} where
  pays_bind : {B : Type 0} {P : B → State → Type 0} {x : Res State B} {k : B → State → Res State A} → Pays P x
      → ((b : B) (s : State) → P b s → Pays Q (k b s)) → Pays Q (bind x k)
  pays_bind (Pays.on {a = a} {s = s} p) f = f a s p
  pays_bind (Pays.stop n) f = Pays.stop n

-- any other number
abbrev other : Reason → Bool
other n = pick (eqb (number_of n) (number_of Number.code)) false true

refuses : {A : Type 0} {Q : A → State → Type 0} {n : Reason} {p : ℕ} {s : State} → T (other n) → Pays Q (Res.stop (refusal n p) s)
refuses {n = n} h = Pays.stop (λ e. subst (λ b. T (pick b false true)) (eq-eqb (number_of n) (number_of Number.code) e) h)

paid_same : (s : State) → Paid s 0 s
paid_same s = record { around = refl; code = omega arith; names = omega arith; chained = chained_same s.tables }

paid_more : {s s' : State} {c : ℕ} (t : ℕ) → Paid s c s' → c ≤ t → Paid s t s'
paid_more t p h = record { around = p.around; code = omega (arith, p.code); names = omega (arith, p.names); chained = p.chained }

-- the code alone
paid_code : {s s' : State} {c : ℕ} → Paid s c s' → s'.around + size_of s'.code ≤ s.around + size_of s.code + c
paid_code p = omega (arith, p.around, p.code, chained_held p.chained)

-- an instruction, where there is room
pays_emit : {Q : Unit {0} → State → Type 0} (closing p : ℕ) (i : Instr) (s : State)
    → s.around + size_of s.code + closing + size i ≤ code_size → Q tt (with_code (i ∷ s.code) s) → Pays Q (emit_beside closing p i s)
unfolding emit_beside
pays_emit {Q} closing p i s h q =
    chosen (Pays Q) (leb (s.around + size_of s.code + closing + size i) code_size) (λ _. Pays.on q) (λ e. absurd (omega (arith, leb-false (s.around + size_of s.code + closing + size i) code_size e)))

-- for its own bytes
emits : {s₀ s : State} {c : ℕ} (p : ℕ) (i : Instr) (t : ℕ) → Paid s₀ c s → c + size i ≤ t → Room s₀ t
    → Pays (λ (_ : Unit {0}). Paid s₀ t) (emit p i s)
emits {s₀} {s} {c} p i t k h r =
    pays_emit 0 p i s (omega (arith, paid_code k)) (record { around = k.around; code = omega (arith, k.code); names = omega (arith, k.names); chained = k.chained })

-- a constant
adds : {s₀ s : State} {t : ℕ} (p : ℕ) (c : Const) → Paid s₀ t s → Pays (λ (_ : ℕ). Paid s₀ t) (add_constant p c s)
unfolding add_constant
adds {s₀} {s} {t} p c k =
    chosen (Pays (λ (_ : ℕ). Paid s₀ t)) (leb constants_limit (length s.pool)) (λ _. refuses tt) (λ _.
    chosen (Pays (λ (_ : ℕ). Paid s₀ t)) (leb (pool_size (c ∷ s.pool)) pool_limit) (λ _. Pays.on (record { around = k.around; code = k.code; names = k.names; chained = k.chained })) (λ _. refuses tt))

literals : {s₀ s : State} {c : ℕ} (p : ℕ) (x : Const) (t : ℕ) → Paid s₀ c s → c + 3 ≤ t → Room s₀ t
    → Pays (λ (_ : Unit {0}). Paid s₀ t) (literal p x s)
literals p x t k h r = pays_bind (adds p x k) (λ n s₁ q. emits p (instr op_constant n 0) t q (omega arith) r)

-- a name: its load, and what it captures
names : {s₀ s : State} {c : ℕ} (p : ℕ) (n : Bytes) (t : ℕ) → Paid s₀ c s → c + 4 ≤ t → Room s₀ t
    → Pays (λ (_ : Unit {0}). Paid s₀ t) (load p n s)
unfolding load
names {s₀} {s} {c} p n t k h r = go (finding s.words s.globals n s.tables)
  where
    go : {x : Resolved} → Finding s.tables x → Pays (λ (_ : Unit {0}). Paid s₀ t) (loaded p s x)
    go (Finding.found {y} {us} l) =
        pays_emit 0 p (load_of y) (with_tables us s) (omega (arith, paid_code k, load_pays y))
        (record { around = k.around; code = omega (arith, k.code, l.within, load_pays y); names = omega (arith, k.names, l.within, extra_most y); chained = chained_then k.chained l.chained })
    go Finding.undefined = refuses tt
    go Finding.full = refuses tt

-- a definition, whose instruction has three bytes at most
defines : {s₀ s : State} {c : ℕ} (p : ℕ) (n : Bytes) → Paid s₀ c s → Pays (λ i s₁. (size i ≤ 3) × Paid s₀ c s₁) (define p n s)
unfolding define
defines {s₀} {s} {c} p n k = go s.tables refl
  where
    same : (ts us : List Table) (gs : List Bytes) → s.tables ≡ ts → Chained ts us → held us ≡ held ts → Paid s₀ c (record { code = s.code; around = s.around; tables = us; words = s.words; globals = gs; pool = s.pool })
    same ts us gs e ch h =
        let z : held s.tables ≡ held ts = ap held e in
        record { around = k.around; code = omega (arith, k.code); names = omega (arith, k.names); chained = chained_then k.chained (subst (λ ts. Chained ts us) (sym e) ch) }

    go : (ts : List Table) → s.tables ≡ ts → Pays (λ i s₁. (size i ≤ 3) × Paid s₀ c s₁) (placed p s (place n s.globals ts))
    go [] e =
        chosen (λ d. Pays (λ i s₁. (size i ≤ 3) × Paid s₀ c s₁) (placed p s d)) (leb globals_limit (length s.globals)) (λ _. refuses tt) (λ _. Pays.on (omega arith, same [] [] (n ∷ s.globals) e Chained.empty refl))
    go (t ∷ ts) e =
        chosen (λ d. Pays (λ i s₁. (size i ≤ 3) × Paid s₀ c s₁) (placed p s d)) (leb locals_limit t.definitions) (λ _. refuses tt)
        (λ _. Pays.on (omega arith, same (t ∷ ts) (with_local n t ∷ ts) s.globals e (Chained.inner (omega arith) (omega arith) (chained_same ts)) refl))

-- a jump: the last instruction is neither Pop nor ReturnValue then
record Jumped (s₀ : State) (t : ℕ) (s : State) : Type 0 where
  paid : Paid s₀ t s
  no_pop : last_is op_pop s.code ≡ false
  no_return : last_is op_return_value s.code ≡ false

jumps : {s₀ s : State} {c : ℕ} (p o t : ℕ) → Paid s₀ c s → size (instr o unpatched 0) ≡ 3 → eqb o op_pop ≡ false
    → eqb o op_return_value ≡ false → c + 3 ≤ t → Room s₀ t → Pays (λ (_ : ℕ). Jumped s₀ t) (jump p o s)
unfolding jump
jumps {s₀} {s} {c} p o t k e f g h r =
    pays_bind {P = λ (_ : Unit {0}). Jumped s₀ t}
    (pays_emit 0 p (instr o unpatched 0) s (omega (arith, paid_code k)) (record { paid = record { around = k.around; code = omega (arith, k.code); names = omega (arith, k.names); chained = k.chained }; no_pop = f; no_return = g }))
    (λ _ s₁ q. Pays.on q)

patched : {s₀ s : State} {c : ℕ} (j : ℕ) → Paid s₀ c s → Paid s₀ c (patch j s)
unfolding patch
patched {s =
    s} j k = record { around = k.around; code = omega (arith, k.code, size_of-change_operand j (size_of s.code) s.code); names = k.names; chained = k.chained }

-- a branch's end
without_less : (c : Code) → size_of (without_last c) ≤ size_of c
without_less [] = omega arith
without_less (i ∷ c) = omega arith

drops : {s₀ s : State} {c : ℕ} (p : ℕ) → Paid s₀ c s → Pays (λ (_ : Unit {0}). Paid s₀ c) (dropped p s)
unfolding dropped
drops {s₀} {s} {c} p k =
    chosen (Pays (λ (_ : Unit {0}). Paid s₀ c)) (last_is op_pop s.code) (λ _. Pays.on without) (λ _.
    chosen (Pays (λ (_ : Unit {0}). Paid s₀ c)) (last_is op_return_value s.code) (λ _. Pays.on k) (λ _. refuses tt))
  where
    without : Paid s₀ c (with_code (without_last s.code) s)
    without = record { around = k.around; code = omega (arith, k.code, without_less s.code); names = k.names; chained = k.chained }

-- right behind a jump it is refused with 22
drops_none : {Q : Unit {0} → State → Type 0} (s : State) (p : ℕ) → last_is op_pop s.code ≡ false → last_is op_return_value s.code ≡ false
    → Pays Q (dropped p s)
unfolding dropped
drops_none {Q} s p e f = subst (Pays Q) (sym (pick_false _ _ e ∙ pick_false _ _ f)) (refuses tt)

-- an operator's instruction, where each of a list has one byte
light : List (Option ℕ) → Bool
light [] = true
light (none ∷ os) = light os
light (some o ∷ os) = both (leb (size (plain o)) 1) (light os)

both_light : (a b : Bool) → T (both a b) → T a × T b
both_light true b h = (tt, h)
both_light false b h = absurd h

operates : {s₀ s : State} {c : ℕ} (p : ℕ) (os : List (Option ℕ)) → T (light os) → (o t : ℕ) → Paid s₀ c s → c + 1 ≤ t → Room s₀ t
    → Pays (λ (_ : Unit {0}). Paid s₀ t) (operate machine p (get_or os o none) s)
unfolding light
operates p [] l o t k h r = refuses tt
operates p (none ∷ os) l zero t k h r = refuses tt
operates p (some x ∷ os) l zero t k h r =
    let b = (both_light (leb (size (plain x)) 1) (light os) l).0 in emits p (plain x) t k (omega (arith, leb→le (size (plain x)) 1 b)) r
operates p (none ∷ os) l (suc o) t k h r = operates p os l o t k h r
operates p (some x ∷ os) l (suc o) t k h r = operates p os (both_light (leb (size (plain x)) 1) (light os) l).1 o t k h r

prefixes_light : T (light prefixes)
unfolding light
prefixes_light = tt

infixes_light : T (light infixes)
unfolding light
infixes_light = tt

-- a function that is opened
record Opened (s s' : State) : Type 0 where
  around : s'.around ≡ s.around + size_of s.code
  code : size_of s'.code ≡ 0
  table : Table
  light : weight table.originals ≡ 0
  tables : s'.tables ≡ table ∷ s.tables

opens : (p : ℕ) (n : Bytes) (ps : List Bytes) (s : State) → Pays (λ (_ : Unit {0}). Opened s) (enter p n ps s)
unfolding enter
opens p n ps s =
    chosen (Pays (λ (_ : Unit {0}). Opened s)) (leb nesting_limit (length s.tables)) (λ _. refuses tt) (λ _.
    chosen (Pays (λ (_ : Unit {0}). Opened s)) (ltb arguments_limit (length ps)) (λ _. refuses tt) (λ _. Pays.on (record { around = refl; code = refl; table = with_params ps (named n); light = opened_none n ps; tables = refl })))

-- its last instruction
record Returned (s s' : State) : Type 0 where
  code : size_of s'.code ≤ size_of s.code + 1
  tables : s'.tables ≡ s.tables

returns : (p : ℕ) (s : State) → s.around + size_of s.code + 1 ≤ code_size → Pays (λ (_ : Unit {0}). Returned s) (returned p s)
unfolding returned
returns p s h =
    chosen (Pays (λ (_ : Unit {0}). Returned s)) (last_is op_pop s.code) (λ _. Pays.on popped) (λ _.
    chosen (Pays (λ (_ : Unit {0}). Returned s)) (last_is op_return_value s.code) (λ _. Pays.on same) (λ _. pays_emit 0 p (plain op_return) s (omega arith) (record { code = omega arith; tables = refl })))
  where
    popped : Returned s (with_code (plain op_return_value ∷ without_last s.code) s)
    popped = record { code = omega (arith, without_less s.code); tables = refl }

    same : Returned s s
    same = record { code = omega arith; tables = refl }

-- code more, and nothing else
record Laid (s : State) (w : ℕ) (s' : State) : Type 0 where
  around : s'.around ≡ s.around
  code : size_of s'.code ≡ size_of s.code + w
  tables : s'.tables ≡ s.tables

-- the loads of captures, beside the closing chunk
lays : (closing p : ℕ) (ys : List Symbol) (s : State) → s.around + size_of s.code + closing + weight ys ≤ code_size
    → Pays (λ (_ : Unit {0}). Laid s (weight ys)) (loads closing p ys s)
unfolding loads
lays closing p [] s h = let l : Laid s 0 s = record { around = refl; code = omega arith; tables = refl } in Pays.on l
lays closing p (y ∷ ys) s h =
    pays_bind (lays closing p ys s (omega arith)) (λ _ s₁ l.
    pays_emit closing p (load_of y) s₁ (omega (arith, l.around, l.code)) (record { around = l.around; code = omega (arith, l.code); tables = l.tables }))

lays_constant : {s₀ s : State} {w : ℕ} (p : ℕ) (c : Const) → Laid s₀ w s → Pays (λ (_ : ℕ). Laid s₀ w) (add_constant p c s)
unfolding add_constant
lays_constant {s₀} {s} {w} p c l =
    chosen (Pays (λ (_ : ℕ). Laid s₀ w)) (leb constants_limit (length s.pool)) (λ _. refuses tt) (λ _.
    chosen (Pays (λ (_ : ℕ). Laid s₀ w)) (leb (pool_size (c ∷ s.pool)) pool_limit) (λ _. Pays.on (record { around = l.around; code = l.code; tables = l.tables })) (λ _. refuses tt))

-- a function of so many bytes is closed
closes : {s₀ s s₁ s₂ : State} {c : ℕ} (p k body t : ℕ) → Paid s₀ c s → Opened s s₁ → Paid s₁ body s₂ → c + (12 + body) ≤ t → Room s₀ t
    → Pays (λ (_ : Unit {0}). Paid s₀ t) (leave p k s s₂)
unfolding leave
closes {s₀} {s} {s₁} {s₂} {c} p k body t q o d h r =
    pays_bind (returns p s₂ (omega (arith, paid_code d, o.around, o.code, paid_code q))) (λ _ s₃ e. go s₃ e s₃.tables (subst (Chained (o.table ∷ s.tables)) (sym e.tables) (subst (λ ts. Chained ts s₂.tables) o.tables d.chained)) (ap held e.tables))
  where
    start : held s₁.tables ≡ 0
    start = ap held o.tables ∙ o.light

    go : (s₃ : State) → Returned s₂ s₃ → (ts : List Table) → Chained (o.table ∷ s.tables) ts → held ts ≡ held s₂.tables
        → Pays (λ (_ : Unit {0}). Paid s₀ t) (close_over p k s s₃ ts)
    go s₃ e [] c z = elim c [ ]
    go s₃ e (u ∷ us) (Chained.inner a b ch) z =
        let w = weight u.originals in
        let base : State = record { code = s.code; around = s.around; tables = us; words = s₃.words; globals = s₃.globals; pool = s₃.pool } in
        let half : 2 * w ≤ body = omega (arith, d.names, start) in
        let inner : size_of s₃.code + w ≤ body + 1 = omega (arith, d.code, start, o.code, e.code) in
        let out = paid_code q in
        pays_bind (lays (size_of s₃.code) p u.originals base (omega arith)) (λ _ s₄ l.
        pays_bind (lays_constant p (Const.function u.definitions k s₃.code) l) (λ n s₅ l₁.
        pays_emit 0 p (instr op_closure n (length u.originals)) s₅ (omega (arith, l₁.around, l₁.code))
        (record {
          around = l₁.around ∙ q.around;
          code = omega (arith, l₁.code, ap held l₁.tables, o.light, q.code);
          names = omega (arith, ap held l₁.tables, o.light, q.names);
          chained = chained_then q.chained (subst (Chained s.tables) (sym l₁.tables) ch);
        })))

-- a statement has its head
stmt_least : (x : Stmt) → 3 ≤ bytes_stmt x
unfolding bytes_stmt
stmt_least (Stmt.expr_stmt p e) = omega arith
stmt_least (Stmt.let_stmt p n e) = omega arith
stmt_least (Stmt.return_stmt p e) = omega arith
stmt_least (Stmt.block p b) = omega arith

boolean_size : (b : ℕ) → size (boolean_of b) ≤ 1
boolean_size b = chosen (λ o. size (plain o) ≤ 1) (eqb b 0) (λ _. omega arith) (λ _. omega arith)

-- statements have two bytes to spare, if there are any
abbrev spare : Stmts → ℕ
spare Stmts.no_stmts = 0
spare (Stmts.stmts x xs) = 2

-- a branch behind its jump: without statements it is refused with 22
branches : {Q : Unit {0} → State → Type 0} (b : Stmts) {s₀ s : State} {c : ℕ} (t p : ℕ) (k : Unit {0} → State → Res State (Unit {0}))
    → Jumped s₀ c s → (spare b ≡ 2 → Pays (λ (_ : Unit {0}). Paid s₀ t) (walk_stmts machine b s))
    → ((s₁ : State) → Paid s₀ t s₁ → Pays Q (k tt s₁)) → Pays Q (bind (walk_stmts machine b s) (λ _ s₁. bind (dropped p s₁) k))
unfolding walk_stmt
branches Stmts.no_stmts {s = s} t p k u h f = pays_bind {P = λ _ _. ⊥} (drops_none s p u.no_pop u.no_return) (λ _ _ z. absurd z)
branches (Stmts.stmts x xs) t p k u h f = pays_bind (h refl) (λ _ s₁ q. pays_bind (drops p q) (λ _ s₂ y. f s₂ y))

mutual
  unfolding walk_stmt bytes_stmt WfStmt

  -- a statement has two bytes to spare
  pays_stmt : (x : Stmt) {s₀ s : State} {c : ℕ} (t : ℕ) → WfStmt x → Paid s₀ c s → c + bytes_stmt x ≤ t + 2 → Room s₀ t
      → Pays (λ (_ : Unit {0}). Paid s₀ t) (walk_stmt machine x s)
  pays_stmt (Stmt.expr_stmt p e) {c =
      c} t w k h r = pays_bind (pays_expr e (c + bytes_expr e) w k (omega arith) (omega arith)) (λ _ s₁ q. emits p (plain op_pop) t q (omega arith) r)
  pays_stmt (Stmt.let_stmt p n e) {c = c} t w k h r =
      pays_bind (defines p n k) (λ i s₁ d. pays_bind (pays_expr e (c + bytes_expr e) w.1 d.1 (omega arith) (omega arith)) (λ _ s₂ q. emits p i t q (omega (arith, d.0)) r))
  pays_stmt (Stmt.return_stmt p e) {c = c} t w k h r = pays_bind (pays_expr e (c + bytes_expr e) w k (omega arith) (omega arith)) (λ _ s₁ q. emits p (plain op_return_value) t q (omega arith) r)
  pays_stmt (Stmt.block p b) t w k h r = pays_stmts b t w k (omega arith) r

  pays_stmts : (b : Stmts) {s₀ s : State} {c : ℕ} (t : ℕ) → WfStmts b → Paid s₀ c s → c + bytes_stmts b ≤ t + spare b → Room s₀ t
      → Pays (λ (_ : Unit {0}). Paid s₀ t) (walk_stmts machine b s)
  pays_stmts Stmts.no_stmts t w k h r = Pays.on (paid_more t k (omega arith))
  pays_stmts (Stmts.stmts x xs) {c = c} t w k h r =
      let l = stmt_least x in
      pays_bind (pays_stmt x (c + (bytes_stmt x - 2)) w.0 k (omega arith) (omega arith)) (λ _ s₁ q. pays_stmts xs t w.1 q (omega arith) r)

  pays_else : (e : Else) {s₀ s : State} {c : ℕ} (p t : ℕ) → WfElse e → Paid s₀ c s → c + 1 + bytes_else e ≤ t → Room s₀ t
      → Pays (λ (_ : Unit {0}). Paid s₀ t) (walk_else machine e p s)
  pays_else Else.no_else p t w k h r = emits p (plain op_null) t k (omega arith) r
  pays_else (Else.else b) p t w k h r = pays_bind (pays_stmts b t w k (omega arith) r) (λ _ s₁ q. drops p q)

  pays_expr : (e : Expr) {s₀ s : State} {c : ℕ} (t : ℕ) → WfExpr e → Paid s₀ c s → c + bytes_expr e ≤ t → Room s₀ t
      → Pays (λ (_ : Unit {0}). Paid s₀ t) (walk_expr machine e s)
  pays_expr (Expr.identifier p n) t w k h r = names p n t k (omega (arith, w.some)) r
  pays_expr (Expr.prefix p o e) {c =
      c} t w k h r = pays_bind (pays_expr e (c + bytes_expr e) w k (omega arith) (omega arith)) (λ _ s₁ q. operates p prefixes prefixes_light o t q (omega arith) r)
  pays_expr (Expr.infixed p a o b) {s₀} {c = c} t w k h r =
      chosen (Pays (λ (_ : Unit {0}). Paid s₀ t)) (eqb o less_than)
      (λ _. pays_bind (pays_expr b (c + bytes_expr b) w.1 k (omega arith) (omega arith)) (λ _ s₁ q. pays_bind (pays_expr a (c + bytes_expr b + bytes_expr a) w.0 q (omega arith) (omega arith)) (λ _ s₂ u. operates p infixes infixes_light o t u (omega arith) r)))
      (λ _. pays_bind (pays_expr a (c + bytes_expr a) w.0 k (omega arith) (omega arith)) (λ _ s₁ q. pays_bind (pays_expr b (c + bytes_expr a + bytes_expr b) w.1 q (omega arith) (omega arith)) (λ _ s₂ u. operates p infixes infixes_light o t u (omega arith) r)))
  pays_expr (Expr.if p e b f) {c = c} t w k h r =
      let c₁ = c + bytes_expr e in
      let c₂ = c₁ + 3 in
      let c₃ = c₁ + 1 + bytes_stmts b in
      let c₄ = c₃ + 3 in
      pays_bind (pays_expr e c₁ w.0 k (omega arith) (omega arith)) (λ _ s₁ q.
      pays_bind (jumps p op_jump_not_truthy c₂ q refl refl refl (omega arith) (omega arith)) (λ j s₂ u.
      branches b c₃ p (λ _ s₄. bind (jump p op_jump s₄) (λ i s₅. bind (walk_else machine f p (patch j s₅)) (λ _ s₆. Res.on tt (patch i s₆)))) u (λ n. pays_stmts b c₃ w.1 u.paid (omega (arith, n)) (omega arith)) (λ s₄ y.
      pays_bind (jumps p op_jump c₄ y refl refl refl (omega arith) (omega arith)) (λ i s₅ z.
      pays_bind (pays_else f p t w.2 (patched j z.paid) (omega arith) r) (λ _ s₆ g. Pays.on (patched i g))))))
  pays_expr (Expr.function p n ps b) {s = s} t w k h r =
      pays_bind (opens p n ps s) (λ _ s₁ o. pays_bind (pays_stmts b (bytes_stmts b) w.2 (paid_same s₁) (omega arith) (omega (arith, o.around, o.code, paid_code k))) (λ _ s₂ d. closes p (length ps) (bytes_stmts b) t k o d h r))
  pays_expr (Expr.call p f es) {s₀} {c = c} t w k h r =
      pays_bind (pays_expr f (c + bytes_expr f) w.0 k (omega arith) (omega arith)) (λ _ s₁ q.
      chosen (Pays (λ (_ : Unit {0}). Paid s₀ t)) (ltb arguments_limit (count es)) (λ _. refuses tt)
      (λ _. pays_bind (pays_exprs es (c + bytes_expr f + bytes_exprs es) w.1 q (omega arith) (omega arith)) (λ _ s₂ u. emits p (instr op_call (count es) 0) t u (omega arith) r)))
  pays_expr (Expr.integer p b) t w k h r = literals p (Const.integer b) t k h r
  pays_expr (Expr.boolean p b) t w k h r = emits p (boolean_of b) t k (omega (arith, boolean_size b)) r
  pays_expr (Expr.string p b) t w k h r = literals p (Const.string b) t k h r
  pays_expr (Expr.array p es) {c =
      c} t w k h r = pays_bind (pays_exprs es (c + bytes_exprs es) w.1 k (omega arith) (omega arith)) (λ _ s₁ q. emits p (instr op_array (count es) 0) t q (omega arith) r)
  pays_expr (Expr.index p a b) {c = c} t w k h r =
      pays_bind (pays_expr a (c + bytes_expr a) w.0 k (omega arith) (omega arith)) (λ _ s₁ q. pays_bind (pays_expr b (c + bytes_expr a + bytes_expr b) w.1 q (omega arith) (omega arith)) (λ _ s₂ u. emits p (plain op_index) t u (omega arith) r))
  pays_expr (Expr.hash p es) {c = c} t w k h r = pays_bind (pays_exprs es (c + bytes_exprs es) w.1 k (omega arith) (omega arith)) (λ _ s₁ q. emits p (instr op_hash (count es) 0) t q (omega arith) r)
  pays_expr (Expr.macro p) t w k h r = refuses tt

  pays_exprs : (es : Exprs) {s₀ s : State} {c : ℕ} (t : ℕ) → WfExprs es → Paid s₀ c s → c + bytes_exprs es ≤ t → Room s₀ t
      → Pays (λ (_ : Unit {0}). Paid s₀ t) (walk_exprs machine es s)
  pays_exprs Exprs.no_exprs t w k h r = Pays.on (paid_more t k (omega arith))
  pays_exprs (Exprs.exprs x xs) {c =
      c} t w k h r = pays_bind (pays_expr x (c + bytes_expr x) w.0 k (omega arith) (omega arith)) (λ _ s₁ q. pays_exprs xs t w.1 q (omega arith) r)

-- so a walk that has as many bytes of room as its statements have is not refused with 13
pub walk_not_13 : (b : Stmts) (s : State) → WfStmts b → s.around + size_of s.code + bytes_stmts b ≤ code_size → {r : Refusal} {s' : State}
    → walk_stmts machine b s ≡ Res.stop r s' → number_of r.reason ≡ number_of Number.code → ⊥
walk_not_13 b s w h {r} {s'} e =
    go (subst (Pays (λ (_ : Unit {0}). Paid s (bytes_stmts b))) e (pays_stmts b (bytes_stmts b) w (paid_same s) (omega arith) h))
  where
    go : Pays (λ (_ : Unit {0}). Paid s (bytes_stmts b)) (Res.stop r s') → number_of r.reason ≡ number_of Number.code → ⊥
    go (Pays.stop n) = n

-- and emits no more code than they have bytes
pub walk_code : (b : Stmts) (s : State) → WfStmts b → s.around + size_of s.code + bytes_stmts b ≤ code_size → {s' : State}
    → walk_stmts machine b s ≡ Res.on tt s' → s'.around + size_of s'.code ≤ s.around + size_of s.code + bytes_stmts b
walk_code b s w h {s'} e =
    go (subst (Pays (λ (_ : Unit {0}). Paid s (bytes_stmts b))) e (pays_stmts b (bytes_stmts b) w (paid_same s) (omega arith) h))
  where
    go : Pays (λ (_ : Unit {0}). Paid s (bytes_stmts b)) (Res.on tt s')
        → s'.around + size_of s'.code ≤ s.around + size_of s.code + bytes_stmts b
    go (Pays.on p) = paid_code p
