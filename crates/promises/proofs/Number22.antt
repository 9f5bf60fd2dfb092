-- Number 22 exactly: a tree that gets to the walk is refused with 22 at p exactly when the walk comes to the end of a branch of the If at p
-- that has emitted nothing, or whose last instruction is neither Pop nor ReturnValue.
use Prim.Native.Nat.{ℕ, ◌+◌}
use native.Mathlib.Omega.{arith}
use mathlib.Core.Bool.{Bool, true, false}
use mathlib.Core.List.{List, [], ◌∷◌, ◌++◌}
use mathlib.Core.Logic.{◌↔◌}
use mathlib.Core.Path.{◌≡◌, refl, sym, ap, subst, ◌∙◌}
use lib.ListN.{length, get_or}
use lib.Dec.{T, leb, ltb, eqb}
use borrow.Author.Tests.{eq-eqb}
use Rattle.std.proofs.Math.Option.{Option, none, some}
use Rattle.definition.specs.Basic.{Bytes, pick}
use Rattle.definition.specs.Limit.{code_size, constants_limit, pool_limit, nesting_limit, arguments_limit, globals_limit, locals_limit}
use Rattle.definition.specs.Number
use Rattle.definition.specs.Number.{refusal, number_of}
use Rattle.definition.specs.Syntax.{Stmt, Stmts, Else, Expr, Exprs, count}
use Rattle.definition.specs.Opcode.{Instr, instr, plain, size, op_constant, op_pop, op_jump_not_truthy, op_jump, op_null, op_array, op_hash, op_index, op_call, op_return_value, op_return}
use Rattle.definition.specs.Bytecode.{Code, size_of, Const, pool_size, image_bytes}
use Rattle.definition.specs.Walk.{Res, bind, operate, prefixes, infixes, less_than, walk_stmt, walk_stmts, walk_else, walk_expr, walk_exprs}
use Rattle.definition.specs.SymbolTable.{Symbol, Table, Resolved, resolve, place}
use Rattle.definition.specs.Compiler.{State, machine, with_code, literal, boolean_of, emit_beside, add_constant, last_is, change_operand, load, loaded, define, placed, unpatched, jump, patch, dropped, enter, returned, loads, close_over, leave}
use Rattle.definition.specs.Tree.{Parsed, read_tree}
use Rattle.definition.specs.Session.{Session}
use Rattle.definition.specs.Compile.{Outcome, Request, start, image_of, session_of, turned_down, finish, translate, enough, compile}
use Rattle.definition.specs.declared.reason.Refusal.{Refusal}
use Rattle.definition.specs.declared.reason.Reason.{Reason}
use Rattle.definition.proofs.Basic.{chosen, pick_true, pick_false}
use Rattle.definition.proofs.Account.{Known}
use Rattle.definition.proofs.Emits.{Emitted, accounted}
use Rattle.definition.proofs.Branches.{passes}
use Rattle.promises.specs.Branch.{ToConsequence, ToAlternative, StmtMeets, StmtsMeets, BranchMeets, ElseMeets, ExprMeets, ExprsMeets, NoValueAt}

-- Where 22 comes from

-- a step that goes on; or is refused, and where that is 22, M holds of the place
data Caused {A : Type 0} (M : ℕ → Type 0) : Res State A → Type 0 where
  on : {a : A} {s : State} → Caused M (Res.on a s)
  stop : {r : Refusal} {s : State} → (number_of r.reason ≡ number_of Number.no_value → M r.place) → Caused M (Res.stop r s)

caused_bind : {A B : Type 0} {M : ℕ → Type 0} {x : Res State A} {k : A → State → Res State B} → Caused M x
    → ((a : A) (s : State) → x ≡ Res.on a s → Caused M (k a s)) → Caused M (bind x k)
caused_bind (Caused.on {a = a} {s = s}) f = f a s refl
caused_bind (Caused.stop h) f = Caused.stop h

caused_map : {A : Type 0} {M N : ℕ → Type 0} {x : Res State A} → ((p : ℕ) → M p → N p) → Caused M x → Caused N x
caused_map f Caused.on = Caused.on
caused_map f (Caused.stop {r = r} h) = Caused.stop (λ e. f r.place (h e))

-- another number
abbrev other : Reason → Bool
other n = pick (eqb (number_of n) (number_of Number.no_value)) false true

module _ {M : ℕ → Type 0} where
  quiet : {A : Type 0} {n : Reason} {p : ℕ} {s : State} → T (other n) → Caused {A = A} M (Res.stop (refusal n p) s)
  quiet {n = n} h = Caused.stop (λ e. absurd (subst (λ b. T (pick b false true)) (eq-eqb (number_of n) (number_of Number.no_value) e) h))

  module _ (p : ℕ) where
    emits : (d : ℕ) (i : Instr) (s : State) → Caused M (emit_beside d p i s)
    unfolding emit_beside
    emits d i s = chosen (Caused M) (leb (s.around + size_of s.code + d + size i) code_size) (λ _. Caused.on) (λ _. quiet tt)

    adds : (c : Const) (s : State) → Caused M (add_constant p c s)
    unfolding add_constant
    adds c s =
        chosen (Caused M) (leb constants_limit (length s.pool)) (λ _. quiet tt) (λ _. chosen (Caused M) (leb (pool_size (c ∷ s.pool)) pool_limit) (λ _. Caused.on) (λ _. quiet tt))

    literals : (c : Const) (s : State) → Caused M (literal p c s)
    literals c s = caused_bind (adds c s) (λ k s₁ _. emits 0 (instr op_constant k 0) s₁)

    names : (n : Bytes) (s : State) → Caused M (load p n s)
    unfolding load
    names n s = go (resolve s.words s.globals n s.tables)
      where
        go : (f : Resolved) → Caused M (loaded p s f)
        go (Resolved.found y ts) = emits 0 _ _
        go Resolved.undefined = quiet tt
        go Resolved.full = quiet tt

    defines : (n : Bytes) (s : State) → Caused M (define p n s)
    unfolding define
    defines n s = go s.tables
      where
        go : (ts : List Table) → Caused M (placed p s (place n s.globals ts))
        go [] = chosen (λ d. Caused M (placed p s d)) (leb globals_limit (length s.globals)) (λ _. quiet tt) (λ _. Caused.on)
        go (t ∷ ts) = chosen (λ d. Caused M (placed p s d)) (leb locals_limit t.definitions) (λ _. quiet tt) (λ _. Caused.on)

    jumps : (o : ℕ) (s : State) → Caused M (jump p o s)
    unfolding jump
    jumps o s = caused_bind (emits 0 _ s) (λ _ _ _. Caused.on)

    enters : (n : Bytes) (ps : List Bytes) (s : State) → Caused M (enter p n ps s)
    unfolding enter
    enters n ps s =
        chosen (Caused M) (leb nesting_limit (length s.tables)) (λ _. quiet tt) (λ _. chosen (Caused M) (ltb arguments_limit (length ps)) (λ _. quiet tt) (λ _. Caused.on))

    returns : (s : State) → Caused M (returned p s)
    unfolding returned
    returns s =
        chosen (Caused M) (last_is op_pop s.code) (λ _. Caused.on) (λ _. chosen (Caused M) (last_is op_return_value s.code) (λ _. Caused.on) (λ _. emits 0 (plain op_return) s))

    loads_all : (d : ℕ) (ys : List Symbol) (s : State) → Caused M (loads d p ys s)
    unfolding loads
    loads_all d [] s = Caused.on
    loads_all d (y ∷ ys) s = caused_bind (loads_all d ys s) (λ _ s₁ _. emits d _ s₁)

    closes : (k : ℕ) (s s' : State) (ts : List Table) → Caused M (close_over p k s s' ts)
    closes k s s' [] = Caused.on
    closes k s s' (t ∷ ts) = caused_bind (loads_all _ t.originals _) (λ _ s₁ _. caused_bind (adds _ s₁) (λ c s₂ _. emits 0 _ s₂))

    leaves : (k : ℕ) (s s' : State) → Caused M (leave p k s s')
    unfolding leave
    leaves k s s' = caused_bind (returns s') (λ _ s₁ _. closes k s s₁ s₁.tables)

    operates : (o : Option ℕ) (s : State) → Caused M (operate machine p o s)
    operates none s = quiet tt
    operates (some o) s = emits 0 (plain o) s

-- a branch that does not pass was met
abbrev Met : (ℕ → Code → Type 0) → ℕ → Type 0
Met F p = (d : Code) × (F p d × (passes d ≡ false))

met-map : {F G : ℕ → Code → Type 0} → ((p : ℕ) (d : Code) → F p d → G p d) → (p : ℕ) → Met F p → Met G p
met-map f p m = (m.0, (f p m.0 m.1.0, m.1.1))

-- neither Pop nor ReturnValue is last
fails : (d b : Code) → last_is op_pop (d ++ b) ≡ false → last_is op_return_value (d ++ b) ≡ false → passes d ≡ false
fails [] b e f = refl
fails (i ∷ d) b e f = (λ j. pick (e j) true (eqb i.op op_return_value)) ∙ f

-- a branch's end, after its walk
drops : (b : Stmts) (q : ℕ) (s : State) {s₁ : State} → walk_stmts machine b s ≡ Res.on tt s₁
    → Caused (Met (λ p d. BranchMeets p d q b s)) (dropped q s₁)
unfolding dropped
drops b q s {s₁} e = go s₁ e (accounted b s e)
  where
    go : (s₁ : State) → walk_stmts machine b s ≡ Res.on tt s₁ → {E : Code → Known → Type 0} {r n : ℕ} → Emitted E s.code r n s₁
        → Caused (Met (λ p d. BranchMeets p d q b s)) (dropped q s₁)
    go s₁ e (Emitted.emitted d w x l) =
        chosen (Caused (Met (λ p d. BranchMeets p d q b s))) (last_is op_pop (d ++ s.code)) (λ _. Caused.on) (λ f.
        chosen (Caused (Met (λ p d. BranchMeets p d q b s))) (last_is op_return_value (d ++ s.code)) (λ _. Caused.on) (λ g.
        Caused.stop {r = refusal Number.no_value q} (λ _. (d, (BranchMeets.end e refl, fails d s.code f g)))))

mutual
  unfolding walk_stmt

  caused_stmt : (x : Stmt) (s : State) → Caused (Met (λ p d. StmtMeets p d x s)) (walk_stmt machine x s)
  caused_stmt (Stmt.expr_stmt q e) s =
      caused_bind (caused_map (met-map (λ _ _ m. StmtMeets.expr_stmt m)) (caused_expr e s)) (λ _ s₁ _. emits q 0 (plain op_pop) s₁)
  caused_stmt (Stmt.let_stmt q n e) s =
      caused_bind (defines q n s) (λ i s₁ h. caused_bind (caused_map (met-map (λ _ _ m. StmtMeets.let_stmt h m)) (caused_expr e s₁)) (λ _ s₂ _. emits q 0 i s₂))
  caused_stmt (Stmt.return_stmt q e) s =
      caused_bind (caused_map (met-map (λ _ _ m. StmtMeets.return_stmt m)) (caused_expr e s)) (λ _ s₁ _. emits q 0 (plain op_return_value) s₁)
  caused_stmt (Stmt.block q b) s = caused_map (met-map (λ _ _ m. StmtMeets.block m)) (caused_stmts b s)

  caused_stmts : (b : Stmts) (s : State) → Caused (Met (λ p d. StmtsMeets p d b s)) (walk_stmts machine b s)
  caused_stmts Stmts.no_stmts s = Caused.on
  caused_stmts (Stmts.stmts x xs) s =
      caused_bind (caused_map (met-map (λ _ _ m. StmtsMeets.here m)) (caused_stmt x s)) (λ _ s₁ h. caused_map (met-map (λ _ _ m. StmtsMeets.later h m)) (caused_stmts xs s₁))

  caused_else : (f : Else) (q : ℕ) (s : State) → Caused (Met (λ p d. ElseMeets p d q f s)) (walk_else machine f q s)
  caused_else Else.no_else q s = emits q 0 (plain op_null) s
  caused_else (Else.else b) q s =
      caused_bind (caused_map (met-map (λ _ _ m. ElseMeets.else (BranchMeets.inside m))) (caused_stmts b s)) (λ _ s₁ h. caused_map (met-map (λ _ _ m. ElseMeets.else m)) (drops b q s h))

  caused_expr : (e : Expr) (s : State) → Caused (Met (λ p d. ExprMeets p d e s)) (walk_expr machine e s)
  caused_expr (Expr.identifier q n) s = names q n s
  caused_expr (Expr.prefix q o e) s =
      caused_bind (caused_map (met-map (λ _ _ m. ExprMeets.prefix m)) (caused_expr e s)) (λ _ s₁ _. operates q (get_or prefixes o none) s₁)
  caused_expr (Expr.infixed q l o r) s =
      chosen (Caused (Met (λ p d. ExprMeets p d (Expr.infixed q l o r) s))) (eqb o less_than)
      (λ t. caused_bind (caused_map (met-map (λ _ _ m. ExprMeets.less_right t m)) (caused_expr r s)) (λ _ s₁ h. caused_bind (caused_map (met-map (λ _ _ m. ExprMeets.less_left t h m)) (caused_expr l s₁)) (λ _ s₂ _. operates q (get_or infixes o none) s₂)))
      (λ t. caused_bind (caused_map (met-map (λ _ _ m. ExprMeets.left t m)) (caused_expr l s)) (λ _ s₁ h. caused_bind (caused_map (met-map (λ _ _ m. ExprMeets.right t h m)) (caused_expr r s₁)) (λ _ s₂ _. operates q (get_or infixes o none) s₂)))
  caused_expr (Expr.if q e b f) s =
      caused_bind (caused_map (met-map (λ _ _ m. ExprMeets.condition m)) (caused_expr e s)) (λ _ s₁ h₁.
      caused_bind (jumps q op_jump_not_truthy s₁) (λ j s₂ h₂.
      let to : ToConsequence q e s j s₂ = record { tested = s₁; condition = h₁; jumps = h₂ } in
      caused_bind (caused_map (met-map (λ _ _ m. ExprMeets.consequence to (BranchMeets.inside m))) (caused_stmts b s₂)) (λ _ s₃ h₃.
      caused_bind (caused_map (met-map (λ _ _ m. ExprMeets.consequence to m)) (drops b q s₂ h₃)) (λ _ s₄ h₄.
      caused_bind (jumps q op_jump s₄) (λ k s₅ h₅.
      let further : ToAlternative q e b s j s₅ = record { second = k; begun = s₂; walked = s₃; left = s₄; before = to; consequence = h₃; passes = h₄; jumps = h₅ } in
      caused_bind (caused_map (met-map (λ _ _ m. ExprMeets.alternative further m)) (caused_else f q (patch j s₅))) (λ _ s₆ _. Caused.on))))))
  caused_expr (Expr.function q n ps b) s = caused_bind (enters q n ps s) (λ _ s₁ h. caused_bind (caused_map (met-map (λ _ _ m. ExprMeets.function h m)) (caused_stmts b s₁)) (λ _ s₂ _. leaves q (length ps) s s₂))
  caused_expr (Expr.call q e es) s =
      caused_bind (caused_map (met-map (λ _ _ m. ExprMeets.callee m)) (caused_expr e s)) (λ _ s₁ h.
      chosen (Caused (Met (λ p d. ExprMeets p d (Expr.call q e es) s))) (ltb arguments_limit (count es)) (λ _. quiet tt)
      (λ few. caused_bind (caused_map (met-map (λ _ _ m. ExprMeets.arguments h few m)) (caused_exprs es s₁)) (λ _ s₂ _. emits q 0 (instr op_call (count es) 0) s₂)))
  caused_expr (Expr.integer q b) s = literals q (Const.integer b) s
  caused_expr (Expr.boolean q b) s = emits q 0 (boolean_of b) s
  caused_expr (Expr.string q b) s = literals q (Const.string b) s
  caused_expr (Expr.array q es) s =
      caused_bind (caused_map (met-map (λ _ _ m. ExprMeets.array m)) (caused_exprs es s)) (λ _ s₁ _. emits q 0 (instr op_array (count es) 0) s₁)
  caused_expr (Expr.index q l i) s =
      caused_bind (caused_map (met-map (λ _ _ m. ExprMeets.indexed m)) (caused_expr l s)) (λ _ s₁ h. caused_bind (caused_map (met-map (λ _ _ m. ExprMeets.index h m)) (caused_expr i s₁)) (λ _ s₂ _. emits q 0 (plain op_index) s₂))
  caused_expr (Expr.hash q es) s = caused_bind (caused_map (met-map (λ _ _ m. ExprMeets.hash m)) (caused_exprs es s)) (λ _ s₁ _. emits q 0 (instr op_hash (count es) 0) s₁)
  caused_expr (Expr.macro q) s = quiet tt

  caused_exprs : (es : Exprs) (s : State) → Caused (Met (λ p d. ExprsMeets p d es s)) (walk_exprs machine es s)
  caused_exprs Exprs.no_exprs s = Caused.on
  caused_exprs (Exprs.exprs x xs) s =
      caused_bind (caused_map (met-map (λ _ _ m. ExprsMeets.first m)) (caused_expr x s)) (λ _ s₁ h. caused_map (met-map (λ _ _ m. ExprsMeets.next h m)) (caused_exprs xs s₁))

-- Where a branch that does not pass is met, the walk is refused there

data Stops {A : Type 0} (p : ℕ) : Res State A → Type 0 where
  stop : {s : State} → Stops p (Res.stop (refusal Number.no_value p) s)

stops_bind : {A B : Type 0} {p : ℕ} {x : Res State A} (k : A → State → Res State B) → Stops p x → Stops p (bind x k)
stops_bind k Stops.stop = Stops.stop

stops_after : {A B : Type 0} {p : ℕ} {x : Res State A} {a : A} {s : State} (k : A → State → Res State B) → x ≡ Res.on a s → Stops p (k a s)
    → Stops p (bind x k)
stops_after {p = p} k e h = subst (λ x. Stops p (bind x k)) (sym e) h

-- behind a jump: neither is last
record Behind (s : State) : Type 0 where
  no_pop : last_is op_pop s.code ≡ false
  no_return : last_is op_return_value s.code ≡ false

behind-jump : (o p : ℕ) (s : State) {j : ℕ} {s₁ : State} → eqb o op_pop ≡ false → eqb o op_return_value ≡ false → jump p o s ≡ Res.on j s₁
    → Behind s₁
unfolding jump emit_beside
behind-jump o p s {j} {s₁} e f h = go (leb (s.around + size_of s.code + 0 + size (instr o unpatched 0)) code_size) h
  where
    go : (b : Bool) → bind (pick {A = Res State (Unit {0})} b (Res.on tt (with_code (instr o unpatched 0 ∷ s.code) s)) (Res.stop (refusal Number.code p) s)) (λ _. Res.on (size_of s.code)) ≡ Res.on j s₁ → Behind s₁
    go true h = let i : with_code (instr o unpatched 0 ∷ s.code) s ≡ s₁ = cc in subst Behind i (record { no_pop = e; no_return = f })
    go false h = let i : ◌≡◌ {A = ℕ} 0 1 = cc in absurd (omega arith)

last_changed : (o pos t : ℕ) (c : Code) → last_is o (change_operand pos t c) ≡ last_is o c
last_changed o pos t [] = refl
last_changed o pos t (i ∷ c) = go (eqb (size_of c) pos)
  where
    go : (b : Bool) → last_is o (pick b (instr i.op t i.b ∷ c) (i ∷ change_operand pos t c)) ≡ eqb i.op o
    go true = refl
    go false = refl

behind-patch : {s : State} (j : ℕ) → Behind s → Behind (patch j s)
unfolding patch
behind-patch {s} j b =
    record { no_pop = last_changed op_pop j (size_of s.code) s.code ∙ b.no_pop; no_return = last_changed op_return_value j (size_of s.code) s.code ∙ b.no_return }

-- the test of the last instruction
last_fails : (o : ℕ) (c d b : Code) → c ≡ d ++ b → ((i : Instr) (d' : Code) → d ≡ i ∷ d' → eqb i.op o ≡ false) → last_is o b ≡ false
    → last_is o c ≡ false
last_fails o c d b e f g = ap (last_is o) e ∙ go d f
  where
    go : (d : Code) → ((i : Instr) (d' : Code) → d ≡ i ∷ d' → eqb i.op o ≡ false) → last_is o (d ++ b) ≡ false
    go [] f = g
    go (i ∷ d) f = f i d refl

-- what fails to pass
failing : (x y : Bool) → pick x true y ≡ false → (x ≡ false) × (y ≡ false)
failing true y e = let z : ◌≡◌ {A = ℕ} 0 1 = cc in absurd (omega arith)
failing false y e = (refl, e)

stops_dropped : {p : ℕ} (d : Code) (s s₁ : State) → passes d ≡ false → Behind s → s₁.code ≡ d ++ s.code → Stops p (dropped p s₁)
unfolding dropped
stops_dropped {p} d s s₁ n b e =
    let f = last_fails op_pop s₁.code d s.code e (λ i d' h. (failing (eqb i.op op_pop) (eqb i.op op_return_value) (sym (ap passes h) ∙ n)).0) b.no_pop in
    let g = last_fails op_return_value s₁.code d s.code e (λ i d' h. (failing (eqb i.op op_pop) (eqb i.op op_return_value) (sym (ap passes h) ∙ n)).1) b.no_return in
    subst (Stops p) (sym (pick_false _ _ f ∙ pick_false _ _ g)) Stops.stop

mutual
  unfolding walk_stmt

  stops_stmt : {p : ℕ} {d : Code} {x : Stmt} {s : State} → StmtMeets p d x s → passes d ≡ false → Stops p (walk_stmt machine x s)
  stops_stmt (StmtMeets.expr_stmt m) n = stops_bind _ (stops_expr m n)
  stops_stmt (StmtMeets.let_stmt h m) n = stops_after _ h (stops_bind _ (stops_expr m n))
  stops_stmt (StmtMeets.return_stmt m) n = stops_bind _ (stops_expr m n)
  stops_stmt (StmtMeets.block m) n = stops_stmts m n

  stops_stmts : {p : ℕ} {d : Code} {b : Stmts} {s : State} → StmtsMeets p d b s → passes d ≡ false → Stops p (walk_stmts machine b s)
  stops_stmts (StmtsMeets.here m) n = stops_bind _ (stops_stmt m n)
  stops_stmts (StmtsMeets.later h m) n = stops_after _ h (stops_stmts m n)

  stops_branch : {p : ℕ} {d : Code} {q : ℕ} {b : Stmts} {s : State} → BranchMeets p d q b s → passes d ≡ false → Behind s
      → (k : Unit {0} → State → Res State (Unit {0}))
      → ((s₁ : State) → Stops p (dropped q s₁) → Stops p (k tt s₁)) → Stops p (bind (walk_stmts machine b s) k)
  stops_branch (BranchMeets.inside m) n b k f = stops_bind k (stops_stmts m n)
  stops_branch {d = d} {s = s} (BranchMeets.end {s₁ = s₁} e h) n b k f = stops_after k e (f s₁ (stops_dropped d s s₁ n b h))

  stops_else : {p : ℕ} {d : Code} {q : ℕ} {f : Else} {s : State} → ElseMeets p d q f s → passes d ≡ false → Behind s
      → Stops p (walk_else machine f q s)
  stops_else {q = q} (ElseMeets.else m) n b = stops_branch m n b (λ _. dropped q) (λ s₁ h. h)

  stops_expr : {p : ℕ} {d : Code} {e : Expr} {s : State} → ExprMeets p d e s → passes d ≡ false → Stops p (walk_expr machine e s)
  stops_expr (ExprMeets.prefix m) n = stops_bind _ (stops_expr m n)
  stops_expr {p} (ExprMeets.left t m) n = subst (Stops p) (sym (pick_false _ _ t)) (stops_bind _ (stops_expr m n))
  stops_expr {p} (ExprMeets.right t h m) n = subst (Stops p) (sym (pick_false _ _ t)) (stops_after _ h (stops_bind _ (stops_expr m n)))
  stops_expr {p} (ExprMeets.less_right t m) n = subst (Stops p) (sym (pick_true _ _ t)) (stops_bind _ (stops_expr m n))
  stops_expr {p} (ExprMeets.less_left t h m) n = subst (Stops p) (sym (pick_true _ _ t)) (stops_after _ h (stops_bind _ (stops_expr m n)))
  stops_expr (ExprMeets.condition m) n = stops_bind _ (stops_expr m n)
  stops_expr (ExprMeets.consequence {q} to m) n =
      stops_after _ to.condition (stops_after _ to.jumps (stops_branch m n (behind-jump op_jump_not_truthy q to.tested refl refl to.jumps) _ (λ s₁ h. stops_bind _ h)))
  stops_expr (ExprMeets.alternative {q} {j} to m) n =
      stops_after _ to.before.condition (stops_after _ to.before.jumps (stops_after _ to.consequence (stops_after _ to.passes (stops_after _ to.jumps
      (stops_bind _ (stops_else m n (behind-patch j (behind-jump op_jump q to.left refl refl to.jumps))))))))
  stops_expr (ExprMeets.function h m) n = stops_after _ h (stops_bind _ (stops_stmts m n))
  stops_expr (ExprMeets.callee m) n = stops_bind _ (stops_expr m n)
  stops_expr {p} (ExprMeets.arguments h few m) n =
      stops_after _ h (subst (Stops p) (sym (pick_false _ _ few)) (stops_bind _ (stops_exprs m n)))
  stops_expr (ExprMeets.array m) n = stops_bind _ (stops_exprs m n)
  stops_expr (ExprMeets.indexed m) n = stops_bind _ (stops_expr m n)
  stops_expr (ExprMeets.index h m) n = stops_after _ h (stops_bind _ (stops_expr m n))
  stops_expr (ExprMeets.hash m) n = stops_bind _ (stops_exprs m n)

  stops_exprs : {p : ℕ} {d : Code} {es : Exprs} {s : State} → ExprsMeets p d es s → passes d ≡ false → Stops p (walk_exprs machine es s)
  stops_exprs (ExprsMeets.first m) n = stops_bind _ (stops_expr m n)
  stops_exprs (ExprsMeets.next h m) n = stops_after _ h (stops_exprs m n)

-- the walk
module _ (b : Stmts) (s : State) (p : ℕ) where
  no-value : {s' : State} → walk_stmts machine b s ≡ Res.stop (refusal Number.no_value p) s' → NoValueAt p b s
  no-value {s'} e = go (subst (Caused (Met (λ p d. StmtsMeets p d b s))) e (caused_stmts b s))
    where
      go : Caused {A = Unit {0}} (Met (λ p d. StmtsMeets p d b s)) (Res.stop (refusal Number.no_value p) s') → NoValueAt p b s
      go (Caused.stop h) = let m = h refl in record { emitted = m.0; meets = m.1.0; fails = m.1.1 }

  stopped : NoValueAt p b s → (s' : State) × (walk_stmts machine b s ≡ Res.stop (refusal Number.no_value p) s')
  stopped v = go (walk_stmts machine b s) refl (stops_stmts v.meets v.fails)
    where
      go : (x : Res State (Unit {0})) → walk_stmts machine b s ≡ x → Stops p x
          → (s' : State) × (walk_stmts machine b s ≡ Res.stop (refusal Number.no_value p) s')
      go _ e (Stops.stop {s = s'}) = (s', e)

-- A tree that gets to the walk is refused with 22 at p exactly when the walk comes to the end of such a branch of the If at p
pub number_22 : (z : Session) (c : Request) {b : Stmts} {n : ℕ} → enough c ≡ true → read_tree c.tree ≡ Parsed.parsed b n → (p : ℕ)
    → ((compile z c).outcome ≡ Outcome.refused (refusal Number.no_value p)) ↔ NoValueAt p b (start z)
unfolding compile
number_22 z c {b} {n} big reads p =
    (λ e. by (walk_stmts machine b (start z)) refl (sym (ap (λ x. x.outcome) is) ∙ e), λ v. ap (λ x. x.outcome) is ∙ (let w = stopped b (start z) p v in ap (λ x. (finish c.output z x).outcome) w.1))
  where
    is : pick (enough c) (translate c.output z (read_tree c.tree)) (turned_down z (refusal Number.short_buffer 0)) ≡ finish c.output z (walk_stmts machine b (start z))
    is = pick_true _ _ big ∙ ap (translate c.output z) reads

    roomy : (s : State) (x : Bool) → (pick x (record { outcome = Outcome.accepted (image_of s); session = session_of s }) (turned_down z (refusal Number.output_short 0))).outcome ≡ Outcome.refused (refusal Number.no_value p) → NoValueAt p b (start z)
    roomy s true e = let i : ◌≡◌ {A = ℕ} 0 1 = cc in absurd (omega arith)
    roomy s false e =
        let i : refusal Number.no_value p ≡ refusal Number.output_short 0 = cc in let j : ◌≡◌ {A = ℕ} 22 15 = ap (λ (q : Refusal). number_of q.reason) i in absurd (omega arith)

    by : (x : Res State (Unit {0})) → walk_stmts machine b (start z) ≡ x
        → (finish c.output z x).outcome ≡ Outcome.refused (refusal Number.no_value p) → NoValueAt p b (start z)
    by (Res.on a s) w e = roomy s (leb (length (image_bytes (image_of s))) c.output) e
    by (Res.stop r s) w e = let i : r ≡ refusal Number.no_value p = cc in no-value b (start z) p (w ∙ ap (λ r. Res.stop r s) i)
