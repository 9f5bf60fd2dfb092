-- The names and constants known behind code that a trial run takes: in main no function is open, and the walk finds globals alone.
use Rattle.std.proofs.Common.{◌≡◌, ℕ, Bool, true, false, T, leb, List, [], ◌∷◌, ◌++◌, length, sym, refl, ap, ◌∙◌, subst, arith}
use mathlib.Core.Option.{Option, none, some}
use Rattle.definition.specs.Basic.{Bytes, pick}
use Rattle.definition.specs.Limit.{globals_limit}
use Rattle.definition.specs.Number
use Rattle.definition.specs.Syntax.{Stmt, Stmts, Else, Expr}
use Rattle.definition.specs.Opcode.{Instr, instr, op_set_global}
use Rattle.definition.specs.Bytecode.{Code, Const}
use Rattle.definition.specs.SymbolTable.{Symbol, Table, Resolved, Defined, find_global, find_builtin, outermost, resolve, load_of, place}
use Rattle.definition.specs.Valid.{All}
use Rattle.trial.specs.Run.{runnable}
use Rattle.trial.specs.Evaluate.{names_stmt, names_stmts, names_else, names_expr}
use Rattle.definition.proofs.Basic.{pick_true, pick_false}
use Rattle.definition.proofs.ValidSymbols.{all_rest}
use Rattle.definition.proofs.Chunks.{PoolGrows, pool_same, pool_then, pool_more}
use Rattle.definition.proofs.Account.{Known, if_code, Yields, StmtCode, StmtsCode, ElseCode, ExprCode}

-- each instruction is one that a trial run takes
abbrev pub Runnable : List Const → Code → Type 0
Runnable pool = All (λ i. T (runnable pool i))

-- of the first piece
pub all_first : {A : Type 0} {P : A → Type 0} (d : List A) {c : List A} → All P (d ++ c) → All P c
all_first [] a = a
all_first (x ∷ d) (All.more h a) = all_first d a

-- of the second piece
pub all_then : {A : Type 0} {P : A → Type 0} (d c : List A) → All P (d ++ c) → All P d
all_then [] c a = All.none
all_then (x ∷ d) c (All.more h a) = All.more h (all_then d c a)

-- the three parts of an If
pub record IfRunnable (pool : List Const) (c d g : Code) : Type 0 where
  pub condition : Runnable pool c
  pub branch : Runnable pool d
  pub other : Runnable pool g

-- from its code
pub if_runnable : {pool : List Const} (at : ℕ) (c d g : Code) → Runnable pool (if_code at c d g) → IfRunnable pool c d g
if_runnable at c d g a = let b = all_rest (all_first g a) in record { condition = all_rest (all_first d b); branch = all_then d _ b; other = all_then g _ a }

-- a branch as it was walked: nothing is dropped but a Pop
pub all_walked : (pool : List Const) {c d : Code} → Yields c d → Runnable pool d → Runnable pool c
all_walked pool (Yields.popped {i} e) a = All.more (subst (λ o. T (runnable pool (instr o i.a i.b))) (sym e) tt) a
all_walked pool (Yields.returned e) a = a

-- the global that a name stands for
pub record IsGlobal (gs : List Bytes) (n : Bytes) (y : Symbol) (ts : List Table) : Type 0 where
  pub index : ℕ
  pub found : find_global n gs ≡ some index
  pub symbol : y ≡ Symbol.global index
  pub tables : ts ≡ []

-- what a runnable load has found
pub is_global : (pool : List Const) (bs gs : List Bytes) (n : Bytes) {us ts : List Table} {y : Symbol} → us ≡ [] → resolve bs gs n us ≡ Resolved.found y ts → T (runnable pool (load_of y)) → IsGlobal gs n y ts
unfolding resolve
is_global pool bs gs n {us} {ts} {y} u e h = go (find_global n gs) refl (find_builtin n bs 0) (subst (λ x. resolve bs gs n x ≡ Resolved.found y ts) u e)
  where
    go : (a : Option ℕ) → find_global n gs ≡ a → (b : Option ℕ) → outermost a b ≡ Resolved.found y ts → IsGlobal gs n y ts
    go (some k) q b e = record { index = k; found = q; symbol = cc; tables = cc }
    go none q (some k) e = let s : Symbol.builtin k ≡ y = cc in absurd (subst (λ x. T (runnable pool (load_of x))) (sym s) h)
    go none q none e = let z : ◌≡◌ {A = ℕ} 0 1 = cc in absurd (omega arith)

-- a definition's index
pub record NewGlobal (gs : List Bytes) (n : Bytes) (i : Instr) (hs : List Bytes) (ts : List Table) : Type 0 where
  pub sets : i ≡ instr op_set_global (length gs) 0
  pub globals : hs ≡ n ∷ gs
  pub tables : ts ≡ []

-- what a definition in main gives
pub new_global : (gs : List Bytes) (n : Bytes) {us ts : List Table} {i : Instr} {hs : List Bytes} → us ≡ [] → place n gs us ≡ Defined.defined i hs ts → NewGlobal gs n i hs ts
new_global gs n {us} {ts} {i} {hs} u e = go (leb globals_limit (length gs)) (subst (λ x. place n gs x ≡ Defined.defined i hs ts) u e)
  where
    go : (b : Bool) → pick b (Defined.no_room Number.globals) (Defined.defined (instr op_set_global (length gs) 0) (n ∷ gs) []) ≡ Defined.defined i hs ts → NewGlobal gs n i hs ts
    go true e = let z : ◌≡◌ {A = ℕ} 0 1 = cc in absurd (omega arith)
    go false e = record { sets = cc; globals = cc; tables = cc }

-- behind a construct in main: no open function, its names, and every constant that was there
pub record Behind (v w : Known) (gs : List Bytes) : Type 0 where
  pub tables : w.tables ≡ []
  pub names : w.globals ≡ gs
  pub pool : PoolGrows v.pool w.pool

-- one construct after another
behind_then : {v w u : Known} {gs : List Bytes} (f : List Bytes → List Bytes) → Behind v w gs → Behind w u (f w.globals) → Behind v u (f gs)
behind_then f a b = record { tables = b.tables; names = b.names ∙ ap f a.names; pool = pool_then a.pool b.pool }

-- an equal list of names
behind-equal : {v w : Known} {gs hs : List Bytes} → gs ≡ hs → Behind v w gs → Behind v w hs
behind-equal {v} {w} e a = subst (Behind v w) e a

module _ (pool : List Const) where
  mutual
    unfolding names_stmt

    pub behind_stmt : (e : Stmt) {at : ℕ} {v w : Known} {c : Code} → StmtCode e at v c w → Runnable pool c → v.tables ≡ [] → Behind v w (names_stmt e v.globals)
    behind_stmt (Stmt.expr_stmt p e) (StmtCode.expr_stmt x) (All.more h a) t = behind_expr e x a t
    behind_stmt (Stmt.let_stmt p n e) (StmtCode.let_stmt {v = v} q x) (All.more h a) t =
        let d = new_global v.globals n t q in
        let b = behind_expr e x a d.tables in
        record { tables = b.tables; names = b.names ∙ ap (names_expr e) d.globals; pool = b.pool }
    behind_stmt (Stmt.return_stmt p e) (StmtCode.return_stmt x) (All.more h a) t = behind_expr e x a t
    behind_stmt (Stmt.block p b) (StmtCode.block x) a t = behind_stmts b x a t

    pub behind_stmts : (b : Stmts) {at : ℕ} {v w : Known} {c : Code} → StmtsCode b at v c w → Runnable pool c → v.tables ≡ [] → Behind v w (names_stmts b v.globals)
    behind_stmts Stmts.no_stmts (StmtsCode.no_stmts {v = v}) a t = record { tables = t; names = refl; pool = pool_same v.pool }
    behind_stmts (Stmts.stmts e es) (StmtsCode.stmts {c = c} {d = d} x xs) a t =
        let b = behind_stmt e x (all_first d a) t in
        behind_then (names_stmts es) b (behind_stmts es xs (all_then d c a) b.tables)

    pub behind_else : (e : Else) {at : ℕ} {v w : Known} {c : Code} → ElseCode e at v c w → Runnable pool c → v.tables ≡ [] → Behind v w (names_else e v.globals)
    behind_else Else.no_else (ElseCode.no_else {v = v}) a t = record { tables = t; names = refl; pool = pool_same v.pool }
    behind_else (Else.else b) (ElseCode.else x y) a t = behind_stmts b x (all_walked pool y a) t

    pub behind_expr : (e : Expr) {at : ℕ} {v w : Known} {c : Code} → ExprCode e at v c w → Runnable pool c → v.tables ≡ [] → Behind v w (names_expr e v.globals)
    behind_expr (Expr.identifier p n) (ExprCode.identifier {v = v} q) (All.more h a) t = record { tables = (is_global pool v.words v.globals n t q h).tables; names = refl; pool = pool_same v.pool }
    behind_expr (Expr.prefix p o e) (ExprCode.prefix x q) (All.more h a) t = behind_expr e x a t
    behind_expr (Expr.infixed p l o r) (ExprCode.infixed {c = c} {d = d} s x y q) (All.more h a) t =
        let b = behind_expr l x (all_first d a) t in
        behind-equal (sym (pick_false _ _ s)) (behind_then (names_expr r) b (behind_expr r y (all_then d c a) b.tables))
    behind_expr (Expr.infixed p l o r) (ExprCode.less {c = c} {d = d} s x y q) (All.more h a) t =
        let b = behind_expr r x (all_first d a) t in
        behind-equal (sym (pick_true _ _ s)) (behind_then (names_expr l) b (behind_expr l y (all_then d c a) b.tables))
    behind_expr (Expr.if p e b f) (ExprCode.if {at = at} {c = c} {d' = d} {g = g} x y q z) a t =
        let parts = if_runnable at c d g a in
        let k = behind_expr e x parts.condition t in
        let l = behind_then (names_stmts b) k (behind_stmts b y (all_walked pool q parts.branch) k.tables) in
        behind_then (names_else f) l (behind_else f z parts.other l.tables)
    behind_expr (Expr.function p n ps b) (ExprCode.function few x q) (All.more h a) t = absurd h
    behind_expr (Expr.call p e es) (ExprCode.call x y) (All.more h a) t = absurd h
    behind_expr (Expr.integer p b) (ExprCode.integer {v = v}) a t = record { tables = t; names = refl; pool = pool_more (Const.integer b) v.pool }
    behind_expr (Expr.boolean p b) (ExprCode.boolean {v = v}) a t = record { tables = t; names = refl; pool = pool_same v.pool }
    behind_expr (Expr.string p b) (ExprCode.string {v = v}) a t = record { tables = t; names = refl; pool = pool_more (Const.string b) v.pool }
    behind_expr (Expr.array p es) (ExprCode.array x) (All.more h a) t = absurd h
    behind_expr (Expr.index p l i) (ExprCode.index x y) (All.more h a) t = absurd h
    behind_expr (Expr.hash p es) (ExprCode.hash x) (All.more h a) t = absurd h
    behind_expr (Expr.macro p) x a t = elim x [ ]
