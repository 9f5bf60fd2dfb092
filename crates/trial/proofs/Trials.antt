-- P13: a trial run of an accepted tree's main code gives the globals that evaluating the tree gives, or a stop of the same number.
use Rattle.std.proofs.Common.{◌≡◌, ℕ, ◌+◌, Bool, true, false, T, eqb, leb, List, [], ◌∷◌, length, get_or, set, sym, refl, ap, ◌∙◌, subst, subst₂, append-nil, arith, eqb-true}
use Rattle.std.proofs.Math.Option.{Option as Found, none as missing, some as found}
use Rattle.std.specs.Prelude.{Option, None as none, Some as some}
use Rattle.definition.specs.Number
use Rattle.definition.specs.Basic.{Bytes, pick}
use Rattle.definition.specs.Number
use Rattle.definition.specs.Number.{refusal}
use Rattle.definition.specs.Syntax.{Stmt, Stmts, Else, Expr}
use Rattle.definition.specs.Opcode.{Instr, instr, plain, size, op_constant, op_false, op_true, op_get_global, op_greater_than, op_null}
use Rattle.definition.specs.Bytecode.{Code, size_of, Const, Image, image_bytes}
use Rattle.definition.specs.Walk.{Res, infixes, less_than, walk_stmts}
use Rattle.definition.specs.SymbolTable.{Symbol, load_of}
use Rattle.definition.specs.Compiler.{State, machine}
use Rattle.definition.specs.Session.{Words, begun}
use Rattle.definition.specs.Tree.{Parsed, read_tree}
use Rattle.definition.specs.Compile.{Outcome, Request, start, image_of, session_of, turned_down, finish, translate, enough, compile}
use Rattle.definition.specs.declared.reason.Refusal.{Refusal}
use Rattle.definition.specs.Valid.{All}
use Rattle.definition.specs.Trusted.{constant_at}
use Rattle.trial.specs.Value.{Value, boolean, Globals, integer_of, Infix, greater, combined, Prefix, changed}
use Rattle.trial.specs.Run.{Action, integer_in, is_some, frame, given, acted, execute, unset_globals, trial_of, trial}
use Rattle.trial.specs.Evaluate.{Evaluated, and_then, or_stop, prefix_of, infix_of, prefixed, infixed, named, branch_value, names_stmt, names_stmts, eval_stmt, eval_stmts, eval_else, eval_expr, evaluate, trial_end, value_end, tree_end}
use Rattle.definition.proofs.Basic.{pick_true, pick_false}
use Rattle.definition.proofs.Emits.{Emitted, accounted}
use Rattle.definition.proofs.Account.{Known, known_of, state_of, after_jump, StmtCode, StmtsCode, ElseCode, ExprCode}
use Rattle.definition.proofs.Chunks.{PoolGrows, pool_same, pool_then, named_newest}
use Rattle.trial.proofs.MainNames.{Runnable, all_first, all_then, all_walked, if_runnable, is_global, new_global, behind_stmt, behind_stmts, behind_else, behind_expr}
use Rattle.trial.proofs.Meets.{Meets, gives_meets, Gives, alone, followed, joined, PrefixAction, prefix_action, InfixAction, infix_action, exchanged}
use Rattle.trial.proofs.Choices.{chosen_gives}
use Rattle.trial.proofs.Settles.{ran_through, Settles, settles_expr, settles_let, settles_return, settles_then, through, yields}

module _ (pool : List Const) where
  -- an operator of one operand, behind its operand
  changes : {o x : ℕ} (q : PrefixAction o x) (p : ℕ) (v : Value) (st : List Value) (g : Globals) (n : ℕ)
      → Meets (p + size (plain x)) st (execute pool (plain x) (frame p (v ∷ st) g n)) (prefixed (get_or prefix_of o none) v g)
  changes {x = x} q p v st g n =
      subst₂ (λ (a : Action) (u : Option Prefix). Meets (p + size (plain x)) st (acted pool 0 (p + size (plain x)) (frame p (v ∷ st) g n) a) (prefixed u v g)) (sym q.acts) (sym q.named)
      (gives_meets (frame p (v ∷ st) g n) (p + size (plain x)) Number.operand st (changed q.operator v))

  -- of two, behind the left and the right one
  combines : {o x : ℕ} (q : InfixAction o x) (p : ℕ) (l r : Value) (st : List Value) (g : Globals) (n : ℕ)
      → Meets (p + size (plain x)) st (execute pool (plain x) (frame p (r ∷ l ∷ st) g n)) (infixed (get_or infix_of o none) l r g)
  combines {x = x} q p l r st g n =
      subst₂ (λ (a : Action) (u : Option Infix). Meets (p + size (plain x)) st (acted pool 0 (p + size (plain x)) (frame p (r ∷ l ∷ st) g n) a) (infixed u l r g)) (sym q.acts) (sym q.named)
      (gives_meets (frame p (r ∷ l ∷ st) g n) (p + size (plain x)) Number.operand st (combined q.operator l r))

  -- `<`, behind the right and the left one
  combines_less : (o : ℕ) {x : ℕ} → eqb o less_than ≡ true → get_or infixes o missing ≡ found x → (p : ℕ) (l r : Value) (st : List Value) (g : Globals) (n : ℕ)
      → Meets (p + size (plain x)) st (execute pool (plain x) (frame p (l ∷ r ∷ st) g n)) (infixed (get_or infix_of o none) l r g)
  combines_less o {x} s q p l r st g n =
      let e : o ≡ less_than = eqb-true o less_than s in
      let h : op_greater_than ≡ x = go (subst (λ z. get_or infixes z missing ≡ found x) e q) in
      subst₂ (λ (z y : ℕ). Meets (p + size (plain y)) st (execute pool (plain y) (frame p (l ∷ r ∷ st) g n)) (infixed (get_or infix_of z none) l r g)) (sym e) h
      (subst (λ a. Meets (p + 1) st (given (frame p (l ∷ r ∷ st) g n) (p + 1) Number.operand st (combined greater r l)) (or_stop Number.operand g a)) (exchanged l r)
      (gives_meets (frame p (l ∷ r ∷ st) g n) (p + 1) Number.operand st (combined greater r l)))
    where
      go : found op_greater_than ≡ found x → op_greater_than ≡ x
      go e = cc

  -- a constant of the pool as it was, and as it stays
  stays : {c : Const} (cs : List Const) → PoolGrows (c ∷ cs) pool → constant_at pool (length cs) ≡ found c
  stays {c} cs f = f.keeps (length cs) c (named_newest c cs)

  mutual
    unfolding eval_stmt names_stmt

    run_stmt : (e : Stmt) {at : ℕ} {v w : Known} {c : Code} → StmtCode e at v c w → Runnable pool c → PoolGrows w.pool pool → v.tables ≡ [] → (st : List Value) (last : Option Value) (g : Globals) (n : ℕ)
        → Settles pool at st last g n c (eval_stmt e v.globals last g)
    run_stmt (Stmt.expr_stmt p e) (StmtCode.expr_stmt x) (All.more h a) f t st last g n = settles_expr last (run_expr e x a f t st g n)
    run_stmt (Stmt.let_stmt p m e) {at} (StmtCode.let_stmt {v = v} {c = c} q x) (All.more h a) f t st last g n =
        let d = new_global v.globals m t q in
        subst₂ (λ (i : Instr) (gs : List Bytes). Settles pool at st last g n (i ∷ c) (and_then (eval_expr e gs g) (λ y g₁. Evaluated.on none (set g₁ (length v.globals) (some y))))) (sym d.sets) d.globals
        (settles_let last (length v.globals) (run_expr e x a f d.tables st g n))
    run_stmt (Stmt.return_stmt p e) (StmtCode.return_stmt x) (All.more h a) f t st last g n = settles_return last (run_expr e x a f t st g n)
    run_stmt (Stmt.block p b) (StmtCode.block x) a f t st last g n = run_stmts b x a f t st last g n

    pub run_stmts : (b : Stmts) {at : ℕ} {v w : Known} {c : Code} → StmtsCode b at v c w → Runnable pool c → PoolGrows w.pool pool → v.tables ≡ [] → (st : List Value) (last : Option Value) (g : Globals) (n : ℕ)
        → Settles pool at st last g n c (eval_stmts b v.globals last g)
    run_stmts Stmts.no_stmts StmtsCode.no_stmts a f t st last g n = Settles.nothing
    run_stmts (Stmts.stmts e es) {at} (StmtsCode.stmts {c = c} {d = d} x xs) a f t st last g n =
        let b = behind_stmt pool e x (all_first d a) t in
        let k = behind_stmts pool es xs (all_then d c a) b.tables in
        settles_then d (run_stmt e x (all_first d a) (pool_then k.pool f) t st last g n)
        (λ y h m. subst (λ gs. Settles pool (at + size_of c) st y h m d (eval_stmts es gs y h)) b.names (run_stmts es xs (all_then d c a) f b.tables st y h m))

    run_else : (e : Else) {at : ℕ} {v w : Known} {c : Code} → ElseCode e at v c w → Runnable pool c → PoolGrows w.pool pool → v.tables ≡ [] → (st : List Value) (g : Globals) (n : ℕ)
        → Gives pool at c st st g n (eval_else e v.globals g)
    run_else Else.no_else ElseCode.no_else a f t st g n = alone (plain op_null) Meets.on
    run_else (Else.else b) (ElseCode.else x y) a f t st g n = yields y (run_stmts b x (all_walked pool y a) f t st none g n)

    run_expr : (e : Expr) {at : ℕ} {v w : Known} {c : Code} → ExprCode e at v c w → Runnable pool c → PoolGrows w.pool pool → v.tables ≡ [] → (st : List Value) (g : Globals) (n : ℕ)
        → Gives pool at c st st g n (eval_expr e v.globals g)
    run_expr (Expr.identifier p m) {at} (ExprCode.identifier {v = v} q) (All.more h a) f t st g n =
        let d = is_global pool v.words v.globals m t q h in
        subst₂ (λ (y : Symbol) (o : Found ℕ). Gives pool at (load_of y ∷ []) st st g n (named o g)) (sym d.symbol) (sym d.found)
        (alone (instr op_get_global d.index 0) (gives_meets (frame at st g n) (at + 3) Number.unset st (get_or g d.index none)))
    run_expr (Expr.prefix p o e) (ExprCode.prefix {at = at} {c = c} x q) (All.more h a) f t st g n = followed _ (run_expr e x a f t st g n) (λ v g₁ m. changes (prefix_action o q) (at + size_of c) v st g₁ m)
    run_expr (Expr.infixed p l o r) (ExprCode.infixed {at = at} {c = c} {d = d} s x y q) (All.more h a) f t st g n =
        let b = behind_expr pool l x (all_first d a) t in
        let k = behind_expr pool r y (all_then d c a) b.tables in
        subst (Gives pool at _ st st g n) (sym (pick_false _ _ s))
        (joined (_ ∷ d) (run_expr l x (all_first d a) (pool_then k.pool f) t st g n) (λ i g₁ m.
        followed _ (subst (λ gs. Gives pool (at + size_of c) d (i ∷ st) (i ∷ st) g₁ m (eval_expr r gs g₁)) b.names (run_expr r y (all_then d c a) f b.tables (i ∷ st) g₁ m)) (λ j g₂ m₂.
        combines (infix_action o s q) (at + size_of c + size_of d) i j st g₂ m₂)))
    run_expr (Expr.infixed p l o r) (ExprCode.less {at = at} {c = c} {d = d} s x y q) (All.more h a) f t st g n =
        let b = behind_expr pool r x (all_first d a) t in
        let k = behind_expr pool l y (all_then d c a) b.tables in
        subst (Gives pool at _ st st g n) (sym (pick_true _ _ s))
        (joined (_ ∷ d) (run_expr r x (all_first d a) (pool_then k.pool f) t st g n) (λ j g₁ m.
        followed _ (subst (λ gs. Gives pool (at + size_of c) d (j ∷ st) (j ∷ st) g₁ m (eval_expr l gs g₁)) b.names (run_expr l y (all_then d c a) f b.tables (j ∷ st) g₁ m)) (λ i g₂ m₂.
        combines_less o s q (at + size_of c + size_of d) i j st g₂ m₂)))
    run_expr (Expr.if p e b z) (ExprCode.if {at = at} {c = c} {d' = d} {g = k} x y q w) a f t st g n =
        let parts = if_runnable at c d k a in
        let i = behind_expr pool e x parts.condition t in
        let j = behind_stmts pool b y (all_walked pool q parts.branch) i.tables in
        let l = behind_else pool z w parts.other j.tables in
        chosen_gives pool at c d k (run_expr e x parts.condition (pool_then j.pool (pool_then l.pool f)) t st g n)
        (λ h m. subst (λ gs. Gives pool (after_jump at c) d st st h m (and_then (eval_stmts b gs none h) branch_value)) i.names (yields q (run_stmts b y (all_walked pool q parts.branch) (pool_then l.pool f) i.tables st none h m)))
        (λ h m. subst (λ gs. Gives pool (after_jump (after_jump at c) d) k st st h m (eval_else z gs h)) (j.names ∙ ap (names_stmts b) i.names) (run_else z w parts.other f j.tables st h m))
    run_expr (Expr.function p m ps b) (ExprCode.function few x q) (All.more h a) f t st g n = absurd h
    run_expr (Expr.call p e es) (ExprCode.call x y) (All.more h a) f t st g n = absurd h
    run_expr (Expr.integer p b) {at} (ExprCode.integer {v = v}) a f t st g n =
        alone (instr op_constant (length v.pool) 0) (subst (λ o. Meets (at + 3) st (given (frame at st g n) (at + 3) Number.not_runnable st (integer_in o)) (Evaluated.on (integer_of b) g)) (sym (stays v.pool f)) Meets.on)
    run_expr (Expr.boolean p b) {at} ExprCode.boolean a f t st g n = truth (eqb b 0)
      where
        truth : (y : Bool) → Gives pool at (plain (pick y op_false op_true) ∷ []) st st g n (Evaluated.on (boolean (pick y false true)) g)
        truth true = alone (plain op_false) Meets.on
        truth false = alone (plain op_true) Meets.on
    run_expr (Expr.string p b) (ExprCode.string {v = v}) (All.more h a) f t st g n = absurd (subst (λ o. T (is_some (integer_in o))) (stays v.pool f) h)
    run_expr (Expr.array p es) (ExprCode.array x) (All.more h a) f t st g n = absurd h
    run_expr (Expr.index p l i) (ExprCode.index x y) (All.more h a) f t st g n = absurd h
    run_expr (Expr.hash p es) (ExprCode.hash x) (All.more h a) f t st g n = absurd h
    run_expr (Expr.macro p) x a f t st g n = elim x [ ]

-- Programs

-- statements that settle end as their value does
settled_end : {pool : List Const} {g : Globals} {c : Code} {r : Evaluated (Option Value)} → Settles pool 0 [] none g 0 c r → trial_end (trial_of (ran_through pool 0 c [] g 0)) ≡ value_end r
settled_end {r = Evaluated.on v h} a = ap (λ s. trial_end (trial_of s)) (through a).ran
settled_end {r = Evaluated.returned h} (Settles.returned e) = ap (λ s. trial_end (trial_of s)) e
settled_end {r = Evaluated.stopped k} (Settles.stopped e) = ap (λ s. trial_end (trial_of s)) e

-- P13's theorem: a program that is walked in a session just begun, with any words, its main code one that a trial run takes
pub trial_agrees : (z : Words) (b : Stmts) {s : State} → walk_stmts machine b (start (begun z)) ≡ Res.on tt s → Runnable s.pool s.code → trial_end (trial (image_of s)) ≡ value_end (evaluate b)
trial_agrees z b e = go (accounted b (start (begun z)) e)
  where
    program : {c : Code} {w : Known} → StmtsCode b 0 (known_of (start (begun z))) c w → Runnable w.pool c → trial_end (trial (image_of (state_of c 0 w))) ≡ value_end (evaluate b)
    program {w = w} x a = settled_end (run_stmts w.pool b x a (pool_same w.pool) refl [] none unset_globals 0)

    go : {s : State} → Emitted (StmtsCode b 0 (known_of (start (begun z)))) [] 0 0 s → Runnable s.pool s.code → trial_end (trial (image_of s)) ≡ value_end (evaluate b)
    go (Emitted.emitted c w x l) =
        subst (λ d. Runnable w.pool d → trial_end (trial (image_of (state_of d 0 w))) ≡ value_end (evaluate b)) (sym (append-nil c)) (program x)

-- and so for a compile call's tree and image
pub call_agrees : (z : Words) (c : Request) {m : Image} → (compile (begun z) c).outcome ≡ Outcome.accepted m → Runnable m.pool m.code → trial_end (trial m) ≡ tree_end (read_tree c.tree)
unfolding compile
call_agrees z c {m} e a = entered (enough c) e a
  where
    Agrees : Parsed Stmts → Outcome → Type 0
    Agrees t o = o ≡ Outcome.accepted m → Runnable m.pool m.code → trial_end (trial m) ≡ tree_end t

    never : {A : Type 0} {r : Refusal} → Outcome.refused r ≡ Outcome.accepted m → A
    never e = let f : ◌≡◌ {A = ℕ} 0 1 = cc in absurd (omega arith)

    written : (b : Stmts) (k : ℕ) {s : State} → walk_stmts machine b (start (begun z)) ≡ Res.on tt s → (x : Bool)
        → Agrees (Parsed.parsed b k) (pick x (record { outcome = Outcome.accepted (image_of s); session = session_of s }) (turned_down (begun z) (refusal Number.output_short 0))).outcome
    written b k {s} q true e a =
        let f : image_of s ≡ m = cc in
        subst (λ (y : Image). Runnable y.pool y.code → trial_end (trial y) ≡ value_end (evaluate b)) f (trial_agrees z b q) a
    written b k q false e a = never e

    walked : (b : Stmts) (k : ℕ) (w : Res State (Unit {0})) → walk_stmts machine b (start (begun z)) ≡ w → Agrees (Parsed.parsed b k) (finish c.output (begun z) w).outcome
    walked b k (Res.on u s) q e a = written b k q (leb (length (image_bytes (image_of s))) c.output) e a
    walked b k (Res.stop r s) q e a = never e

    read : (t : Parsed Stmts) → Agrees t (translate c.output (begun z) t).outcome
    read (Parsed.parsed b k) e a = walked b k (walk_stmts machine b (start (begun z))) refl e a
    read (Parsed.refused r) e a = never e

    entered : (x : Bool) → Agrees (read_tree c.tree) (pick x (translate c.output (begun z) (read_tree c.tree)) (turned_down (begun z) (refusal Number.short_buffer 0))).outcome
    entered true e a = read (read_tree c.tree) e a
    entered false e a = never e
