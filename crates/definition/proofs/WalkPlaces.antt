-- The walk refuses at places of the tree alone, with a number of the walk.
use Prim.Native.Nat.{ℕ, ◌+◌, ◌≤◌}
use mathlib.Core.Bool.{Bool, true, false}
use mathlib.Core.List.{List, [], ◌∷◌}
use mathlib.Core.Option.{Option, none, some}
use lib.ListN.{length, get_or}
use lib.Dec.{T, leb, ltb, eqb}
use Rattle.definition.specs.Basic.{Bytes, pick}
use Rattle.definition.specs.Limit.{code_size, constants_limit, pool_limit, nesting_limit, arguments_limit, globals_limit, locals_limit}
use Rattle.definition.specs.Number.{refusal, is_one_of, walk_numbers, number_of}
use Rattle.definition.specs.Syntax.{Stmt, Stmts, Else, Expr, Exprs, count}
use Rattle.definition.specs.Opcode.{Instr, instr, plain, size, op_constant, op_pop, op_return_value, op_return}
use Rattle.definition.specs.Bytecode.{Const, size_of, pool_size}
use Rattle.definition.specs.Walk.{Res, bind, Machine, operate, prefixes, infixes, less_than, walk_stmt, walk_stmts, walk_else, walk_expr, walk_exprs}
use Rattle.definition.specs.SymbolTable.{Table, Symbol, Resolved, resolve, place}
use Rattle.definition.specs.Compiler.{State, machine, literal, boolean_of, emit_beside, add_constant, last_is, load, loaded, define, placed, dropped, jump, enter, returned, loads, close_over, leave}
use Rattle.definition.specs.declared.reason.Refusal.{Refusal}
use Rattle.definition.proofs.Basic.{chosen}
use Rattle.definition.proofs.Placed.{PlacedStmt, PlacedStmts, PlacedElse, PlacedExpr, PlacedExprs}
use Rattle.definition.specs.declared.reason.Reason.{Reason}

-- a refusal's number is in a list, and its place within a bound
pub record Bounded (numbers : List ℕ) (places : ℕ) (r : Refusal) : Type 0 where
  pub number : T (is_one_of numbers (number_of r.reason))
  pub place : r.place ≤ places

-- a step that goes on; or that is refused, by a number of the walk, at a place within a bound
pub data Refuses {S A : Type 0} (bound : ℕ) : Res S A → Type 0 where
  on : {a : A} {s : S} → Refuses bound (Res.on a s)
  stop : {r : Refusal} {s : S} → Bounded walk_numbers bound r → Refuses bound (Res.stop r s)

module _ {S A : Type 0} {bound : ℕ} where
  refuses_bind : {B : Type 0} {x : Res S A} {k : A → S → Res S B} → Refuses bound x → ((a : A) (s : S) → Refuses bound (k a s)) → Refuses bound (bind x k)
  refuses_bind (Refuses.on {a = a} {s = s}) f = f a s
  refuses_bind (Refuses.stop b) f = Refuses.stop b

  refuses_pick : {x y : Res S A} (b : Bool) → Refuses bound x → Refuses bound y → Refuses bound (pick b x y)
  refuses_pick true h k = h
  refuses_pick false h k = k

  -- a refusal at a place
  refuses_at : {n : Reason} {p : ℕ} {s : S} → T (is_one_of walk_numbers (number_of n)) → p ≤ bound → Refuses {A = A} bound (Res.stop (refusal n p) s)
  refuses_at h k = Refuses.stop (record { number = h; place = k })

-- a machine whose steps are refused at the places that they are given
pub record Local {S : Type 0} (bound : ℕ) (m : Machine S) : Type 0 where
  pub emit : {p : ℕ} → p ≤ bound → (i : Instr) (s : S) → Refuses bound (m.emit p i s)
  pub boolean : {p : ℕ} → p ≤ bound → (b : ℕ) (s : S) → Refuses bound (m.boolean p b s)
  pub integer : {p : ℕ} → p ≤ bound → (b : Bytes) (s : S) → Refuses bound (m.integer p b s)
  pub string : {p : ℕ} → p ≤ bound → (b : Bytes) (s : S) → Refuses bound (m.string p b s)
  pub load : {p : ℕ} → p ≤ bound → (n : Bytes) (s : S) → Refuses bound (m.load p n s)
  pub define : {p : ℕ} → p ≤ bound → (n : Bytes) (s : S) → Refuses bound (m.define p n s)
  pub jump : {p : ℕ} → p ≤ bound → (o : ℕ) (s : S) → Refuses bound (m.jump p o s)
  pub drop_pop : {p : ℕ} → p ≤ bound → (s : S) → Refuses bound (m.drop_pop p s)
  pub enter : {p : ℕ} → p ≤ bound → (n : Bytes) (ps : List Bytes) (s : S) → Refuses bound (m.enter p n ps s)
  pub leave : {p : ℕ} → p ≤ bound → (k : ℕ) (s s' : S) → Refuses bound (m.leave p k s s')

module _ {S : Type 0} {bound : ℕ} {m : Machine S} (l : Local bound m) where
  refuses_operate : {p : ℕ} → p ≤ bound → (o : Option ℕ) (s : S) → Refuses bound (operate m p o s)
  refuses_operate h none s = refuses_at tt h
  refuses_operate h (some o) s = l.emit h (plain o) s

  mutual
    unfolding walk_stmt PlacedStmt

    refuses_stmt : (e : Stmt) → PlacedStmt bound e → (s : S) → Refuses bound (walk_stmt m e s)
    refuses_stmt (Stmt.expr_stmt p e) h s = refuses_bind (refuses_expr e h.1 s) (λ _ s₁. l.emit h.0 _ s₁)
    refuses_stmt (Stmt.let_stmt p n e) h s = refuses_bind (l.define h.0 n s) (λ i s₁. refuses_bind (refuses_expr e h.1 s₁) (λ _ s₂. l.emit h.0 i s₂))
    refuses_stmt (Stmt.return_stmt p e) h s = refuses_bind (refuses_expr e h.1 s) (λ _ s₁. l.emit h.0 _ s₁)
    refuses_stmt (Stmt.block p b) h s = refuses_stmts b h s

    pub refuses_stmts : (b : Stmts) → PlacedStmts bound b → (s : S) → Refuses bound (walk_stmts m b s)
    refuses_stmts Stmts.no_stmts h s = Refuses.on
    refuses_stmts (Stmts.stmts x xs) h s = refuses_bind (refuses_stmt x h.0 s) (λ _ s₁. refuses_stmts xs h.1 s₁)

    refuses_else : (e : Else) {p : ℕ} → p ≤ bound → PlacedElse bound e → (s : S) → Refuses bound (walk_else m e p s)
    refuses_else Else.no_else k h s = l.emit k _ s
    refuses_else (Else.else b) k h s = refuses_bind (refuses_stmts b h s) (λ _ s₁. l.drop_pop k s₁)

    refuses_expr : (e : Expr) → PlacedExpr bound e → (s : S) → Refuses bound (walk_expr m e s)
    refuses_expr (Expr.identifier p n) h s = l.load h n s
    refuses_expr (Expr.prefix p o e) h s = refuses_bind (refuses_expr e h.1 s) (λ _ s₁. refuses_operate h.0 (get_or prefixes o none) s₁)
    refuses_expr (Expr.infixed p a o b) h s =
        refuses_pick (eqb o less_than)
        (refuses_bind (refuses_expr b h.2 s) (λ _ s₁. refuses_bind (refuses_expr a h.1 s₁) (λ _ s₂. refuses_operate h.0 (get_or infixes o none) s₂)))
        (refuses_bind (refuses_expr a h.1 s) (λ _ s₁. refuses_bind (refuses_expr b h.2 s₁) (λ _ s₂. refuses_operate h.0 (get_or infixes o none) s₂)))
    refuses_expr (Expr.if p c t e) h s =
        refuses_bind (refuses_expr c h.1 s) (λ _ s₁.
        refuses_bind (l.jump h.0 _ s₁) (λ j s₂.
        refuses_bind (refuses_stmts t h.2 s₂) (λ _ s₃.
        refuses_bind (l.drop_pop h.0 s₃) (λ _ s₄.
        refuses_bind (l.jump h.0 _ s₄) (λ k s₅.
        refuses_bind (refuses_else e h.0 h.3 (m.patch j s₅)) (λ _ s₆. Refuses.on))))))
    refuses_expr (Expr.function p n ps b) h s =
        refuses_bind (l.enter h.0 n ps s) (λ _ s₁. refuses_bind (refuses_stmts b h.1 s₁) (λ _ s₂. l.leave h.0 (length ps) s s₂))
    refuses_expr (Expr.call p f es) h s =
        refuses_bind (refuses_expr f h.1 s) (λ _ s₁.
        refuses_pick (ltb arguments_limit (count es)) (refuses_at tt h.0) (refuses_bind (refuses_exprs es h.2 s₁) (λ _ s₂. l.emit h.0 _ s₂)))
    refuses_expr (Expr.integer p b) h s = l.integer h b s
    refuses_expr (Expr.boolean p b) h s = l.boolean h b s
    refuses_expr (Expr.string p b) h s = l.string h b s
    refuses_expr (Expr.array p es) h s = refuses_bind (refuses_exprs es h.1 s) (λ _ s₁. l.emit h.0 _ s₁)
    refuses_expr (Expr.index p a b) h s = refuses_bind (refuses_expr a h.1 s) (λ _ s₁. refuses_bind (refuses_expr b h.2 s₁) (λ _ s₂. l.emit h.0 _ s₂))
    refuses_expr (Expr.hash p es) h s = refuses_bind (refuses_exprs es h.1 s) (λ _ s₁. l.emit h.0 _ s₁)
    refuses_expr (Expr.macro p) h s = refuses_at tt h

    refuses_exprs : (es : Exprs) → PlacedExprs bound es → (s : S) → Refuses bound (walk_exprs m es s)
    refuses_exprs Exprs.no_exprs h s = Refuses.on
    refuses_exprs (Exprs.exprs x xs) h s = refuses_bind (refuses_expr x h.0 s) (λ _ s₁. refuses_exprs xs h.1 s₁)

-- The compiler's machine is one

module _ {bound p : ℕ} (h : p ≤ bound) where
  emitted : (d : ℕ) (i : Instr) (s : State) → Refuses bound (emit_beside d p i s)
  unfolding emit_beside
  emitted d i s = refuses_pick (leb (s.around + size_of s.code + d + size i) code_size) Refuses.on (refuses_at tt h)

  added : (c : Const) (s : State) → Refuses bound (add_constant p c s)
  unfolding add_constant
  added c s =
      refuses_pick (leb constants_limit (length s.pool)) (refuses_at tt h)
      (refuses_pick (leb (pool_size (c ∷ s.pool)) pool_limit) Refuses.on (refuses_at tt h))

  constant : (c : Const) (s : State) → Refuses bound (literal p c s)
  constant c s = refuses_bind (added c s) (λ k s₁. emitted 0 (instr op_constant k 0) s₁)

  loads_one : (n : Bytes) (s : State) → Refuses bound (load p n s)
  unfolding load
  loads_one n s = go (resolve s.words s.globals n s.tables)
    where
      go : (f : Resolved) → Refuses bound (loaded p s f)
      go (Resolved.found y ts) = emitted 0 _ _
      go Resolved.undefined = refuses_at tt h
      go Resolved.full = refuses_at tt h

  defines : (n : Bytes) (s : State) → Refuses bound (define p n s)
  unfolding define
  defines n s = go s.tables
    where
      go : (ts : List Table) → Refuses bound (placed p s (place n s.globals ts))
      go [] = chosen (λ d. Refuses bound (placed p s d)) (leb globals_limit (length s.globals)) (λ _. refuses_at tt h) (λ _. Refuses.on)
      go (t ∷ ts) = chosen (λ d. Refuses bound (placed p s d)) (leb locals_limit t.definitions) (λ _. refuses_at tt h) (λ _. Refuses.on)

  jumps : (o : ℕ) (s : State) → Refuses bound (jump p o s)
  unfolding jump
  jumps o s = refuses_bind (emitted 0 _ s) (λ _ _. Refuses.on)

  enters : (n : Bytes) (ps : List Bytes) (s : State) → Refuses bound (enter p n ps s)
  unfolding enter
  enters n ps s =
      refuses_pick (leb nesting_limit (length s.tables)) (refuses_at tt h) (refuses_pick (ltb arguments_limit (length ps)) (refuses_at tt h) Refuses.on)

  returns : (s : State) → Refuses bound (returned p s)
  unfolding returned
  returns s = refuses_pick (last_is op_pop s.code) Refuses.on (refuses_pick (last_is op_return_value s.code) Refuses.on (emitted 0 (plain op_return) s))

  drops : (s : State) → Refuses bound (dropped p s)
  unfolding dropped
  drops s = refuses_pick (last_is op_pop s.code) Refuses.on (refuses_pick (last_is op_return_value s.code) Refuses.on (refuses_at tt h))

  loads_all : (d : ℕ) (ys : List Symbol) (s : State) → Refuses bound (loads d p ys s)
  unfolding loads
  loads_all d [] s = Refuses.on
  loads_all d (y ∷ ys) s = refuses_bind (loads_all d ys s) (λ _ s₁. emitted d _ s₁)

  closes : (k : ℕ) (s s' : State) (ts : List Table) → Refuses bound (close_over p k s s' ts)
  closes k s s' [] = Refuses.on
  closes k s s' (t ∷ ts) = refuses_bind (loads_all _ t.originals _) (λ _ s₁. refuses_bind (added _ s₁) (λ c s₂. emitted 0 _ s₂))

  leaves : (k : ℕ) (s s' : State) → Refuses bound (leave p k s s')
  unfolding leave
  leaves k s s' = refuses_bind (returns s') (λ _ s₁. closes k s s₁ s₁.tables)

pub machine_local : (bound : ℕ) → Local bound machine
machine_local bound =
    record {
      emit = λ h i s. emitted h 0 i s;
      boolean = λ h b s. emitted h 0 (boolean_of b) s;
      integer = λ h b s. constant h (Const.integer b) s;
      string = λ h b s. constant h (Const.string b) s;
      load = λ h n s. loads_one h n s;
      define = λ h n s. defines h n s;
      jump = λ h o s. jumps h o s;
      drop_pop = λ h s. drops h s;
      enter = λ h n ps s. enters h n ps s;
      leave = λ h k s s'. leaves h k s s';
    }
