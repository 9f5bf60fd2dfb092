-- Two machines on one tree, whatever the tree is: one induction, for every relation between their states that may lean on the
-- Identifiers met so far. Simulation.antt has more to go on (well-formed trees, jumps not yet patched); here nothing is asked of the tree.
use Prim.Native.Nat.{ℕ}
use mathlib.Core.Bool.{Bool, true, false}
use mathlib.Core.List.{List, ◌∷◌}
use mathlib.Core.Option.{Option, none, some}
use lib.ListN.{length, get_or}
use lib.Dec.{T, eqb, ltb}
use Rattle.definition.specs.Basic.{Bytes, pick}
use Rattle.definition.specs.Limit.{arguments_limit}
use Rattle.definition.specs.Number
use Rattle.definition.specs.Number.{refusal}
use Rattle.definition.specs.Syntax.{Stmt, Stmts, Else, Expr, Exprs, count}
use Rattle.definition.specs.Opcode.{Instr, instr, plain, op_pop, op_jump_not_truthy, op_jump, op_null, op_array, op_hash, op_index, op_call, op_return_value}
use Rattle.definition.specs.Walk.{Res, bind, Machine, prefixes, infixes, less_than, operate, walk_stmt, walk_stmts, walk_else, walk_expr, walk_exprs}
use Rattle.records.specs.Records.{mentions_stmt, mentions, mentions_else, mentions_expr, mentions_exprs}
use Rattle.definition.specs.declared.reason.Refusal.{Refusal}

-- both go on with one value, in states that P relates; or both stop with one refusal; or, where that is allowed, the first stops alone
pub data Tracked {S U A : Type 0} (alone : Bool) (P : S → U → Type 0) : Res S A → Res U A → Type 0 where
  on : (a : A) {s : S} {t : U} → P s t → Tracked alone P (Res.on a s) (Res.on a t)
  stop : (r : Refusal) {s : S} {t : U} → Tracked alone P (Res.stop r s) (Res.stop r t)
  first : {r : Refusal} {s : S} {y : Res U A} → T alone → Tracked alone P (Res.stop r s) y

-- the same of a jump, whose positions J relates
pub data Jumped {S U : Type 0} (alone : Bool) (J : ℕ → ℕ → Type 0) (P : S → U → Type 0) : Res S ℕ → Res U ℕ → Type 0 where
  on : {j k : ℕ} → J j k → {s : S} {t : U} → P s t → Jumped alone J P (Res.on j s) (Res.on k t)
  stop : (r : Refusal) {s : S} {t : U} → Jumped alone J P (Res.stop r s) (Res.stop r t)
  first : {r : Refusal} {s : S} {y : Res U ℕ} → T alone → Jumped alone J P (Res.stop r s) y

-- R relates states, with the offsets of the Identifiers met so far, the latest first
pub record Tracking {S U : Type 0} (m : Machine S) (n : Machine U) (alone : Bool) (J : ℕ → ℕ → Type 0) (R : List ℕ → S → U → Type 0) : Type 0 where
  pub emit : {l : List ℕ} {s : S} {t : U} → R l s t → (p : ℕ) (i : Instr) → Tracked alone (R l) (m.emit p i s) (n.emit p i t)
  pub boolean : {l : List ℕ} {s : S} {t : U} → R l s t → (p b : ℕ) → Tracked alone (R l) (m.boolean p b s) (n.boolean p b t)
  pub integer : {l : List ℕ} {s : S} {t : U} → R l s t → (p : ℕ) (b : Bytes) → Tracked alone (R l) (m.integer p b s) (n.integer p b t)
  pub string : {l : List ℕ} {s : S} {t : U} → R l s t → (p : ℕ) (b : Bytes) → Tracked alone (R l) (m.string p b s) (n.string p b t)
  pub load : {l : List ℕ} {s : S} {t : U} → R l s t → (p : ℕ) (x : Bytes) → Tracked alone (R (p ∷ l)) (m.load p x s) (n.load p x t)
  pub define : {l : List ℕ} {s : S} {t : U} → R l s t → (p : ℕ) (x : Bytes) → Tracked alone (R l) (m.define p x s) (n.define p x t)
  pub jump : {l : List ℕ} {s : S} {t : U} → R l s t → (p o : ℕ) → Jumped alone J (R l) (m.jump p o s) (n.jump p o t)
  pub patch : {l : List ℕ} {s : S} {t : U} → R l s t → (j k : ℕ) → J j k → R l (m.patch j s) (n.patch k t)
  pub drop_pop : {l : List ℕ} {s : S} {t : U} → R l s t → (p : ℕ) → Tracked alone (R l) (m.drop_pop p s) (n.drop_pop p t)
  pub enter : {l : List ℕ} {s : S} {t : U} → R l s t → (p : ℕ) (x : Bytes) (xs : List Bytes) → Tracked alone (R l) (m.enter p x xs s) (n.enter p x xs t)
  pub leave : {l l' : List ℕ} {s s' : S} {t t' : U} → R l s t → R l' s' t' → (p k : ℕ) → Tracked alone (R l') (m.leave p k s s') (n.leave p k t t')

module _ {S U : Type 0} {m : Machine S} {n : Machine U} {alone : Bool} {J : ℕ → ℕ → Type 0} {R : List ℕ → S → U → Type 0} (tr : Tracking m n alone J R) where
  then : {A B : Type 0} {P Q : S → U → Type 0} {x : Res S A} {y : Res U A} {k : A → S → Res S B} {l : A → U → Res U B}
      → Tracked alone P x y → ((a : A) (s : S) (t : U) → P s t → Tracked alone Q (k a s) (l a t)) → Tracked alone Q (bind x k) (bind y l)
  then (Tracked.on a {s} {t} h) f = f a s t h
  then (Tracked.stop r) f = Tracked.stop r
  then (Tracked.first h) f = Tracked.first h

  then_jump : {B : Type 0} {P Q : S → U → Type 0} {x : Res S ℕ} {y : Res U ℕ} {k : ℕ → S → Res S B} {l : ℕ → U → Res U B}
      → Jumped alone J P x y → ((i j : ℕ) → J i j → (s : S) (t : U) → P s t → Tracked alone Q (k i s) (l j t)) → Tracked alone Q (bind x k) (bind y l)
  then_jump (Jumped.on {j} {k} e {s} {t} h) f = f j k e s t h
  then_jump (Jumped.stop r) f = Tracked.stop r
  then_jump (Jumped.first h) f = Tracked.first h

  either : {A : Type 0} {x x' : Res S A} {y y' : Res U A} {l l' : List ℕ} (b : Bool)
      → Tracked alone (R l) x y → Tracked alone (R l') x' y' → Tracked alone (R (pick b l l')) (pick b x x') (pick b y y')
  either true h k = h
  either false h k = k

  track_operate : {l : List ℕ} {s : S} {t : U} (p : ℕ) (o : Option ℕ) → R l s t → Tracked alone (R l) (operate m p o s) (operate n p o t)
  track_operate p none r = Tracked.stop (refusal Number.operator p)
  track_operate p (some o) r = tr.emit r p (plain o)

  mutual
    unfolding walk_stmt mentions_stmt

    pub track_stmt : (e : Stmt) {l : List ℕ} {s : S} {t : U} → R l s t → Tracked alone (R (mentions_stmt e l)) (walk_stmt m e s) (walk_stmt n e t)
    track_stmt (Stmt.expr_stmt p e) r = then (track_expr e r) (λ _ _ _ r₁. tr.emit r₁ p (plain op_pop))
    track_stmt (Stmt.let_stmt p x e) r = then (tr.define r p x) (λ i _ _ r₁. then (track_expr e r₁) (λ _ _ _ r₂. tr.emit r₂ p i))
    track_stmt (Stmt.return_stmt p e) r = then (track_expr e r) (λ _ _ _ r₁. tr.emit r₁ p (plain op_return_value))
    track_stmt (Stmt.block p b) r = track_stmts b r

    pub track_stmts : (b : Stmts) {l : List ℕ} {s : S} {t : U} → R l s t → Tracked alone (R (mentions b l)) (walk_stmts m b s) (walk_stmts n b t)
    track_stmts Stmts.no_stmts r = Tracked.on tt r
    track_stmts (Stmts.stmts e es) r = then (track_stmt e r) (λ _ _ _ r₁. track_stmts es r₁)

    track_else : (e : Else) (p : ℕ) {l : List ℕ} {s : S} {t : U} → R l s t → Tracked alone (R (mentions_else e l)) (walk_else m e p s) (walk_else n e p t)
    track_else Else.no_else p r = tr.emit r p (plain op_null)
    track_else (Else.else b) p r = then (track_stmts b r) (λ _ _ _ r₁. tr.drop_pop r₁ p)

    pub track_expr : (e : Expr) {l : List ℕ} {s : S} {t : U} → R l s t → Tracked alone (R (mentions_expr e l)) (walk_expr m e s) (walk_expr n e t)
    track_expr (Expr.identifier p x) r = tr.load r p x
    track_expr (Expr.prefix p o e) r = then (track_expr e r) (λ _ _ _ r₁. track_operate p (get_or prefixes o none) r₁)
    track_expr (Expr.infixed p a o b) r =
        either (eqb o less_than)
        (then (track_expr b r) (λ _ _ _ r₁. then (track_expr a r₁) (λ _ _ _ r₂. track_operate p (get_or infixes o none) r₂)))
        (then (track_expr a r) (λ _ _ _ r₁. then (track_expr b r₁) (λ _ _ _ r₂. track_operate p (get_or infixes o none) r₂)))
    track_expr (Expr.if p c t e) r =
        then (track_expr c r) (λ _ _ _ r₁.
        then_jump (tr.jump r₁ p op_jump_not_truthy) (λ j j' e₁ _ _ r₂.
        then (track_stmts t r₂) (λ _ _ _ r₃.
        then (tr.drop_pop r₃ p) (λ _ _ _ r₄.
        then_jump (tr.jump r₄ p op_jump) (λ k k' e₂ _ _ r₅.
        then (track_else e p (tr.patch r₅ j j' e₁)) (λ _ _ _ r₆.
        Tracked.on tt (tr.patch r₆ k k' e₂)))))))
    track_expr (Expr.function p x xs b) r = then (tr.enter r p x xs) (λ _ _ _ r₁. then (track_stmts b r₁) (λ _ _ _ r₂. tr.leave r r₂ p (length xs)))
    track_expr (Expr.call p e es) r =
        then (track_expr e r) (λ _ _ _ r₁.
        called (ltb arguments_limit (count es)) (Tracked.stop (refusal Number.too_many p))
        (then (track_exprs es r₁) (λ _ _ _ r₂. tr.emit r₂ p (instr op_call (count es) 0))))
      where
        called : {A : Type 0} {P : S → U → Type 0} {x x' : Res S A} {y y' : Res U A} (b : Bool) → Tracked alone P x y → Tracked alone P x' y' → Tracked alone P (pick b x x') (pick b y y')
        called true h k = h
        called false h k = k
    track_expr (Expr.integer p b) r = tr.integer r p b
    track_expr (Expr.boolean p b) r = tr.boolean r p b
    track_expr (Expr.string p b) r = tr.string r p b
    track_expr (Expr.array p es) r = then (track_exprs es r) (λ _ _ _ r₁. tr.emit r₁ p (instr op_array (count es) 0))
    track_expr (Expr.index p a b) r = then (track_expr a r) (λ _ _ _ r₁. then (track_expr b r₁) (λ _ _ _ r₂. tr.emit r₂ p (plain op_index)))
    track_expr (Expr.hash p es) r = then (track_exprs es r) (λ _ _ _ r₁. tr.emit r₁ p (instr op_hash (count es) 0))
    track_expr (Expr.macro p) r = Tracked.stop (refusal Number.macro p)

    track_exprs : (es : Exprs) {l : List ℕ} {s : S} {t : U} → R l s t → Tracked alone (R (mentions_exprs es l)) (walk_exprs m es s) (walk_exprs n es t)
    track_exprs Exprs.no_exprs r = Tracked.on tt r
    track_exprs (Exprs.exprs e es) r = then (track_expr e r) (λ _ _ _ r₁. track_exprs es r₁)
