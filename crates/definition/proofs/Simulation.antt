-- Two machines on two trees that differ in literals: one induction, for every relation between their states.
--     both_stmts    a simulation, with literals mapped: Erase.antt, where one machine runs a tree and the tree's shape
--     refined       with literals as they are: Jumps.antt, where R leans on the jumps not yet patched. A machine over bytes goes so. R w s t:
--                   t's bytes are `encode` of s's code, t's last instruction is s's, a jump stands at each position that w has for the
--                   chunk in work, and t has the outer chunks' bytes as w has them (`inside` puts the outer states there). D: t's previous
--                   instruction is right too. Q: what a refusal leaves in the work areas and the session
--     kept, ends    a machine with itself: an invariant, as in Limits.antt
use Prim.Native.Nat.{ℕ, zero, suc, ◌≤◌, ◌<◌}
use native.Mathlib.Omega.{arith}
use mathlib.Core.Bool.{Bool, true, false}
use mathlib.Core.List.{List, [], ◌∷◌}
use mathlib.Core.Option.{Option, none, some}
use mathlib.Core.Path.{◌≡◌, refl, ap, subst}
use lib.ListN.{length, get_or}
use lib.Dec.{T, eqb, leb, ltb, leb→le}
use borrow.Author.Tests.{ltb-false, eqb-true}
use Rattle.definition.specs.Basic.{Bytes, pick, both}
use Rattle.definition.specs.Limit.{name_limit, arguments_limit}
use Rattle.definition.specs.Number
use Rattle.definition.specs.Number.{refusal, walk_number, number_of}
use Rattle.definition.specs.Syntax.{Stmt, Stmts, Else, Expr, Exprs, count}
use Rattle.definition.specs.Opcode.{Instr, instr, plain, width, op_last, op_pop, op_jump_not_truthy, op_jump, op_null, op_array, op_hash, op_index, op_call, op_return_value}
use Rattle.definition.specs.Valid.{All, IsName, ValidInstr, operand_bound, captures_bound}
use Rattle.definition.specs.Walk.{Res, bind, Machine, prefixes, infixes, less_than, operate, walk_stmt, walk_stmts, walk_else, walk_expr, walk_exprs}
use Rattle.definition.specs.declared.reason.Refusal.{Refusal}
use Rattle.definition.proofs.Basic.{picked, both_each}
use Rattle.definition.proofs.WellFormed.{WfStmt, WfStmts, WfElse, WfExpr, WfExprs}
use Rattle.definition.proofs.Blank.{Literals, map_stmt, map_stmts, map_else, map_expr, map_exprs}

-- both go on with one value, in states that P relates for it; or both stop with one refusal of the walk, in states that Q relates
pub data Both {S U A : Type 0} (Q : S → U → Type 0) (P : A → S → U → Type 0) : Res S A → Res U A → Type 0 where
  on : (a : A) {s : S} {t : U} → P a s t → Both Q P (Res.on a s) (Res.on a t)
  stop : (r : Refusal) → T (walk_number (number_of r.reason)) → {s : S} {t : U} → Q s t → Both Q P (Res.stop r s) (Res.stop r t)

module _ {S U : Type 0} {Q : S → U → Type 0} where
  pub both_bind : {A B : Type 0} {P : A → S → U → Type 0} {P' : B → S → U → Type 0} {x : Res S A} {y : Res U A} {k : A → S → Res S B} {l : A → U → Res U B}
      → Both Q P x y → ((a : A) (s : S) (t : U) → P a s t → Both Q P' (k a s) (l a t)) → Both Q P' (bind x k) (bind y l)
  both_bind (Both.on a {s} {t} h) f = f a s t h
  both_bind (Both.stop r n h) f = Both.stop r n h

  -- under one test, which the second may use
  pub guarded : {A : Type 0} {P : A → S → U → Type 0} {x x' : Res S A} {y y' : Res U A} (b : Bool) {c : Bool} → c ≡ b → Both Q P x y → (c ≡ false → Both Q P x' y') → Both Q P (pick b x x') (pick b y y')
  guarded true e h k = h
  guarded false e h k = k e

  pub both_map : {A : Type 0} {P P' : A → S → U → Type 0} {x : Res S A} {y : Res U A} → Both Q P x y → ((a : A) (s : S) (t : U) → P a s t → P' a s t) → Both Q P' x y
  both_map (Both.on a {s} {t} h) f = Both.on a (f a s t h)
  both_map (Both.stop r n h) f = Both.stop r n h

-- What a simulation has to answer for. R relates states that go on, D those of them where a last Pop may be dropped: a chunk's first, and
-- any right after an instruction. Q relates states at a stop. R and D may lean on a context W: the jumps not yet patched, and the functions
-- left open with the states before them.
pub record Simulation {S U : Type 0} (m : Machine S) (n : Machine U) (f : Literals) {W : Type 0} (R D : W → S → U → Type 0) (Q : S → U → Type 0) : Type 0 where
  pub jumped : W → ℕ → W
  pub inside : W → S → U → W
  pub halt : {w : W} {s : S} {t : U} → R w s t → Q s t
  pub rest : {w : W} {s : S} {t : U} → D w s t → R w s t
  pub emit : {w : W} {s : S} {t : U} → R w s t → (p : ℕ) (i : Instr) → ValidInstr i → Both Q (λ (_ : Unit {0}). D w) (m.emit p i s) (n.emit p i t)
  pub boolean : {w : W} {s : S} {t : U} → R w s t → (p b : ℕ) → Both Q (λ (_ : Unit {0}). D w) (m.boolean p b s) (n.boolean p (f.boolean b) t)
  pub integer : {w : W} {s : S} {t : U} → R w s t → (p : ℕ) (b : Bytes) → length b ≡ 8 → Both Q (λ (_ : Unit {0}). D w) (m.integer p b s) (n.integer p (f.integer b) t)
  pub string : {w : W} {s : S} {t : U} → R w s t → (p : ℕ) (b : Bytes) → Both Q (λ (_ : Unit {0}). D w) (m.string p b s) (n.string p (f.string b) t)
  pub load : {w : W} {s : S} {t : U} → R w s t → (p : ℕ) (x : Bytes) → IsName x → Both Q (λ (_ : Unit {0}). D w) (m.load p x s) (n.load p x t)
  pub define : {w : W} {s : S} {t : U} → R w s t → (p : ℕ) (x : Bytes) → IsName x → Both Q (λ i s t. ValidInstr i × R w s t) (m.define p x s) (n.define p x t)
  pub jump : {w : W} {s : S} {t : U} → R w s t → (p : ℕ) (b : Bool) → Both Q (λ (j : ℕ). D (jumped w j)) (m.jump p (pick b op_jump_not_truthy op_jump) s) (n.jump p (pick b op_jump_not_truthy op_jump) t)
  pub patch : {w : W} {s : S} {t : U} (j : ℕ) → R (jumped w j) s t → R w (m.patch j s) (n.patch j t)
  -- while a later jump is not yet patched
  pub patch-under : {w : W} {s : S} {t : U} (j k : ℕ) → D (jumped (jumped w j) k) s t → D (jumped w k) (m.patch j s) (n.patch j t)
  pub drop_pop : {w : W} {s : S} {t : U} → D w s t → (p : ℕ) → Both Q (λ (_ : Unit {0}). R w) (m.drop_pop p s) (n.drop_pop p t)
  pub enter : {w : W} {s : S} {t : U} → R w s t → (p : ℕ) (x : Bytes) (xs : List Bytes) → length x ≤ name_limit → All IsName xs
      → Both Q (λ (_ : Unit {0}) s' t'. (length xs ≤ arguments_limit) × D (inside w s t) s' t') (m.enter p x xs s) (n.enter p x xs t)
  pub leave : {w : W} {s s' : S} {t t' : U} → R w s t → D (inside w s t) s' t' → (p k : ℕ) → k ≤ arguments_limit → Both Q (λ (_ : Unit {0}). D w) (m.leave p k s s') (n.leave p k t t')

-- an instruction that has no operands
bare : ℕ → Bool
bare o = both (leb o op_last) (eqb (width o) 0)

bare_valid : (o : ℕ) → T (bare o) → ValidInstr (plain o)
unfolding bare
bare_valid o h = go (leb o op_last) (λ k. leb→le o op_last k) (eqb (width o) 0) (λ e. eqb-true (width o) 0 e) h refl
  where
    go : (a : Bool) → (T a → o ≤ op_last) → (b : Bool) → (b ≡ true → width o ≡ 0) → T (both a b) → b ≡ b → ValidInstr (plain o)
    go true f true g t e = record { known = f tt; operand = rw (g refl) (omega arith); captures = rw (g refl) (omega arith) }
    go true f false g t e = absurd t
    go false f b g t e = absurd t

-- each operator's
known : List (Option ℕ) → Bool
known [] = true
known (none ∷ os) = known os
known (some o ∷ os) = both (bare o) (known os)

count_map : (f : Literals) (es : Exprs) → count (map_exprs f es) ≡ count es
unfolding map_exprs
count_map f Exprs.no_exprs = refl
count_map f (Exprs.exprs e es) = ap suc (count_map f es)

module _ {S U : Type 0} {m : Machine S} {n : Machine U} {f : Literals} {W : Type 0} {R D : W → S → U → Type 0} {Q : S → U → Type 0} (sim : Simulation m n f R D Q) where
  abbrev LikeR : W → Res S (Unit {0}) → Res U (Unit {0}) → Type 0
  LikeR w = Both Q (λ (_ : Unit {0}). R w)

  abbrev LikeD : W → Res S (Unit {0}) → Res U (Unit {0}) → Type 0
  LikeD w = Both Q (λ (_ : Unit {0}). D w)

  rests : {w : W} {x : Res S (Unit {0})} {y : Res U (Unit {0})} → LikeD w x y → LikeR w x y
  rests h = both_map h (λ _ _ _ d. sim.rest d)

  emits : {w : W} {s : S} {t : U} → R w s t → (p o : ℕ) → T (bare o) → LikeD w (m.emit p (plain o) s) (n.emit p (plain o) t)
  emits r p o h = sim.emit r p (plain o) (bare_valid o h)

  both_operate : {w : W} {s : S} {t : U} (p : ℕ) (os : List (Option ℕ)) → T (known os) → (o : ℕ) → R w s t → LikeR w (operate m p (get_or os o none) s) (operate n p (get_or os o none) t)
  unfolding known
  both_operate p [] k o r = Both.stop (refusal Number.operator p) tt (sim.halt r)
  both_operate p (none ∷ os) k zero r = Both.stop (refusal Number.operator p) tt (sim.halt r)
  both_operate p (some x ∷ os) k zero r = rests (emits r p x (both_each (bare x) (known os) k).0)
  both_operate p (none ∷ os) k (suc o) r = both_operate p os k o r
  both_operate p (some x ∷ os) k (suc o) r = both_operate p os (both_each (bare x) (known os) k).1 o r

  prefixes_known : T (known prefixes)
  unfolding known bare
  prefixes_known = tt

  infixes_known : T (known infixes)
  unfolding known bare
  infixes_known = tt

  -- after operands, by their number
  emits_count : {w : W} {s : S} {t : U} → R w s t → (p : ℕ) (i : Instr) → i.op ≤ op_last → i.a < operand_bound (width i.op) → i.b < captures_bound (width i.op) → LikeR w (m.emit p i s) (n.emit p i t)
  emits_count r p i h h' h'' = rests (sim.emit r p i (record { known = h; operand = h'; captures = h'' }))

  mutual
    unfolding walk_stmt map_stmt WfStmt bare

    pub both_stmt : (e : Stmt) {w : W} {s : S} {t : U} → WfStmt e → D w s t → LikeD w (walk_stmt m e s) (walk_stmt n (map_stmt f e) t)
    both_stmt (Stmt.expr_stmt p e) h d = both_bind (both_expr e h (sim.rest d)) (λ _ _ _ r. emits r p op_pop tt)
    both_stmt (Stmt.let_stmt p x e) h d = both_bind (sim.define (sim.rest d) p x h.0) (λ i _ _ r. both_bind (both_expr e h.1 r.1) (λ _ _ _ r₁. sim.emit r₁ p i r.0))
    both_stmt (Stmt.return_stmt p e) h d = both_bind (both_expr e h (sim.rest d)) (λ _ _ _ r. emits r p op_return_value tt)
    both_stmt (Stmt.block p b) h d = both_stmts b h d

    pub both_stmts : (b : Stmts) {w : W} {s : S} {t : U} → WfStmts b → D w s t → LikeD w (walk_stmts m b s) (walk_stmts n (map_stmts f b) t)
    both_stmts Stmts.no_stmts h d = Both.on tt d
    both_stmts (Stmts.stmts e es) h d = both_bind (both_stmt e h.0 d) (λ _ _ _ d₁. both_stmts es h.1 d₁)

    both_else : (e : Else) (p : ℕ) {w : W} {s : S} {t : U} → WfElse e → D w s t → LikeR w (walk_else m e p s) (walk_else n (map_else f e) p t)
    both_else Else.no_else p h d = rests (emits (sim.rest d) p op_null tt)
    both_else (Else.else b) p h d = both_bind (both_stmts b h d) (λ _ _ _ d₁. sim.drop_pop d₁ p)

    pub both_expr : (e : Expr) {w : W} {s : S} {t : U} → WfExpr e → R w s t → LikeR w (walk_expr m e s) (walk_expr n (map_expr f e) t)
    both_expr (Expr.identifier p x) h r = rests (sim.load r p x h)
    both_expr (Expr.prefix p o e) h r = both_bind (both_expr e h r) (λ _ _ _ r₁. both_operate p prefixes prefixes_known o r₁)
    both_expr (Expr.infixed p a o b) {w} h r =
        picked (LikeR w) {b = eqb o less_than} refl
        (both_bind (both_expr b h.1 r) (λ _ _ _ r₁. both_bind (both_expr a h.0 r₁) (λ _ _ _ r₂. both_operate p infixes infixes_known o r₂)))
        (both_bind (both_expr a h.0 r) (λ _ _ _ r₁. both_bind (both_expr b h.1 r₁) (λ _ _ _ r₂. both_operate p infixes infixes_known o r₂)))
    both_expr (Expr.if p c t e) h r =
        both_bind (both_expr c h.0 r) (λ _ _ _ r₁.
        both_bind (sim.jump r₁ p true) (λ j _ _ d₂.
        both_bind (both_stmts t h.1 d₂) (λ _ _ _ d₃.
        both_bind (sim.drop_pop d₃ p) (λ _ _ _ r₄.
        both_bind (sim.jump r₄ p false) (λ k _ _ d₅.
        both_bind (both_else e p h.2 (sim.patch-under j k d₅)) (λ _ _ _ r₆.
        Both.on tt (sim.patch k r₆)))))))
    both_expr (Expr.function p x xs b) h r =
        both_bind (sim.enter r p x xs h.0 h.1) (λ _ _ _ d. both_bind (both_stmts b h.2 d.1) (λ _ _ _ d₁. rests (sim.leave r d₁ p (length xs) d.0)))
    both_expr (Expr.call p e es) {w} h r =
        both_bind (both_expr e h.0 r) (λ _ _ _ r₁.
        rw (count_map f es) (guarded (ltb arguments_limit (count es)) refl (Both.stop (refusal Number.too_many p) tt (sim.halt r₁))
        (λ k. both_bind (both_exprs es h.1 r₁) (λ _ _ _ r₂. emits_count r₂ p (instr op_call (count es) 0) (omega arith) (omega (arith, ltb-false)) (omega arith)))))
    both_expr (Expr.integer p b) h r = rests (sim.integer r p b h)
    both_expr (Expr.boolean p b) h r = rests (sim.boolean r p b)
    both_expr (Expr.string p b) h r = rests (sim.string r p b)
    both_expr (Expr.array p es) h r = both_bind (both_exprs es h.1 r) (λ _ _ _ r₁. rw (count_map f es) (emits_count r₁ p (instr op_array (count es) 0) (omega arith) h.0 (omega arith)))
    both_expr (Expr.index p a b) h r = both_bind (both_expr a h.0 r) (λ _ _ _ r₁. both_bind (both_expr b h.1 r₁) (λ _ _ _ r₂. rests (emits r₂ p op_index tt)))
    both_expr (Expr.hash p es) h r = both_bind (both_exprs es h.1 r) (λ _ _ _ r₁. rw (count_map f es) (emits_count r₁ p (instr op_hash (count es) 0) (omega arith) h.0 (omega arith)))
    both_expr (Expr.macro p) h r = Both.stop (refusal Number.macro p) tt (sim.halt r)

    both_exprs : (es : Exprs) {w : W} {s : S} {t : U} → WfExprs es → R w s t → LikeR w (walk_exprs m es s) (walk_exprs n (map_exprs f es) t)
    both_exprs Exprs.no_exprs h r = Both.on tt r
    both_exprs (Exprs.exprs e es) h r = both_bind (both_expr e h.0 r) (λ _ _ _ r₁. both_exprs es h.1 r₁)

-- A unary invariant P is the simulation of a machine by itself, from equal states where P holds.

pub record Held {S W : Type 0} (P : W → S → Type 0) (w : W) (s t : S) : Type 0 where
  pub same : s ≡ t
  pub holds : P w s

-- P of the value and the state, if it goes on; or a refusal of the walk
pub data Ends {S A : Type 0} (P : A → S → Type 0) : Res S A → Type 0 where
  on : (a : A) {s : S} → P a s → Ends P (Res.on a s)
  stop : (r : Refusal) (s : S) → T (walk_number (number_of r.reason)) → Ends P (Res.stop r s)

module _ {S A : Type 0} {P : A → S → Type 0} where
  pub ends_pick : {x y : Res S A} (b : Bool) → (b ≡ true → Ends P x) → (b ≡ false → Ends P y) → Ends P (pick b x y)
  ends_pick true h k = h refl
  ends_pick false h k = k refl

  pub ends_map : {P' : A → S → Type 0} {x : Res S A} → Ends P x → ((a : A) (s : S) → P a s → P' a s) → Ends P' x
  ends_map (Ends.on a {s} h) f = Ends.on a (f a s h)
  ends_map (Ends.stop r s n) f = Ends.stop r s n

  pub ends_bind : {B : Type 0} {P' : B → S → Type 0} {x : Res S A} {k : A → S → Res S B} → Ends P x → ((a : A) (s : S) → P a s → Ends P' (k a s)) → Ends P' (bind x k)
  ends_bind (Ends.on a {s} h) f = f a s h
  ends_bind (Ends.stop r s n) f = Ends.stop r s n

abbrev pub Always : {S U : Type 0} → S → U → Type 0
Always s t = Unit {0}

module _ {S A W : Type 0} {P : W → S → Type 0} {v : A → W} where
  pub kept : {X : Type 0} {x y : X} (f : X → Res S A) → x ≡ y → Ends (λ a. P (v a)) (f x) → Both Always (λ a. Held P (v a)) (f x) (f y)
  kept {x = x} f e h = subst (λ y. Both Always (λ a. Held P (v a)) (f x) (f y)) e (go h)
    where
      go : {x : Res S A} → Ends (λ a. P (v a)) x → Both Always (λ a. Held P (v a)) x x
      go (Ends.on a h) = Both.on a (record { same = refl; holds = h })
      go (Ends.stop r s n) = Both.stop r n tt

  pub ends : {x y : Res S A} → Both Always (λ a. Held P (v a)) x y → Ends (λ a. P (v a)) x
  ends (Both.on a h) = Ends.on a h.holds
  ends (Both.stop r n {s} h) = Ends.stop r s n
