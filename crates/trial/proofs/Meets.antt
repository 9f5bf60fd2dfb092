-- A run of code and the value of what it stands for: how the two meet, an instruction and a piece of code at a time.
use Rattle.std.proofs.Common.{◌≡◌, ℕ, zero, suc, ◌+◌, false, eqb, List, [], ◌∷◌, ◌++◌, get_or, sym, refl, ap, ◌∙◌, subst, subst₂, arith}
use Rattle.std.proofs.Math.Option.{none as missing, some as found}
use Rattle.std.specs.Prelude.{Option, None as none, Some as some}
use Rattle.definition.specs.Opcode.{Instr, plain, size}
use Rattle.definition.specs.Bytecode.{Code, size_of, Const}
use Rattle.definition.specs.Walk.{prefixes, infixes, less_than}
use Rattle.trial.specs.Value.{Value, integer, boolean, null, Globals, Infix, add, sub, mul, div, equals, differs, less, greater, combined, Prefix, minus, bang}
use Rattle.trial.specs.Run.{Action, combine, change, action_of, Frame, frame, Run, given, execute, come_to, pass}
use Rattle.trial.specs.Evaluate.{Evaluated, and_then, or_stop, prefix_of, infix_of}
use Rattle.definition.proofs.Emits.{size_of-append}
use Rattle.trial.proofs.Passes.{comes, pass-append, pass-returned, pass-stopped}
use Rattle.definition.specs.declared.reason.Reason.{Reason}

-- a run comes to a position with the value on the stack and the same globals; or both return, or both stop with one number
pub data Meets (to : ℕ) (st : List Value) : Run → Evaluated Value → Type 0 where
  on : {v : Value} {g : Globals} {n : ℕ} → Meets to st (Run.on (frame to (v ∷ st) g n)) (Evaluated.on v g)
  returned : {g : Globals} {n : ℕ} → Meets to st (Run.returned g n) (Evaluated.returned g)
  stopped : {k : Reason} {p : ℕ} → Meets to st (Run.stopped k p) (Evaluated.stopped k)

-- what a run that ended goes through
pub record Keeps (F : Run → Run) : Type 0 where
  pub returned : (g : Globals) (n : ℕ) → F (Run.returned g n) ≡ Run.returned g n
  pub stopped : (k : Reason) (p : ℕ) → F (Run.stopped k p) ≡ Run.stopped k p

-- one after the other
pub keeps_then : {F G : Run → Run} → Keeps F → Keeps G → Keeps (λ s. G (F s))
keeps_then {G = G} a b = record { returned = λ g n. ap G (a.returned g n) ∙ b.returned g n; stopped = λ k p. ap G (a.stopped k p) ∙ b.stopped k p }

-- a pass over code
pub keeps_pass : (pool : List Const) (at : ℕ) (c : Code) → Keeps (pass pool at c)
keeps_pass pool at c = record { returned = pass-returned pool at c; stopped = pass-stopped pool at c }

-- one instruction
pub keeps_come : (pool : List Const) (p : ℕ) (i : Instr) → Keeps (come_to pool p i)
keeps_come pool p i = record { returned = λ _ _. refl; stopped = λ _ _. refl }

-- more of the run, and more of the value
pub meets_then : {p to : ℕ} {st us : List Value} {s : Run} {r : Evaluated Value} {k : Value → Globals → Evaluated Value} (F : Run → Run) → Keeps F → Meets p st s r
    → ((v : Value) (g : Globals) (n : ℕ) → Meets to us (F (Run.on (frame p (v ∷ st) g n))) (k v g)) → Meets to us (F s) (and_then r k)
meets_then F f (Meets.on {v} {g} {n}) h = h v g n
meets_then {to = to} {us = us} F f (Meets.returned {g} {n}) h = subst (λ s. Meets to us s (Evaluated.returned g)) (sym (f.returned g n)) Meets.returned
meets_then {to = to} {us = us} F f (Meets.stopped {k} {p}) h = subst (λ s. Meets to us s (Evaluated.stopped k)) (sym (f.stopped k p)) Meets.stopped

-- more of the run alone
pub meets_after : {p to : ℕ} {st : List Value} {s : Run} {r : Evaluated Value} (F : Run → Run) → Keeps F → Meets p st s r
    → ((v : Value) (g : Globals) (n : ℕ) → Meets to st (F (Run.on (frame p (v ∷ st) g n))) (Evaluated.on v g)) → Meets to st (F s) r
meets_after F f (Meets.on {v} {g} {n}) h = h v g n
meets_after {to = to} {st} F f (Meets.returned {g} {n}) h = subst (λ s. Meets to st s (Evaluated.returned g)) (sym (f.returned g n)) Meets.returned
meets_after {to = to} {st} F f (Meets.stopped {k} {p}) h = subst (λ s. Meets to st s (Evaluated.stopped k)) (sym (f.stopped k p)) Meets.stopped

-- an instruction's value, or its stop
pub gives_meets : (f : Frame) (to : ℕ) (k : Reason) (st : List Value) (o : Option Value) → Meets to st (given f to k st o) (or_stop k f.globals o)
gives_meets f to k st (some v) = Meets.on
gives_meets f to k st none = Meets.stopped

-- code from a position, with a stack, globals and steps: it gives a value on what is left of the stack
pub record Gives (pool : List Const) (at : ℕ) (c : Code) (st us : List Value) (g : Globals) (n : ℕ) (r : Evaluated Value) : Type 0 where
  pub meets : Meets (at + size_of c) us (pass pool at c (Run.on (frame at st g n))) r

module _ {pool : List Const} {at : ℕ} {st us : List Value} {g : Globals} {n : ℕ} {r : Evaluated Value} where
  -- one instruction
  pub alone : (i : Instr) → Meets (at + size i) us (execute pool i (frame at st g n)) r → Gives pool at (i ∷ []) st us g n r
  unfolding pass
  alone i h =
      let q : at + size i ≡ at + size_of (i ∷ []) = omega arith in
      let e : at ≡ at + size_of [] = omega arith in
      record { meets = subst₂ (λ (x : ℕ) (s : Run). Meets x us s r) q (sym (comes pool (at + size_of []) i (frame at st g n) e)) h }

  -- one behind code
  pub followed : {ws : List Value} {c : Code} {k : Value → Globals → Evaluated Value} (i : Instr) → Gives pool at c st us g n r
      → ((v : Value) (h : Globals) (m : ℕ) → Meets (at + size_of c + size i) ws (execute pool i (frame (at + size_of c) (v ∷ us) h m)) (k v h)) → Gives pool at (i ∷ c) st ws g n (and_then r k)
  unfolding pass
  followed {ws} {c} {k} i a f =
      let q : at + size_of c + size i ≡ at + size_of (i ∷ c) = omega arith in
      record {
        meets = subst (λ x. Meets x ws (pass pool at (i ∷ c) (Run.on (frame at st g n))) (and_then r k)) q
            (meets_then (come_to pool (at + size_of c) i) (keeps_come pool (at + size_of c) i) a.meets
            (λ v h m. subst (λ x. Meets (at + size_of c + size i) ws x (k v h)) (sym (comes pool (at + size_of c) i (frame (at + size_of c) (v ∷ us) h m) refl)) (f v h m)));
      }

  -- code behind code
  pub joined : {ws : List Value} {c : Code} {k : Value → Globals → Evaluated Value} (d : Code) → Gives pool at c st us g n r
      → ((v : Value) (h : Globals) (m : ℕ) → Gives pool (at + size_of c) d (v ∷ us) ws h m (k v h)) → Gives pool at (d ++ c) st ws g n (and_then r k)
  joined {ws} {c} {k} d a f =
      let q : at + size_of c + size_of d ≡ at + size_of (d ++ c) = (let e = size_of-append d c in omega arith) in
      record {
        meets = subst₂ (λ (x : ℕ) (y : Run). Meets x ws y (and_then r k)) q (sym (pass-append pool at d c (Run.on (frame at st g n))))
            (meets_then (pass pool (at + size_of c) d) (keeps_pass pool (at + size_of c) d) a.meets (λ v h m. (f v h m).meets));
      }

-- Operators

-- a byte's action, by an equation
acts_as : {x y : ℕ} {a : Action} → found y ≡ found x → action_of (plain y) ≡ a → action_of (plain x) ≡ a
acts_as {x} {y} e h = let q : x ≡ y = cc in ap (λ z. action_of (plain z)) q ∙ h

-- nothing is not something
never : {A : Type 0} {x : ℕ} → missing ≡ found x → A
never e = let z : ◌≡◌ {A = ℕ} 0 1 = cc in absurd (omega arith)

-- the operator of a number, and the action of its byte
pub record PrefixAction (o x : ℕ) : Type 0 where
  pub operator : Prefix
  pub named : get_or prefix_of o none ≡ some operator
  pub acts : action_of (plain x) ≡ change operator

-- of a prefix operator that was walked
pub prefix_action : (o : ℕ) {x : ℕ} → get_or prefixes o missing ≡ found x → PrefixAction o x
prefix_action zero q = never q
prefix_action (suc zero) q = never q
prefix_action (suc (suc zero)) q = record { operator = minus; named = refl; acts = acts_as q refl }
prefix_action (suc (suc (suc zero))) q = record { operator = bang; named = refl; acts = acts_as q refl }
prefix_action (suc (suc (suc (suc o)))) q = never q

-- the same of two operands
pub record InfixAction (o x : ℕ) : Type 0 where
  pub operator : Infix
  pub named : get_or infix_of o none ≡ some operator
  pub acts : action_of (plain x) ≡ combine operator

-- of an infix operator but `<`
pub infix_action : (o : ℕ) {x : ℕ} → eqb o less_than ≡ false → get_or infixes o missing ≡ found x → InfixAction o x
infix_action zero s q = never q
infix_action (suc zero) s q = record { operator = add; named = refl; acts = acts_as q refl }
infix_action (suc (suc zero)) s q = record { operator = sub; named = refl; acts = acts_as q refl }
infix_action (suc (suc (suc zero))) s q = never q
infix_action (suc (suc (suc (suc zero)))) s q = record { operator = mul; named = refl; acts = acts_as q refl }
infix_action (suc (suc (suc (suc (suc zero))))) s q = record { operator = div; named = refl; acts = acts_as q refl }
infix_action (suc (suc (suc (suc (suc (suc zero)))))) s q = record { operator = equals; named = refl; acts = acts_as q refl }
infix_action (suc (suc (suc (suc (suc (suc (suc zero))))))) s q = record { operator = differs; named = refl; acts = acts_as q refl }
infix_action (suc (suc (suc (suc (suc (suc (suc (suc zero)))))))) s q = let z : ◌≡◌ {A = ℕ} 0 1 = cc in absurd (omega arith)
infix_action (suc (suc (suc (suc (suc (suc (suc (suc (suc zero))))))))) s q = record { operator = greater; named = refl; acts = acts_as q refl }
infix_action (suc (suc (suc (suc (suc (suc (suc (suc (suc (suc o)))))))))) s q = never q

-- `<` is `>` with its sides exchanged
pub exchanged : (x y : Value) → combined greater y x ≡ combined less x y
exchanged (integer a) (integer b) = refl
exchanged (integer a) (boolean b) = refl
exchanged (integer a) null = refl
exchanged (boolean a) (integer b) = refl
exchanged (boolean a) (boolean b) = refl
exchanged (boolean a) null = refl
exchanged null (integer b) = refl
exchanged null (boolean b) = refl
exchanged null null = refl
