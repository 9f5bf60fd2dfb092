-- A run of statements and their value: the last statement's value is what their last Pop drops, so a branch without that Pop leaves it.
use Rattle.std.proofs.Common.{◌≡◌, ℕ, ◌+◌, Bool, true, false, eqb, List, [], ◌∷◌, ◌++◌, get_or, set, sym, refl, ap, ◌∙◌, subst, arith}
use Rattle.std.specs.Prelude.{Option, None as none, Some as some}
use Rattle.definition.specs.Basic.{pick}
use Rattle.definition.specs.Opcode.{Instr, instr, plain, size, op_pop, op_set_global, op_return_value}
use Rattle.definition.specs.Bytecode.{Code, size_of, Const}
use Rattle.trial.specs.Value.{Value, Globals}
use Rattle.trial.specs.Run.{actions, pop, other, action_of, frame, Run, acted, execute, come_to, pass}
use Rattle.trial.specs.Evaluate.{Evaluated, and_then, branch_value}
use Rattle.definition.proofs.Emits.{size_of-append}
use Rattle.definition.proofs.Account.{Yields}
use Rattle.trial.proofs.Passes.{comes_run, pass-append, pass-returned, pass-stopped}
use Rattle.trial.proofs.Meets.{Meets, Gives}
use Rattle.definition.specs.declared.reason.Reason.{Reason}

-- a run through code from a position
abbrev pub ran_through : List Const → ℕ → Code → List Value → Globals → ℕ → Run
ran_through pool at c st g n = pass pool at c (Run.on (frame at st g n))

-- statements' code, beside their value: none was there; the last is an expression's Pop, a Let's SetGlobal; or the run ended
pub data Settles (pool : List Const) (at : ℕ) (st : List Value) (last : Option Value) (g : Globals) (n : ℕ) : Code → Evaluated (Option Value) → Type 0 where
  nothing : Settles pool at st last g n [] (Evaluated.on last g)
  value : {i : Instr} {c : Code} {v : Value} {h : Globals} {m : ℕ} → i.op ≡ op_pop → ran_through pool at c st g n ≡ Run.on (frame (at + size_of c) (v ∷ st) h m)
      → Settles pool at st last g n (i ∷ c) (Evaluated.on (some v) h)
  bound : {i : Instr} {c : Code} {h : Globals} {m : ℕ} → i.op ≡ op_set_global → ran_through pool at (i ∷ c) st g n ≡ Run.on (frame (at + size_of (i ∷ c)) st h m)
      → Settles pool at st last g n (i ∷ c) (Evaluated.on none h)
  returned : {c : Code} {h : Globals} {m : ℕ} → ran_through pool at c st g n ≡ Run.returned h m → Settles pool at st last g n c (Evaluated.returned h)
  stopped : {c : Code} {k : Reason} {p : ℕ} → ran_through pool at c st g n ≡ Run.stopped k p → Settles pool at st last g n c (Evaluated.stopped k)

module _ {pool : List Const} {at : ℕ} {st : List Value} {g : Globals} {n : ℕ} where
  -- an instruction behind an expression
  settles_one : (last : Option Value) {c : Code} {r : Evaluated Value} {k : Value → Globals → Evaluated (Option Value)} (i : Instr) → Gives pool at c st st g n r
      → ((v : Value) (h : Globals) (m : ℕ) → ran_through pool at c st g n ≡ Run.on (frame (at + size_of c) (v ∷ st) h m) → Settles pool at st last g n (i ∷ c) (k v h))
      → Settles pool at st last g n (i ∷ c) (and_then r k)
  unfolding pass
  settles_one last {c} {k = k} i a f = go refl a.meets
    where
      go : {s : Run} {r : Evaluated Value} → ran_through pool at c st g n ≡ s → Meets (at + size_of c) st s r → Settles pool at st last g n (i ∷ c) (and_then r k)
      go e (Meets.on {v} {g = h} {n = m}) = f v h m e
      go e Meets.returned = Settles.returned (ap (come_to pool (at + size_of c) i) e)
      go e Meets.stopped = Settles.stopped (ap (come_to pool (at + size_of c) i) e)

  -- an expression statement
  pub settles_expr : (last : Option Value) {c : Code} {r : Evaluated Value} → Gives pool at c st st g n r → Settles pool at st last g n (plain op_pop ∷ c) (and_then r (λ v h. Evaluated.on (some v) h))
  settles_expr last a = settles_one last (plain op_pop) a (λ v h m e. Settles.value refl e)

  -- a Let of the global k
  pub settles_let : (last : Option Value) (k : ℕ) {c : Code} {r : Evaluated Value} → Gives pool at c st st g n r
      → Settles pool at st last g n (instr op_set_global k 0 ∷ c) (and_then r (λ v h. Evaluated.on none (set h k (some v))))
  unfolding pass
  settles_let last k {c} a = settles_one last (instr op_set_global k 0) a (λ v h m e.
      let q : at + size_of c + 3 ≡ at + size_of (instr op_set_global k 0 ∷ c) = omega arith in
      Settles.bound refl (comes_run pool (at + size_of c) (instr op_set_global k 0) (frame (at + size_of c) (v ∷ st) h m) e refl ∙ (λ j. Run.on (frame (q j) st (set h k (some v)) (m + 1)))))

  -- a Return
  pub settles_return : (last : Option Value) {c : Code} {r : Evaluated Value} → Gives pool at c st st g n r → Settles pool at st last g n (plain op_return_value ∷ c) (and_then r (λ v h. Evaluated.returned h))
  unfolding pass
  settles_return last {c} a = settles_one last (plain op_return_value) a (λ v h m e. Settles.returned (comes_run pool (at + size_of c) (plain op_return_value) (frame (at + size_of c) (v ∷ st) h m) e refl))

  -- code behind code that the run came through
  extended : {last v : Option Value} {c d : Code} {h : Globals} {m : ℕ} {r : Evaluated (Option Value)} → ran_through pool at c st g n ≡ Run.on (frame (at + size_of c) st h m)
      → Settles pool at st last g n c (Evaluated.on v h) → Settles pool (at + size_of c) st v h m d r → Settles pool at st last g n (d ++ c) r
  extended {last} {v} {c} {h = h} {m = m} e a b = go b
    where
      through : (d : Code) {s : Run} → ran_through pool (at + size_of c) d st h m ≡ s → ran_through pool at (d ++ c) st g n ≡ s
      through d q = pass-append pool at d c (Run.on (frame at st g n)) ∙ ap (pass pool (at + size_of c) d) e ∙ q

      to : (d : Code) → at + size_of c + size_of d ≡ at + size_of (d ++ c)
      to d = let q = size_of-append d c in omega arith

      go : {d : Code} {r : Evaluated (Option Value)} → Settles pool (at + size_of c) st v h m d r → Settles pool at st last g n (d ++ c) r
      go Settles.nothing = a
      go (Settles.value {c = d} {v = w} {h = h'} {m = m'} p q) = Settles.value p (through d q ∙ (λ j. Run.on (frame (to d j) (w ∷ st) h' m')))
      go (Settles.bound {i} {c = d} {h = h'} {m = m'} p q) = Settles.bound p (through (i ∷ d) q ∙ (λ j. Run.on (frame (to (i ∷ d) j) st h' m')))
      go (Settles.returned {c = d} q) = Settles.returned (through d q)
      go (Settles.stopped {c = d} q) = Settles.stopped (through d q)

-- what Pop does
pop_acts : (i : Instr) → i.op ≡ op_pop → action_of i ≡ pop
pop_acts i e = ap (λ o. get_or actions o other) e

-- the run goes on
abbrev goes_on : Run → Bool
goes_on (Run.on f) = true
goes_on (Run.returned g n) = false
goes_on (Run.stopped k p) = false

-- a run that ended before or at a Pop ended before it
pop_ends : (pool : List Const) (p : ℕ) (i : Instr) (s : Run) {r : Run} → i.op ≡ op_pop → goes_on r ≡ false → come_to pool p i s ≡ r → s ≡ r
pop_ends pool p i (Run.on f) {r} h q e = let z : true ≡ false = sym (went (eqb f.at p)) ∙ ap goes_on e ∙ q in let y : ◌≡◌ {A = ℕ} 0 1 = cc in absurd (omega arith)
  where
    went : (b : Bool) → goes_on (pick b (execute pool i f) (Run.on f)) ≡ true
    went true = ap (λ a. goes_on (acted pool i.a (f.at + size i) f a)) (pop_acts i h)
    went false = refl
pop_ends pool p i (Run.returned g n) h q e = e
pop_ends pool p i (Run.stopped k m) h q e = e

-- a run that came through code, with other globals and more steps
pub record Through (pool : List Const) (at : ℕ) (c : Code) (st : List Value) (g : Globals) (n : ℕ) (h : Globals) : Type 0 where
  pub steps : ℕ
  pub ran : ran_through pool at c st g n ≡ Run.on (frame (at + size_of c) st h steps)

module _ {pool : List Const} {at : ℕ} {st : List Value} {g : Globals} {n : ℕ} where
  -- so did one whose statements have a value, or none
  pub through : {last v : Option Value} {c : Code} {h : Globals} → Settles pool at st last g n c (Evaluated.on v h) → Through pool at c st g n h
  unfolding pass
  through Settles.nothing = let q : at ≡ at + size_of [] = omega arith in record { steps = n; ran = λ j. Run.on (frame (q j) st g n) }
  through (Settles.value {i} {c} {v} {h} {m} p e) =
      let q : at + size_of c + size i ≡ at + size_of (i ∷ c) = omega arith in
      record {
        steps = m + 1;
        ran = comes_run pool (at + size_of c) i (frame (at + size_of c) (v ∷ st) h m) e refl
            ∙ (λ j. acted pool i.a (at + size_of c + size i) (frame (at + size_of c) (v ∷ st) h m) (pop_acts i p j))
            ∙ (λ j. Run.on (frame (q j) st h (m + 1)));
      }
  through (Settles.bound {m = m} p e) = record { steps = m; ran = e }

  -- statements behind one
  pub settles_then : {last : Option Value} {c : Code} {r : Evaluated (Option Value)} {k : Option Value → Globals → Evaluated (Option Value)} (d : Code) → Settles pool at st last g n c r
      → ((v : Option Value) (h : Globals) (m : ℕ) → Settles pool (at + size_of c) st v h m d (k v h)) → Settles pool at st last g n (d ++ c) (and_then r k)
  settles_then {r = Evaluated.on v h} d a f = let t = through a in extended t.ran a (f v h t.steps)
  settles_then {r = Evaluated.returned h} d (Settles.returned {c} {m = m} e) f =
      Settles.returned (pass-append pool at d c (Run.on (frame at st g n)) ∙ ap (pass pool (at + size_of c) d) e ∙ pass-returned pool (at + size_of c) d h m)
  settles_then {r = Evaluated.stopped k} d (Settles.stopped {c} {p = p} e) f =
      Settles.stopped (pass-append pool at d c (Run.on (frame at st g n)) ∙ ap (pass pool (at + size_of c) d) e ∙ pass-stopped pool (at + size_of c) d k p)

  -- a run that ended gives no value
  gives-returned : {c : Code} {h : Globals} {m : ℕ} → ran_through pool at c st g n ≡ Run.returned h m → Gives pool at c st st g n (Evaluated.returned h)
  gives-returned {c} {h} e = record { meets = subst (λ s. Meets (at + size_of c) st s (Evaluated.returned h)) (sym e) Meets.returned }

  -- nor one that stopped
  gives-stopped : {c : Code} {k : Reason} {p : ℕ} → ran_through pool at c st g n ≡ Run.stopped k p → Gives pool at c st st g n (Evaluated.stopped k)
  gives-stopped {c} {k} e = record { meets = subst (λ s. Meets (at + size_of c) st s (Evaluated.stopped k)) (sym e) Meets.stopped }

  -- a branch as it stays gives its value
  pub yields : {c d : Code} {r : Evaluated (Option Value)} → Yields c d → Settles pool at st none g n c r → Gives pool at d st st g n (and_then r branch_value)
  unfolding pass
  yields (Yields.popped h) (Settles.value {c = c} {v = v} {h = k} p e) = record { meets = subst (λ s. Meets (at + size_of c) st s (Evaluated.on v k)) (sym e) Meets.on }
  yields (Yields.popped {i} {c} h) (Settles.bound p e) = let z : op_pop ≡ op_set_global = sym h ∙ p in absurd (omega arith)
  yields (Yields.popped {i} {c} h) (Settles.returned e) = gives-returned (pop_ends pool (at + size_of c) i (ran_through pool at c st g n) h refl e)
  yields (Yields.popped {i} {c} h) (Settles.stopped e) = gives-stopped (pop_ends pool (at + size_of c) i (ran_through pool at c st g n) h refl e)
  yields (Yields.returned h) (Settles.value p e) = let z : op_return_value ≡ op_pop = sym h ∙ p in absurd (omega arith)
  yields (Yields.returned h) (Settles.bound p e) = let z : op_return_value ≡ op_set_global = sym h ∙ p in absurd (omega arith)
  yields (Yields.returned h) (Settles.returned e) = gives-returned e
  yields (Yields.returned h) (Settles.stopped e) = gives-stopped e
