-- A pass over code: piece by piece, past what a jump left out, and no more steps than instructions.
use Rattle.std.proofs.Common.{◌≡◌, ℕ, ◌+◌, ◌≤◌, eqb, List, [], ◌∷◌, ◌++◌, length, get_or, refl, ap, ◌∙◌, subst, arith, eq-eqb, ne_eqb}
use Rattle.std.specs.Prelude.{Option, None as none, Some as some}
use Rattle.definition.specs.Opcode.{Instr, instr, op_jump_not_truthy, op_jump}
use Rattle.definition.specs.Bytecode.{Code, size_of, Const, Image}
use Rattle.definition.specs.Trusted.{constant_at}
use Rattle.trial.specs.Value.{Value, Globals, combined, changed}
use Rattle.trial.specs.Run.{Action, push, combine, change, constant, pop, jump_not_truthy, jump, get_global, set_global, return_value, other, action_of, integer_in, Frame, frame, Run, top, below, given, acted, execute, come_to, pass, Trial, trial_of, trial, unset_globals}
use Rattle.definition.proofs.Basic.{chosen, pick_true, pick_false}
use Rattle.definition.proofs.Emits.{size_of-append}
use Rattle.definition.proofs.Account.{after_jump, if_code}
use Rattle.definition.specs.declared.reason.Reason.{Reason}

module _ (pool : List Const) where
  -- the instruction that the run stands before
  pub comes : (p : ℕ) (i : Instr) (f : Frame) → f.at ≡ p → come_to pool p i (Run.on f) ≡ execute pool i f
  comes p i f e = pick_true (execute pool i f) (Run.on f) (eq-eqb f.at p e)

  -- by the run's equation
  pub comes_run : (p : ℕ) (i : Instr) (f : Frame) {s : Run} → s ≡ Run.on f → f.at ≡ p → come_to pool p i s ≡ execute pool i f
  comes_run p i f e h = ap (come_to pool p i) e ∙ comes p i f h

  -- any other
  pub leaves_out : (p : ℕ) (i : Instr) (f : Frame) → (f.at ≡ p → ⊥) → come_to pool p i (Run.on f) ≡ Run.on f
  leaves_out p i f e = pick_false (execute pool i f) (Run.on f) (ne_eqb f.at p e)

  -- one piece of code after another
  pub pass-append : (at : ℕ) (d c : Code) (s : Run) → pass pool at (d ++ c) s ≡ pass pool (at + size_of c) d (pass pool at c s)
  unfolding pass
  pass-append at [] c s = refl
  pass-append at (i ∷ d) c s =
      let e : at + size_of (d ++ c) ≡ at + size_of c + size_of d = (let q = size_of-append d c in omega arith) in
      λ j. come_to pool (e j) i (pass-append at d c s j)

  -- a run that ended stays as it is
  pub pass-returned : (at : ℕ) (c : Code) (g : Globals) (n : ℕ) → pass pool at c (Run.returned g n) ≡ Run.returned g n
  unfolding pass
  pass-returned at [] g n = refl
  pass-returned at (i ∷ c) g n = ap (come_to pool (at + size_of c) i) (pass-returned at c g n)

  -- so does one that stopped
  pub pass-stopped : (at : ℕ) (c : Code) (k : Reason) (p : ℕ) → pass pool at c (Run.stopped k p) ≡ Run.stopped k p
  unfolding pass
  pass-stopped at [] k p = refl
  pass-stopped at (i ∷ c) k p = ap (come_to pool (at + size_of c) i) (pass-stopped at c k p)

  -- a run that stands behind the code passes over it
  pub pass-over : (at : ℕ) (c : Code) (f : Frame) → at + size_of c ≤ f.at → pass pool at c (Run.on f) ≡ Run.on f
  unfolding pass
  pass-over at [] f h = refl
  pass-over at (i ∷ c) f h = ap (come_to pool (at + size_of c) i) (pass-over at c f (omega arith)) ∙ leaves_out (at + size_of c) i f (λ e. omega arith)

  -- a condition, its jump, a branch, its jump, the other branch
  pub pass_if : (at : ℕ) (c t e : Code) (s : Run)
      → pass pool at (if_code at c t e) s
      ≡ pass pool (after_jump (after_jump at c) t) e (come_to pool (after_jump at c + size_of t) (instr op_jump (after_jump (after_jump at c) t + size_of e) 0)
      (pass pool (after_jump at c) t (come_to pool (at + size_of c) (instr op_jump_not_truthy (after_jump (after_jump at c) t) 0) (pass pool at c s))))
  unfolding pass
  pass_if at c t e s =
      let i = instr op_jump_not_truthy (after_jump (after_jump at c) t) 0 in
      let k = instr op_jump (after_jump (after_jump at c) t + size_of e) 0 in
      let q = size_of-append t (i ∷ c) in
      let e₁ : at + size_of (i ∷ c) ≡ after_jump at c = omega arith in
      let e₂ : at + size_of (t ++ i ∷ c) ≡ after_jump at c + size_of t = omega arith in
      let e₃ : at + size_of (k ∷ (t ++ i ∷ c)) ≡ after_jump (after_jump at c) t = omega arith in
      pass-append at e (k ∷ (t ++ i ∷ c)) s
      ∙ (λ j. pass pool (e₃ j) e (come_to pool (e₂ j) k (pass-append at t (i ∷ c) s j)))
      ∙ (λ j. pass pool (after_jump (after_jump at c) t) e (come_to pool (after_jump at c + size_of t) k (pass pool (e₁ j) t (pass pool at (i ∷ c) s))))

-- Steps

-- at most so many steps
pub data Within (k : ℕ) : Run → Type 0 where
  on : {f : Frame} → f.steps ≤ k → Within k (Run.on f)
  returned : {g : Globals} {n : ℕ} → n ≤ k → Within k (Run.returned g n)
  stopped : {m : Reason} {p : ℕ} → Within k (Run.stopped m p)

-- an instruction is one
given_within : {k : ℕ} (f : Frame) (to : ℕ) (m : Reason) (st : List Value) (o : Option Value) → f.steps + 1 ≤ k → Within k (given f to m st o)
given_within f to m st (some v) h = Within.on h
given_within f to m st none h = Within.stopped

-- an instruction's action
acted_within : {k : ℕ} (pool : List Const) (a next : ℕ) (f : Frame) (x : Action) → f.steps + 1 ≤ k → Within k (acted pool a next f x)
acted_within pool a next f (push v) h = Within.on h
acted_within pool a next f (combine o) h = given_within f _ _ _ (combined o (top (below f.stack)) (top f.stack)) h
acted_within pool a next f (change o) h = given_within f _ _ _ (changed o (top f.stack)) h
acted_within pool a next f constant h = given_within f _ _ _ (integer_in (constant_at pool a)) h
acted_within pool a next f pop h = Within.on h
acted_within pool a next f jump_not_truthy h = Within.on h
acted_within pool a next f jump h = Within.on h
acted_within pool a next f get_global h = given_within f _ _ _ (get_or f.globals a none) h
acted_within pool a next f set_global h = Within.on h
acted_within pool a next f return_value h = Within.returned h
acted_within pool a next f other h = Within.stopped

-- an instruction that a run comes to
come_within : {k m : ℕ} (pool : List Const) (p : ℕ) (i : Instr) {s : Run} → k + 1 ≤ m → Within k s → Within m (come_to pool p i s)
come_within {m = m} pool p i l (Within.on {f} h) = chosen (Within m) (eqb f.at p) (λ _. acted_within pool i.a _ f (action_of i) (omega arith)) (λ _. Within.on (omega arith))
come_within pool p i l (Within.returned {n = n} h) = Within.returned {n = n} (omega arith)
come_within pool p i l Within.stopped = Within.stopped

-- a pass takes at most one step for each instruction
pub pass_within : {k : ℕ} (pool : List Const) (at : ℕ) (c : Code) {s : Run} → Within k s → Within (k + length c) (pass pool at c s)
unfolding pass
pass_within {k} pool at [] {s} h = subst (λ m. Within m s) (omega arith) h
pass_within pool at (i ∷ c) h = come_within pool (at + size_of c) i (omega arith) (pass_within pool at c h)

-- so does a trial run
pub trial-steps : (m : Image) {g : Globals} {n : ℕ} → trial m ≡ Trial.ran g n → n ≤ length m.code
trial-steps m {g} {n} e = let l = go (pass_within {k = 0} m.pool 0 m.code (Within.on {f = frame 0 [] unset_globals 0} (omega arith))) e in omega arith
  where
    go : {k : ℕ} {s : Run} → Within k s → trial_of s ≡ Trial.ran g n → n ≤ k
    go (Within.on {f} h) e = let q : f.steps ≡ n = cc in omega arith
    go (Within.returned {n = m} h) e = let q : m ≡ n = cc in omega arith
    go Within.stopped e = let z : ◌≡◌ {A = ℕ} 0 1 = cc in absurd (omega arith)
