-- The pass over code is the machine that goes from instruction to instruction: what it executes, it executes where it stands; and where jumps
-- go forward, it ends behind the code.
use Rattle.std.proofs.Common.{◌≡◌, ℕ, ◌+◌, ◌<◌, ◌≤◌, eqb, List, [], ◌∷◌, get_or, sym, refl, subst, arith, eqb-true}
use Rattle.std.specs.Prelude.{Option, None as none, Some as some}
use borrow.Author.Tests.{eqb-false}
use Rattle.definition.specs.Opcode.{Instr, size}
use Rattle.definition.specs.Bytecode.{Code, size_of, Const}
use Rattle.definition.specs.Trusted.{Stands, constant_at}
use Rattle.trial.specs.Value.{Value, Globals, truthy, combined, changed}
use Rattle.trial.specs.Run.{Action, push, combine, change, constant, pop, jump_not_truthy, jump, get_global, set_global, return_value, other, action_of, integer_in, Frame, Run, top, below, given, acted, execute, come_to, pass, Executes}
use Rattle.definition.proofs.Basic.{chosen}
use Rattle.definition.specs.declared.reason.Reason.{Reason}

-- one step more
executes_more : {pool : List Const} {c : Code} {s : Run} {f : Frame} {i : Instr} → Executes pool c s (Run.on f) → Stands i f.at c → Executes pool c s (execute pool i f)
executes_more Executes.rest h = Executes.step h Executes.rest
executes_more (Executes.step k a) h = Executes.step k (executes_more a h)

-- a pass over the first part of a chunk
pub pass-part : (pool : List Const) (whole c : Code) → ((i : Instr) (p : ℕ) → Stands i p c → Stands i p whole) → (s : Run) → Executes pool whole s (pass pool 0 c s)
unfolding pass
pass-part pool whole [] f s = Executes.rest
pass-part pool whole (i ∷ c) f s = come (pass pool 0 c s) (pass-part pool whole c (λ j p h. f j p (Stands.before h)) s)
  where
    come : (t : Run) → Executes pool whole s t → Executes pool whole s (come_to pool (0 + size_of c) i t)
    come (Run.on k) a =
        chosen (Executes pool whole s) (eqb k.at (0 + size_of c))
        (λ e. executes_more a (f i k.at (let q = eqb-true k.at (0 + size_of c) e in let z : size_of c ≡ k.at = omega arith in subst (λ p. Stands i p (i ∷ c)) z Stands.last))) (λ _. a)
    come (Run.returned g n) a = a
    come (Run.stopped k p) a = a

-- a pass is a run of the machine
pub pass_executes : (pool : List Const) (c : Code) (s : Run) → Executes pool c s (pass pool 0 c s)
pass_executes pool c s = pass-part pool c c (λ _ _ h. h) s

-- Its end

-- a jump goes to its own end or further
abbrev pub Onward : ℕ → Instr → Action → Type 0
Onward p i (push v) = Unit {0}
Onward p i (combine o) = Unit {0}
Onward p i (change o) = Unit {0}
Onward p i constant = Unit {0}
Onward p i pop = Unit {0}
Onward p i jump_not_truthy = p + size i ≤ i.a
Onward p i jump = p + size i ≤ i.a
Onward p i get_global = Unit {0}
Onward p i set_global = Unit {0}
Onward p i return_value = Unit {0}
Onward p i other = Unit {0}

-- a run stands at a position or behind it, or has ended
data Past (p : ℕ) : Run → Type 0 where
  on : {f : Frame} → p ≤ f.at → Past p (Run.on f)
  returned : {g : Globals} {n : ℕ} → Past p (Run.returned g n)
  stopped : {k : Reason} {q : ℕ} → Past p (Run.stopped k q)

-- behind a value, or a stop
given_past : {p : ℕ} (f : Frame) (to : ℕ) (k : Reason) (st : List Value) (o : Option Value) → p ≤ to → Past p (given f to k st o)
given_past f to k st (some v) h = Past.on h
given_past f to k st none h = Past.stopped

-- so it does behind an instruction
acted_past : (pool : List Const) (i : Instr) (f : Frame) (a : Action) → Onward f.at i a → Past (f.at + size i) (acted pool i.a (f.at + size i) f a)
acted_past pool i f a h = go a h (omega arith)
  where
    go : (a : Action) → Onward f.at i a → f.at + size i ≤ f.at + size i → Past (f.at + size i) (acted pool i.a (f.at + size i) f a)
    go (push v) h l = Past.on l
    go (combine o) h l = given_past f _ _ _ (combined o (top (below f.stack)) (top f.stack)) l
    go (change o) h l = given_past f _ _ _ (changed o (top f.stack)) l
    go constant h l = given_past f _ _ _ (integer_in (constant_at pool i.a)) l
    go pop h l = Past.on l
    go jump_not_truthy h l = Past.on (chosen (λ t. f.at + size i ≤ t) (truthy (top f.stack)) (λ _. l) (λ _. h))
    go jump h l = Past.on h
    go get_global h l = given_past f _ _ _ (get_or f.globals i.a none) l
    go set_global h l = Past.on l
    go return_value h l = Past.returned
    go other h l = Past.stopped

-- no instruction of the code is left to execute
pub data Rests (c : Code) : Run → Type 0 where
  on : {f : Frame} → ((j : Instr) → Stands j f.at c → ⊥) → Rests c (Run.on f)
  returned : {g : Globals} {n : ℕ} → Rests c (Run.returned g n)
  stopped : {k : Reason} {q : ℕ} → Rests c (Run.stopped k q)

-- an instruction stands before the code's end
stands_before : {j : Instr} {c : Code} {q : ℕ} → Stands j q c → q < size_of c
stands_before (Stands.last {c}) = omega arith
stands_before (Stands.before s) = let l = stands_before s in omega arith

-- behind the code nothing is left
past_rests : {c : Code} {s : Run} → Past (size_of c) s → Rests c s
past_rests (Past.on {f} h) = Rests.on {f = f} (λ j k. let l = stands_before k in omega arith)
past_rests Past.returned = Rests.returned
past_rests Past.stopped = Rests.stopped

-- where jumps go forward, nothing is left behind a pass
pub pass_rests : (pool : List Const) (c : Code) → ((i : Instr) (p : ℕ) → Stands i p c → Onward p i (action_of i)) → (s : Run) → Rests c (pass pool 0 c s)
unfolding pass
pass_rests pool [] f (Run.on k) = Rests.on {f = k} (λ j h. let l = stands_before h in omega arith)
pass_rests pool [] f (Run.returned g n) = Rests.returned
pass_rests pool [] f (Run.stopped k p) = Rests.stopped
pass_rests pool (i ∷ c) f s = come (pass_rests pool c (λ j p h. f j p (Stands.before h)) s)
  where
    elsewhere : {q p : ℕ} {j : Instr} → Stands j q (i ∷ c) → q ≡ p → (p ≡ size_of c → ⊥) → ((j : Instr) → Stands j p c → ⊥) → ⊥
    elsewhere Stands.last e n h = n (sym e)
    elsewhere {j = j} (Stands.before k) e n h = h j (subst (λ x. Stands j x c) e k)

    come : {t : Run} → Rests c t → Rests (i ∷ c) (come_to pool (0 + size_of c) i t)
    come (Rests.on {f = k} h) =
        chosen (Rests (i ∷ c)) (eqb k.at (0 + size_of c))
        (λ e.
        let q = eqb-true k.at (0 + size_of c) e in
        let z : size_of c ≡ k.at = omega arith in
        past_rests (subst (λ p. Past p (execute pool i k)) (let y : k.at + size i ≡ size_of (i ∷ c) = omega arith in y) (acted_past pool i k (action_of i) (subst (λ p. Onward p i (action_of i)) z (f i (size_of c) Stands.last)))))
        (λ e. Rests.on (λ j l. elsewhere l refl (λ y. eqb-false k.at (0 + size_of c) e (omega arith)) h))
    come Rests.returned = Rests.returned
    come Rests.stopped = Rests.stopped
