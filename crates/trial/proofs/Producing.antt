-- The instructions that put a value, and those that do not: what the definition makes of each.
use Rattle.std.proofs.Common.{◌≡◌, ℕ, zero, suc, ◌+◌, ◌-◌, ◌<◌, ◌≤◌, Bool, true, false, T, List, ◌∷◌, get_or, set, sym, refl, ap, ◌∙◌, subst, arith}
use Rattle.std.specs.Prelude.{Option, None as none, Some as some, Ok, Err}
use Rattle.definition.specs.Basic.{pick}
use Rattle.definition.specs.Opcode.{instr, size}
use Rattle.definition.specs.Bytecode.{Const}
use Rattle.definition.specs.Effect.{taken, takes, gives, falls, flow_of}
use Rattle.trial.specs.Value.{Value, Infix, Prefix, truthy}
use Rattle.trial.specs.Run.{Action, actions, Frame, frame, Run, top, below, moved, given, acted, execute}
use Rattle.trial.specs.Cells.{Keeps, Stacked, kinds_at, stack_at, stack_kinds_at}
use Rattle.trial.specs.Machine.{InfixAt, PrefixAt, Produces, Runs, product, reason_of, KeptAt, went_on, goes_on, Framed, After}
use Rattle.trial.specs.declared.machine.State.{State}
use Rattle.std.specs.declared.ops.ControlFlow.TheVariants.{Break}
use Rattle.definition.specs.Number.{refusal}
use Rattle.trial.proofs.Memory.{below_kept, push_globals, push_stack, set-globals, set_stack}
use Rattle.definition.specs.declared.reason.Reason.{Reason}

-- an operator's action, and what it takes
pub infix_action : {n : ℕ} {o : Infix} → InfixAt n o → get_or actions n Action.other ≡ Action.combine o
infix_action InfixAt.add = refl
infix_action InfixAt.sub = refl
infix_action InfixAt.mul = refl
infix_action InfixAt.div = refl
infix_action InfixAt.equals = refl
infix_action InfixAt.differs = refl
infix_action InfixAt.greater = refl

pub infix_two : {n : ℕ} {o : Infix} → InfixAt n o → get_or taken n 0 ≡ 2
infix_two InfixAt.add = refl
infix_two InfixAt.sub = refl
infix_two InfixAt.mul = refl
infix_two InfixAt.div = refl
infix_two InfixAt.equals = refl
infix_two InfixAt.differs = refl
infix_two InfixAt.greater = refl

-- what is known of an instruction that puts a value
pub record Known (n : ℕ) : Type 0 where
  pub takes_is : (a b : ℕ) → takes (instr n a b) ≡ get_or taken n 0
  pub gives_is : (a b : ℕ) → gives (instr n a b) ≡ 1
  pub falls_is : (a b : ℕ) → T (falls (flow_of (instr n a b)))

infix_known : {n : ℕ} {o : Infix} → InfixAt n o → Known n
infix_known InfixAt.add = record { takes_is = λ a b. refl; gives_is = λ a b. refl; falls_is = λ a b. tt }
infix_known InfixAt.sub = record { takes_is = λ a b. refl; gives_is = λ a b. refl; falls_is = λ a b. tt }
infix_known InfixAt.mul = record { takes_is = λ a b. refl; gives_is = λ a b. refl; falls_is = λ a b. tt }
infix_known InfixAt.div = record { takes_is = λ a b. refl; gives_is = λ a b. refl; falls_is = λ a b. tt }
infix_known InfixAt.equals = record { takes_is = λ a b. refl; gives_is = λ a b. refl; falls_is = λ a b. tt }
infix_known InfixAt.differs = record { takes_is = λ a b. refl; gives_is = λ a b. refl; falls_is = λ a b. tt }
infix_known InfixAt.greater = record { takes_is = λ a b. refl; gives_is = λ a b. refl; falls_is = λ a b. tt }

prefix_known : {n : ℕ} {o : Prefix} → PrefixAt n o → Known n
prefix_known PrefixAt.minus = record { takes_is = λ a b. refl; gives_is = λ a b. refl; falls_is = λ a b. tt }
prefix_known PrefixAt.bang = record { takes_is = λ a b. refl; gives_is = λ a b. refl; falls_is = λ a b. tt }

pub known : {n : ℕ} → Produces n → Known n
known Produces.constant = record { takes_is = λ a b. refl; gives_is = λ a b. refl; falls_is = λ a b. tt }
known Produces.yes = record { takes_is = λ a b. refl; gives_is = λ a b. refl; falls_is = λ a b. tt }
known Produces.no = record { takes_is = λ a b. refl; gives_is = λ a b. refl; falls_is = λ a b. tt }
known Produces.null = record { takes_is = λ a b. refl; gives_is = λ a b. refl; falls_is = λ a b. tt }
known Produces.get_global = record { takes_is = λ a b. refl; gives_is = λ a b. refl; falls_is = λ a b. tt }
known (Produces.prefixed p) = prefix_known p
known (Produces.infixed i) = infix_known i

-- it is below the last instruction
pub produces_small : {n : ℕ} → Produces n → n < 30
produces_small Produces.constant = omega arith
produces_small Produces.yes = omega arith
produces_small Produces.no = omega arith
produces_small Produces.null = omega arith
produces_small Produces.get_global = omega arith
produces_small (Produces.prefixed PrefixAt.minus) = omega arith
produces_small (Produces.prefixed PrefixAt.bang) = omega arith
produces_small (Produces.infixed InfixAt.add) = omega arith
produces_small (Produces.infixed InfixAt.sub) = omega arith
produces_small (Produces.infixed InfixAt.mul) = omega arith
produces_small (Produces.infixed InfixAt.div) = omega arith
produces_small (Produces.infixed InfixAt.equals) = omega arith
produces_small (Produces.infixed InfixAt.differs) = omega arith
produces_small (Produces.infixed InfixAt.greater) = omega arith

-- by the tests before it: an operator takes a value
pub data Operator (n : ℕ) : Type 0 where
  prefixed : {o : Prefix} → PrefixAt n o → Operator n
  infixed : {o : Infix} → InfixAt n o → Operator n

pub operator : {n : ℕ} → Produces n → (n ≡ 0x00 → ⊥) → (n ≡ 0x10 → ⊥) → (n ≡ 0x06 → ⊥) → (n ≡ 0x07 → ⊥) → (n ≡ 0x0F → ⊥) → Operator n
operator Produces.constant a b c d e = absurd (a refl)
operator Produces.yes a b c d e = absurd (c refl)
operator Produces.no a b c d e = absurd (d refl)
operator Produces.null a b c d e = absurd (e refl)
operator Produces.get_global a b c d e = absurd (b refl)
operator (Produces.prefixed p) a b c d e = Operator.prefixed p
operator (Produces.infixed i) a b c d e = Operator.infixed i

pub takes_one : {n : ℕ} → Operator n → 1 ≤ get_or taken n 0
takes_one (Operator.prefixed PrefixAt.minus) = omega arith
takes_one (Operator.prefixed PrefixAt.bang) = omega arith
takes_one (Operator.infixed i) = let e = infix_two i in omega arith

pub infix_left : {n : ℕ} → Operator n → (n ≡ 0x0B → ⊥) → (n ≡ 0x0C → ⊥) → (o : Infix) × InfixAt n o
infix_left (Operator.prefixed PrefixAt.minus) a b = absurd (a refl)
infix_left (Operator.prefixed PrefixAt.bang) a b = absurd (b refl)
infix_left (Operator.infixed {o} i) a b = (o, i)

-- what is left of a stack
abbrev dropped : ℕ → List Value → List Value
dropped zero st = st
dropped (suc n) st = below (dropped n st)

dropped_kept : (t : ℕ) {w : List ℕ} {n : ℕ} {st : List Value} → Stacked w n st → t ≤ n → Stacked w (n - t) (dropped t st)
dropped_kept zero {w} {n} {st} s h = subst (λ m. Stacked w m st) (omega arith) s
dropped_kept (suc t) {w} {n} {st} s h = subst (λ m. Stacked w m (below (dropped t st))) (omega arith) (below_kept (dropped_kept t s (omega arith)) (omega arith))

-- the action of an instruction that puts a value
module _ (cs : List Const) (k to : ℕ) (f : Frame) where
  infix_acts : {n : ℕ} {o : Infix} → InfixAt n o → acted cs k to f (get_or actions n Action.other) ≡ given f to (reason_of n) (dropped (get_or taken n 0) f.stack) (product cs k f.stack f.globals (get_or actions n Action.other))
  infix_acts InfixAt.add = refl
  infix_acts InfixAt.sub = refl
  infix_acts InfixAt.mul = refl
  infix_acts InfixAt.div = refl
  infix_acts InfixAt.equals = refl
  infix_acts InfixAt.differs = refl
  infix_acts InfixAt.greater = refl

  acts : {n : ℕ} → Produces n → acted cs k to f (get_or actions n Action.other) ≡ given f to (reason_of n) (dropped (get_or taken n 0) f.stack) (product cs k f.stack f.globals (get_or actions n Action.other))
  acts Produces.constant = refl
  acts Produces.yes = refl
  acts Produces.no = refl
  acts Produces.null = refl
  acts Produces.get_global = refl
  acts (Produces.prefixed PrefixAt.minus) = refl
  acts (Produces.prefixed PrefixAt.bang) = refl
  acts (Produces.infixed i) = infix_acts i

-- no value, or one
given_none : {w : List ℕ} {s : State} (f : Frame) (to : ℕ) (n : Reason) (st : List Value) {o : Option Value} → o ≡ none → After w s f.at (Err (refusal n (3 + f.at))) (given f to n st o)
given_none {w} {s} f to n st e = subst (λ o. After w s f.at (Err (refusal n (3 + f.at))) (given f to n st o)) (sym e) After.stopped

given_some : {w : List ℕ} {s : State} (f : Frame) (to : ℕ) (n : Reason) (st : List Value) {o : Option Value} {x : Value} → o ≡ some x → After w s f.at went_on (moved f to (x ∷ st) f.globals) → After w s f.at went_on (given f to n st o)
given_some {w} {s} f to n st e h = subst (λ o. After w s f.at went_on (given f to n st o)) (sym e) h

-- an instruction that puts a value, or stops
module _ {n : ℕ} (p : Produces n) (a b : ℕ) (cs : List Const) (f : Frame) {w : List ℕ} {s : State} (h : Framed w s f) {o : Option Value} (k : o ≡ product cs a f.stack f.globals (get_or actions n Action.other)) where
  pub produce_stops : {r : Reason} → r ≡ reason_of n → o ≡ none → After w s f.at (Err (refusal r s.next)) (execute cs (instr n a b) f)
  produce_stops {r} e z =
      let q : refusal r s.next ≡ refusal (reason_of n) (3 + f.at) = λ j. refusal (e j) (h.stands j) in
      subst (λ q. After w s f.at (Err q) (execute cs (instr n a b) f)) (sym q)
      (subst (After w s f.at (Err (refusal (reason_of n) (3 + f.at)))) (sym (acts cs a (f.at + size (instr n a b)) f p)) (given_none f _ _ _ (sym k ∙ z)))

  pub produce_goes_on : {left next : ℕ} {w₁ : List ℕ} {x : Value} → next ≡ 3 + (f.at + size (instr n a b)) → left + takes (instr n a b) ≡ s.height → left < 1024 → o ≡ some x
      → KeptAt w (stack_at + left) x w₁ → After w₁ (goes_on next (left + 1) (s.steps + 1)) f.at went_on (execute cs (instr n a b) f)
  produce_goes_on {left} {next} {w₁} {x} e q l z u =
      let t = (known p).takes_is a b in
      let d : Stacked w left (dropped (get_or taken n 0) f.stack) = subst (λ m. Stacked w m (dropped (get_or taken n 0) f.stack)) (omega arith) (dropped_kept (get_or taken n 0) h.stack (omega arith)) in
      let i : kinds_at + (stack_at + left) ≡ stack_kinds_at + left = omega arith in
      subst (λ w₁. After w₁ (goes_on next (left + 1) (s.steps + 1)) f.at went_on (execute cs (instr n a b) f)) (sym (u.is ∙ ap (λ j. set (set w (stack_at + left) u.word) j u.kind) i))
      (subst (After (set (set w (stack_at + left) u.word) (stack_kinds_at + left) u.kind) (goes_on next (left + 1) (s.steps + 1)) f.at went_on) (sym (acts cs a (f.at + size (instr n a b)) f p))
      (given_some f _ _ _ (sym k ∙ z) (
      After.on {f = frame (f.at + size (instr n a b)) (x ∷ dropped (get_or taken n 0) f.stack) f.globals (f.steps + 1)}
      (record { stands = e; stack = push_stack w f.globals h.globals l u.kind u.word d u.keeps; globals = push_globals w f.globals h.globals l u.kind u.word; steps = ap (λ k. k + 1) h.steps }))))

-- the other instructions
module _ (cs : List Const) (n a b : ℕ) (f : Frame) {w : List ℕ} {s : State} (h : Framed w s f) where
  pub return_after : n ≡ 0x16 → After w s f.at (Ok (Break (s.steps + 1))) (execute cs (instr n a b) f)
  return_after e = subst (λ n. After w s f.at (Ok (Break (s.steps + 1))) (execute cs (instr n a b) f)) (sym e) (subst (λ k. After w s f.at (Ok (Break (k + 1))) (Run.returned f.globals (f.steps + 1))) (sym h.steps) (After.returned h.globals))

  pub jump_after : n ≡ 0x0E → After w (goes_on (3 + a) s.height (s.steps + 1)) f.at went_on (execute cs (instr n a b) f)
  jump_after e = subst (λ n. After w (goes_on (3 + a) s.height (s.steps + 1)) f.at went_on (execute cs (instr n a b) f)) (sym e)
      (After.on {f = frame a f.stack f.globals (f.steps + 1)} (record { stands = refl; stack = h.stack; globals = h.globals; steps = ap (λ k. k + 1) h.steps }))

  -- where one value is taken
  module _ (l : 1 ≤ s.height) where
    dropped_one : (to next : ℕ) → next ≡ 3 + to → After w (goes_on next (s.height - 1) (s.steps + 1)) f.at went_on (moved f to (below f.stack) f.globals)
    dropped_one to next e = After.on {f = frame to (below f.stack) f.globals (f.steps + 1)} (record { stands = e; stack = below_kept h.stack l; globals = h.globals; steps = ap (λ k. k + 1) h.steps })

    pub pop_after : {next : ℕ} → n ≡ 0x02 → next ≡ 3 + (f.at + size (instr n a b)) → After w (goes_on next (s.height - 1) (s.steps + 1)) f.at went_on (execute cs (instr n a b) f)
    pop_after {next} e q =
        subst (λ n. After w (goes_on next (s.height - 1) (s.steps + 1)) f.at went_on (execute cs (instr n a b) f)) (sym e) (dropped_one (f.at + size (instr 0x02 a b)) next (q ∙ ap (λ n. 3 + (f.at + size (instr n a b))) e))

    pub set_after : {next : ℕ} {w₁ : List ℕ} {x : Value} → n ≡ 0x11 → next ≡ 3 + (f.at + size (instr n a b)) → a < 1024 → x ≡ top f.stack → KeptAt w a x w₁
        → After w₁ (goes_on next (s.height - 1) (s.steps + 1)) f.at went_on (execute cs (instr n a b) f)
    set_after {next} {w₁} {x} e q m i u =
        subst (λ n. After w₁ (goes_on next (s.height - 1) (s.steps + 1)) f.at went_on (execute cs (instr n a b) f)) (sym e)
        (subst (λ w₁. After w₁ (goes_on next (s.height - 1) (s.steps + 1)) f.at went_on (execute cs (instr 0x11 a b) f)) (sym u.is)
        (After.on {f = frame (f.at + size (instr 0x11 a b)) (below f.stack) (set f.globals a (some (top f.stack))) (f.steps + 1)}
        (record {
          stands = q ∙ ap (λ n. 3 + (f.at + size (instr n a b))) e;
          stack = set_stack w f.globals h.globals m u.kind u.word (below_kept h.stack l);
          globals = set-globals w f.globals h.globals m u.kind u.word (subst (λ x. Keeps u.kind u.word (some x)) i u.keeps);
          steps = ap (λ k. k + 1) h.steps;
        })))

    -- a condition, by what was answered of it
    branch : (r : Bool) → r ≡ truthy (top f.stack) → (next : ℕ) → next ≡ 3 + pick r (f.at + size (instr 0x0D a b)) a → After w (goes_on next (s.height - 1) (s.steps + 1)) f.at went_on (execute cs (instr 0x0D a b) f)
    branch r e next q = dropped_one (pick (truthy (top f.stack)) (f.at + size (instr 0x0D a b)) a) next (q ∙ ap (λ r. 3 + pick r (f.at + size (instr 0x0D a b)) a) e)

    pub branch_true : {next : ℕ} {r : Bool} → n ≡ 0x0D → next ≡ 3 + (f.at + size (instr n a b)) → r ≡ truthy (top f.stack) → r ≡ true
        → After w (goes_on next (s.height - 1) (s.steps + 1)) f.at went_on (execute cs (instr n a b) f)
    branch_true {next} {r} e q t z =
        subst (λ n. After w (goes_on next (s.height - 1) (s.steps + 1)) f.at went_on (execute cs (instr n a b) f)) (sym e)
        (branch true (sym z ∙ t) next (q ∙ ap (λ n. 3 + (f.at + size (instr n a b))) e))

    pub branch_false : {r : Bool} → n ≡ 0x0D → r ≡ truthy (top f.stack) → r ≡ false
        → After w (goes_on (3 + a) (s.height - 1) (s.steps + 1)) f.at went_on (execute cs (instr n a b) f)
    branch_false {r} e t z =
        subst (λ n. After w (goes_on (3 + a) (s.height - 1) (s.steps + 1)) f.at went_on (execute cs (instr n a b) f)) (sym e) (branch false (sym z ∙ t) (3 + a) refl)

-- what is taken where nothing is put
pub pop_takes : (n a b : ℕ) → n ≡ 0x02 → takes (instr n a b) ≡ 1
pop_takes n a b e = ap (λ n. takes (instr n a b)) e

pub set-takes : (n a b : ℕ) → n ≡ 0x11 → takes (instr n a b) ≡ 1
set-takes n a b e = ap (λ n. takes (instr n a b)) e

pub branch-takes : (n a b : ℕ) → n ≡ 0x0D → takes (instr n a b) ≡ 1
branch-takes n a b e = ap (λ n. takes (instr n a b)) e

-- the last instructions put a value
pub runs_left : {n : ℕ} → Runs n → (n ≡ 0x16 → ⊥) → (n ≡ 0x0E → ⊥) → (n ≡ 0x02 → ⊥) → (n ≡ 0x11 → ⊥) → (n ≡ 0x0D → ⊥) → Produces n
runs_left Runs.pop a b c d e = absurd (c refl)
runs_left Runs.jump_not_truthy a b c d e = absurd (e refl)
runs_left Runs.jump a b c d e = absurd (b refl)
runs_left Runs.set_global a b c d e = absurd (d refl)
runs_left Runs.return_value a b c d e = absurd (a refl)
runs_left (Runs.produces p) a b c d e = p
