-- The stack of a trial run has the height that P9 gives to the instruction that it stands before: where P9 finds that each has enough, none finds too little.
use Rattle.std.proofs.Common.{◌≡◌, ℕ, zero, suc, ◌+◌, ◌≤◌, T, List, [], ◌∷◌, length, get_or, sym, refl, ◌∙◌, subst, arith}
use Rattle.std.specs.Prelude.{Option, None as none, Some as some}
use Rattle.definition.specs.Opcode.{Instr, size}
use Rattle.definition.specs.Bytecode.{Code, Const}
use Rattle.definition.specs.Trusted.{Stands, constant_at}
use Rattle.definition.specs.Effect.{Besides, nothing, taken, taken_besides, Flow, next, target, either, stops, flows, takes, gives, flow_of, falls, leaps}
use Rattle.definition.specs.Effect as Effect
use Rattle.trial.specs.Value.{Value, Globals, Infix, Prefix, truthy, combined, changed}
use Rattle.trial.specs.Run.{Action, actions, integer_in, Frame, frame, Run, top, below, given, acted, execute, pass, Executes}
use Rattle.definition.proofs.Basic.{chosen}
use Rattle.heights.specs.Judgement.{Reaches}
use Rattle.trial.proofs.Executes.{pass-part}
use Rattle.definition.specs.declared.reason.Reason.{Reason}

-- an action takes and gives what P9's tables say, and goes on xs they say
data Row : Action → ℕ → Besides → ℕ → Flow → Type 0 where
  push : {v : Value} → Row (Action.push v) 0 nothing 1 next
  combine : {o : Infix} → Row (Action.combine o) 2 nothing 1 next
  change : {o : Prefix} → Row (Action.change o) 1 nothing 1 next
  constant : Row Action.constant 0 nothing 1 next
  pop : Row Action.pop 1 nothing 0 next
  jump_not_truthy : Row Action.jump_not_truthy 1 nothing 0 either
  jump : Row Action.jump 0 nothing 0 target
  get_global : Row Action.get_global 0 nothing 1 next
  set_global : Row Action.set_global 1 nothing 0 next
  return_value : Row Action.return_value 1 nothing 0 stops
  other : {t : ℕ} {b : Besides} {g : ℕ} {f : Flow} → Row Action.other t b g f

-- the tables, row by row
data Rows : List Action → List ℕ → List Besides → List ℕ → List Flow → Type 0 where
  end : {ts : List ℕ} {bs : List Besides} {gs : List ℕ} {fs : List Flow} → Rows [] ts bs gs fs
  row : {a : Action} {t : ℕ} {b : Besides} {g : ℕ} {f : Flow} {xs : List Action} {ts : List ℕ} {bs : List Besides} {gs : List ℕ} {fs : List Flow} → Row a t b g f → Rows xs ts bs gs fs
      → Rows (a ∷ xs) (t ∷ ts) (b ∷ bs) (g ∷ gs) (f ∷ fs)

-- the rows of all actions
rows : Rows actions taken taken_besides Effect.given flows
rows =
    Rows.row Row.constant (Rows.row Row.combine (Rows.row Row.pop (Rows.row Row.combine (Rows.row Row.combine (Rows.row Row.combine (Rows.row Row.push (Rows.row Row.push
    (Rows.row Row.combine (Rows.row Row.combine (Rows.row Row.combine (Rows.row Row.change (Rows.row Row.change (Rows.row Row.jump_not_truthy (Rows.row Row.jump (Rows.row Row.push
    (Rows.row Row.get_global (Rows.row Row.set_global (Rows.row Row.other (Rows.row Row.other (Rows.row Row.other (Rows.row Row.other (Rows.row Row.return_value Rows.end))))))))))))))))))))))

-- the row of a byte
row-at : {xs : List Action} {ts : List ℕ} {bs : List Besides} {gs : List ℕ} {fs : List Flow} → Rows xs ts bs gs fs → (o : ℕ) → Row (get_or xs o Action.other) (get_or ts o 0) (get_or bs o nothing) (get_or gs o 0) (get_or fs o next)
row-at Rows.end o = Row.other
row-at (Rows.row r rs) zero = r
row-at (Rows.row r rs) (suc o) = row-at rs o

-- one value less
below_length : (st : List Value) → 1 ≤ length st → length (below st) + 1 ≡ length st
below_length [] h = absurd (omega arith)
below_length (v ∷ st) h = omega arith

-- a run whose stack has its height, or that has ended
pub data KeepsHeight (c : Code) : Run → Type 0 where
  on : {f : Frame} → Reaches c f.at (length f.stack) → KeepsHeight c (Run.on f)
  returned : {g : Globals} {n : ℕ} → KeepsHeight c (Run.returned g n)
  stopped : {k : Reason} {p : ℕ} → KeepsHeight c (Run.stopped k p)

-- each instruction that is reached finds enough
pub record Enough (c : Code) : Type 0 where
  pub there : {i : Instr} {p x : ℕ} → Stands i p c → Reaches c p x → takes i ≤ x

module _ (pool : List Const) {c : Code} (l : Enough c) where
  given_height : (f : Frame) (to : ℕ) (m : Reason) (st : List Value) (o : Option Value) → Reaches c to (suc (length st)) → KeepsHeight c (given f to m st o)
  given_height f to m st (some v) h = KeepsHeight.on h
  given_height f to m st none h = KeepsHeight.stopped

  -- what an instruction takes, by its row
  takes_of : (i : Instr) {t : ℕ} → get_or taken i.op 0 ≡ t → get_or taken_besides i.op nothing ≡ nothing → takes i ≡ t
  takes_of i e q = (λ j. e j + Effect.besides (q j) i) ∙ (omega arith)

  -- an instruction where the run stands
  pub execute_height : (i : Instr) (f : Frame) → Stands i f.at c → Reaches c f.at (length f.stack) → KeepsHeight c (execute pool i f)
  execute_height i f s r = go (row-at rows i.op) refl refl refl refl
    where
      -- the next instruction, with so many on the stack
      falling : (x : ℕ) {t g : ℕ} → takes i ≡ t → gives i ≡ g → flow_of i ≡ next → x + t ≡ length f.stack + g → Reaches c (f.at + size i) x
      falling x e q w h = Reaches.next {y = x} r s (subst (λ y. T (falls y)) (sym w) tt) (omega arith)

      enough : {t : ℕ} → takes i ≡ t → t ≤ length f.stack
      enough e = let h = l.there s r in omega arith

      go : {a : Action} {t : ℕ} {b : Besides} {g : ℕ} {w : Flow} → Row a t b g w → get_or taken i.op 0 ≡ t → get_or taken_besides i.op nothing ≡ b → gives i ≡ g → flow_of i ≡ w
          → KeepsHeight c (acted pool i.a (f.at + size i) f a)
      go Row.push t b g w = KeepsHeight.on (falling (suc (length f.stack)) (takes_of i t b) g w (omega arith))
      go (Row.combine {o}) t b g w =
          let e = takes_of i t b in
          let h = enough e in
          let p = below_length f.stack (omega arith) in
          let q = below_length (below f.stack) (omega arith) in
          given_height f _ _ _ (combined o (top (below f.stack)) (top f.stack)) (falling (suc (length (below (below f.stack)))) e g w (omega arith))
      go (Row.change {o}) t b g w = let e = takes_of i t b in let p = below_length f.stack (enough e) in given_height f _ _ _ (changed o (top f.stack)) (falling (suc (length (below f.stack))) e g w (omega arith))
      go Row.constant t b g w = given_height f _ _ _ (integer_in (constant_at pool i.a)) (falling (suc (length f.stack)) (takes_of i t b) g w (omega arith))
      go Row.pop t b g w = let e = takes_of i t b in let p = below_length f.stack (enough e) in KeepsHeight.on (falling (length (below f.stack)) e g w (omega arith))
      go Row.jump_not_truthy t b g w =
          let e = takes_of i t b in
          let p = below_length f.stack (enough e) in
          KeepsHeight.on (chosen (λ to. Reaches c to (length (below f.stack))) (truthy (top f.stack)) (λ _. Reaches.next {y = length (below f.stack)} r s (subst (λ y. T (falls y)) (sym w) tt) (omega arith)) (λ _.
          Reaches.leap {y = length (below f.stack)} r s (subst (λ y. T (leaps y)) (sym w) tt) (omega arith)))
      go Row.jump t b g w = let e = takes_of i t b in KeepsHeight.on (Reaches.leap {y = length f.stack} r s (subst (λ y. T (leaps y)) (sym w) tt) (omega arith))
      go Row.get_global t b g w = given_height f _ _ _ (get_or f.globals i.a none) (falling (suc (length f.stack)) (takes_of i t b) g w (omega arith))
      go Row.set_global t b g w = let e = takes_of i t b in let p = below_length f.stack (enough e) in KeepsHeight.on (falling (length (below f.stack)) e g w (omega arith))
      go Row.return_value t b g w = KeepsHeight.returned
      go Row.other t b g w = KeepsHeight.stopped

  -- the machine keeps the heights
  executes_height : {s t : Run} → Executes pool c s t → KeepsHeight c s → KeepsHeight c t
  executes_height Executes.rest h = h
  executes_height (Executes.step {f} {i} k a) (KeepsHeight.on r) = executes_height a (execute_height i f k r)

  -- so does a trial run, from its start through any first part of the code
  pub pass_height : (d : Code) → ((i : Instr) (p : ℕ) → Stands i p d → Stands i p c) → (g : Globals) → KeepsHeight c (pass pool 0 d (Run.on (frame 0 [] g 0)))
  pass_height d part g = executes_height (pass-part pool c d part (Run.on (frame 0 [] g 0))) (KeepsHeight.on Reaches.start)
