-- What the code's step and run give, beside the definition's.
use Rattle.std.specs.Prelude.{◌≡◌, ℕ, ◌+◌, ◌<◌, ◌≤◌, true, List, ◌==◌, slice_index_or, Option, Some as some, None as none, Result, Ok, Err, set}
use Rattle.std.specs.Prelude.{Option, Some as some, None as none}
use Rattle.definition.specs.Basic.{Bytes, pick}
use Rattle.definition.specs.Opcode.{Instr}
use Rattle.definition.specs.Bytecode.{Code, size_of, Const, Image}
use Rattle.definition.specs.Trusted.{Stands, constant_at}
use Rattle.definition.specs.Effect.{takes, gives}
use Rattle.listing.specs.Reads.{ImageAt}
use Rattle.heights.specs.Judgement.{Reaches}
use Rattle.definition.specs.Number
use Rattle.trial.specs.Value.{Value, Globals, Infix, Prefix, combined, changed}
use Rattle.trial.specs.Run.{Action, integer_in, runnable, Frame, Run, top, below, Trial, unset_globals}
use Rattle.trial.specs.Cells.{Keeps, kinds_at, Stacked, Keeping, stack_limit}
use Rattle.trial.specs.declared.machine.State.{State}
use Rattle.trial.specs.declared.machine.Machine.{Machine}
use Rattle.std.specs.declared.ops.ControlFlow.{ControlFlow}
use Rattle.std.specs.declared.ops.ControlFlow.TheVariants.{Continue, Break}
use Rattle.definition.specs.Number.{refusal}
use Rattle.definition.specs.declared.reason.Refusal.{Refusal}
use Rattle.definition.specs.declared.reason.Reason.{Reason}

-- the bytes of the operators of two operands
pub data InfixAt : ℕ → Infix → Type 0 where
  add : InfixAt 0x01 Infix.add
  sub : InfixAt 0x03 Infix.sub
  mul : InfixAt 0x04 Infix.mul
  div : InfixAt 0x05 Infix.div
  equals : InfixAt 0x08 Infix.equals
  differs : InfixAt 0x09 Infix.differs
  greater : InfixAt 0x0A Infix.greater

-- of one
pub data PrefixAt : ℕ → Prefix → Type 0 where
  minus : PrefixAt 0x0B Prefix.minus
  bang : PrefixAt 0x0C Prefix.bang

-- of the instructions that put a value
pub data Produces : ℕ → Type 0 where
  constant : Produces 0x00
  yes : Produces 0x06
  no : Produces 0x07
  null : Produces 0x0F
  get_global : Produces 0x10
  prefixed : {n : ℕ} {o : Prefix} → PrefixAt n o → Produces n
  infixed : {n : ℕ} {o : Infix} → InfixAt n o → Produces n

-- of those that a run takes
pub data Runs : ℕ → Type 0 where
  pop : Runs 0x02
  jump_not_truthy : Runs 0x0D
  jump : Runs 0x0E
  set_global : Runs 0x11
  return_value : Runs 0x16
  produces : {n : ℕ} → Produces n → Runs n

-- why one stops the run that puts no value
abbrev pub reason_of : ℕ → Reason
reason_of op = pick (op == 0x10) Number.unset (pick (op == 0x00) Number.not_runnable Number.operand)

-- the value that an action puts, with its operand; none: it stops the run
abbrev pub product : List Const → ℕ → List Value → Globals → Action → Option Value
product pool k st g (Action.push v) = some v
product pool k st g (Action.combine o) = combined o (top (below st)) (top st)
product pool k st g (Action.change o) = changed o (top st)
product pool k st g Action.constant = integer_in (constant_at pool k)
product pool k st g Action.pop = none
product pool k st g Action.jump_not_truthy = none
product pool k st g Action.jump = none
product pool k st g Action.get_global = slice_index_or g k none
product pool k st g Action.set_global = none
product pool k st g Action.return_value = none
product pool k st g Action.other = none

-- a value kept at a place of a work area
pub record KeptAt (w : List ℕ) (at : ℕ) (v : Value) (w₁ : List ℕ) : Type 0 where
  pub kind : ℕ
  pub word : ℕ
  pub keeps : Keeps kind word (some v)
  pub is : w₁ ≡ set (set w at word) (kinds_at + at) kind

-- where an instruction stands before a stack: it has enough, there is room for what it gives, and it names a global that there is
pub record Room (i : Instr) (height : ℕ) : Type 0 where
  pub enough : takes i ≤ height
  pub low : height ≤ stack_limit
  pub fits : height + gives i ≤ stack_limit + takes i
  pub global : i.op ≡ 0x10 → i.a < 1024
  pub global_set : i.op ≡ 0x11 → i.a < 1024

-- the same, and positions and steps are small
pub record StepReady (i : Instr) (next : ℕ) (s : State) : Type 0 where
  pub room : Room i s.height
  pub near : next ≤ 131072
  pub few : s.steps ≤ 131072

-- the code's state is a frame
pub record Framed (w : List ℕ) (s : State) (f : Frame) : Type 0 where
  pub stands : s.next ≡ 3 + f.at
  pub stack : Stacked w s.height f.stack
  pub globals : Keeping w f.globals
  pub steps : s.steps ≡ f.steps

-- what a step gives: the run goes on, ReturnValue ended it with its steps, or it stops
abbrev pub Step : Type 0
Step = Result (ControlFlow ℕ (Unit {0})) Refusal

abbrev pub went_on : Step
went_on = Ok (Continue tt)

-- it goes on before an offset, with a stack so high, behind so many instructions
abbrev pub goes_on : ℕ → ℕ → ℕ → State
goes_on next height steps = record { next = next; height = height; steps = steps }

-- what a step at a position gives is the definition's, with what it leaves in the work area and the state
pub data After (w : List ℕ) (s : State) (p : ℕ) : Step → Run → Type 0 where
  on : {f : Frame} → Framed w s f → After w s p went_on (Run.on f)
  returned : {g : Globals} {n : ℕ} → Keeping w g → After w s p (Ok (Break n)) (Run.returned g n)
  stopped : {k : Reason} → After w s p (Err (refusal k (3 + p))) (Run.stopped k p)

-- a machine stays with the program and the work area that it has
pub record Stays (s s' : Machine) : Type 0 where
  pub program : s'.program ≡ s.program
  pub same : s'.work.ghost_name ≡ s.work.ghost_name

-- one instruction executed that stores nothing
pub record Steps (s s' : Machine) (next height : ℕ) (r : ControlFlow ℕ (Unit {0})) : Type 0 where
  pub answers : r ≡ Continue tt
  pub still : s'.work.now ≡ s.work.now
  pub state : s'.state ≡ goes_on next height (s.state.steps + 1)
  pub lent : Stays s s'

-- what a run gives is the definition's
pub data EndsAs (w : List ℕ) : Result ℕ Refusal → Trial → Type 0 where
  ran : {g : Globals} {n : ℕ} → Keeping w g → EndsAs w (Ok n) (Trial.ran g n)
  stopped : {k : Reason} {p : ℕ} → EndsAs w (Err (refusal k p)) (Trial.stopped k p)

-- main can be run: each instruction is one that a run takes, finds enough on the stack, and no more than there is room for
pub record Safe (pool : List Const) (c : Code) : Type 0 where
  pub runs : {i : Instr} {p : ℕ} → Stands i p c → runnable pool i ≡ true
  pub enough : {i : Instr} {p x : ℕ} → Stands i p c → Reaches c p x → takes i ≤ x
  pub low : {i : Instr} {p x : ℕ} → Stands i p c → Reaches c p x → x ≤ stack_limit
  pub ends : {x : ℕ} → Reaches c (size_of c) x → x ≡ 0

-- main of the image that bytes are can be run
pub record SafeToRun (b : Bytes) : Type 0 where
  pub safe : (m : Image) → ImageAt b m → Safe m.pool m.code

-- a machine that starts: nothing is executed, no global is set, and main can be run
pub record Starts (s : Machine) : Type 0 where
  pub state : s.state ≡ goes_on 3 0 0
  pub unset : Keeping s.work.now unset_globals
  pub safe : SafeToRun s.program.parts.code.bytes.now
