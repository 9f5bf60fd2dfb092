-- A trial run of a main chunk. Jumps go forward (P9), so one pass over the code is the whole run: each instruction is executed if the run stands
-- before it, and passed over if a jump went further. What is taken from an empty stack is null (P9: nothing is).
use Rattle.std.specs.Prelude.{ℕ, ◌+◌, Bool, true, false, List, [], ◌∷◌, replicate, ◌==◌, nat_lt, slice_index_or, slice_set, Option, Some as some, None as none}
use Rattle.std.specs.Prelude.{Option, Some as some, None as none}
use Rattle.std.proofs.Math.Option.{Option as Found, some as found, none as missing}
use Rattle.definition.specs.Number
use Rattle.definition.specs.Basic.{pick}
use Rattle.definition.specs.Limit.{globals_limit}
use Rattle.definition.specs.Opcode.{Instr, size}
use Rattle.definition.specs.Bytecode.{Code, size_of, Const, Image}
use Rattle.definition.specs.Trusted.{Stands, constant_at}
use Rattle.trial.specs.Value.{Value, boolean, null, Globals, integer_of, truthy, Infix, add, sub, mul, div, equals, differs, greater, combined, Prefix, minus, bang, changed}
use Rattle.definition.specs.declared.reason.Reason.{Reason}

-- what an instruction does
pub data Action : Type 0 where
  push : Value → Action
  combine : Infix → Action
  change : Prefix → Action
  constant pop jump_not_truthy jump get_global set_global return_value other : Action

-- by the instruction's byte: 00 to 11 and 16
abbrev pub actions : List Action
actions =
    constant ∷ combine add ∷ pop ∷ combine sub ∷ combine mul ∷ combine div ∷ push (boolean true) ∷ push (boolean false)
    ∷ combine equals ∷ combine differs ∷ combine greater ∷ change minus ∷ change bang ∷ jump_not_truthy ∷ jump ∷ push null
    ∷ get_global ∷ set_global ∷ other ∷ other ∷ other ∷ other ∷ return_value ∷ []

-- the action of an instruction
abbrev pub action_of : Instr → Action
action_of i = slice_index_or actions i.op other

-- the value of a constant that is an integer
abbrev pub integer_in : Found Const → Option Value
integer_in (found (Const.integer b)) = some (integer_of b)
integer_in (found (Const.string b)) = none
integer_in (found (Const.function l p c)) = none
integer_in missing = none

-- there is a value
abbrev pub is_some : Option Value → Bool
is_some (some v) = true
is_some none = false

-- what number 27 asks of an instruction by what it does and its operand, its height apart
abbrev pub runnable_as : List Const → ℕ → Action → Bool
runnable_as pool k (push v) = true
runnable_as pool k (combine o) = true
runnable_as pool k (change o) = true
runnable_as pool k constant = is_some (integer_in (constant_at pool k))
runnable_as pool k pop = true
runnable_as pool k jump_not_truthy = true
runnable_as pool k jump = true
runnable_as pool k get_global = nat_lt k globals_limit
runnable_as pool k set_global = nat_lt k globals_limit
runnable_as pool k return_value = true
runnable_as pool k other = false

-- of an instruction
abbrev pub runnable : List Const → Instr → Bool
runnable pool i = runnable_as pool i.a (action_of i)

-- the earlier of two places
abbrev pub or_else : Option ℕ → Option ℕ → Option ℕ
or_else (some p) q = some p
or_else none q = q

-- a run before the instruction at a position; its stack, the top first; the instructions executed so far
pub record Frame : Type 0 where
  pub at : ℕ
  pub stack : List Value
  pub globals : Globals
  pub steps : ℕ

-- a frame by its parts
abbrev pub frame : ℕ → List Value → Globals → ℕ → Frame
frame at st g n = record { at = at; stack = st; globals = g; steps = n }

-- a run that goes on; one that ReturnValue ended, its globals and steps; one that stopped, a number and the instruction's position
pub data Run : Type 0 where
  on : Frame → Run
  returned : Globals → ℕ → Run
  stopped : Reason → ℕ → Run

-- the top of the stack
abbrev pub top : List Value → Value
top [] = null
top (v ∷ st) = v

-- what lies below it
abbrev pub below : List Value → List Value
below [] = []
below (v ∷ st) = st

-- one instruction executed: the run stands before another position, with another stack and other globals
abbrev pub moved : Frame → ℕ → List Value → Globals → Run
moved f to st g = on (frame to st g (f.steps + 1))

-- a value more, or a stop
abbrev pub given : Frame → ℕ → Reason → List Value → Option Value → Run
given f to reason st (some v) = moved f to (v ∷ st) f.globals
given f to reason st none = stopped reason f.at

-- an instruction's action, with its operand and the position behind it
abbrev pub acted : List Const → ℕ → ℕ → Frame → Action → Run
acted pool k next f (push v) = moved f next (v ∷ f.stack) f.globals
acted pool k next f (combine o) = given f next Number.operand (below (below f.stack)) (combined o (top (below f.stack)) (top f.stack))
acted pool k next f (change o) = given f next Number.operand (below f.stack) (changed o (top f.stack))
acted pool k next f constant = given f next Number.not_runnable f.stack (integer_in (constant_at pool k))
acted pool k next f pop = moved f next (below f.stack) f.globals
acted pool k next f jump_not_truthy = moved f (pick (truthy (top f.stack)) next k) (below f.stack) f.globals
acted pool k next f jump = moved f k f.stack f.globals
acted pool k next f get_global = given f next Number.unset f.stack (slice_index_or f.globals k none)
acted pool k next f set_global = moved f next (below f.stack) (slice_set f.globals k (some (top f.stack)))
acted pool k next f return_value = returned f.globals (f.steps + 1)
acted pool k next f other = stopped Number.not_runnable f.at

-- one step of the machine
abbrev pub execute : List Const → Instr → Frame → Run
execute pool i f = acted pool i.a (f.at + size i) f (action_of i)

-- the machine at large: it executes the instruction that it stands before, again and again
pub data Executes (pool : List Const) (c : Code) : Run → Run → Type 0 where
  rest : {s : Run} → Executes pool c s s
  step : {f : Frame} {i : Instr} {s : Run} → Stands i f.at c → Executes pool c (execute pool i f) s → Executes pool c (Run.on f) s

-- a run that comes to the instruction at a position
abbrev pub come_to : List Const → ℕ → Instr → Run → Run
come_to pool p i (on f) = pick (f.at == p) (execute pool i f) (on f)
come_to pool p i (returned g n) = returned g n
come_to pool p i (stopped k q) = stopped k q

-- a run through code that stands from a position on
unfoldable pub pass : List Const → ℕ → Code → Run → Run
pass pool at [] s = s
pass pool at (i ∷ c) s = come_to pool (at + size_of c) i (pass pool at c s)

-- all globals are unset
unfoldable pub unset_globals : Globals
unset_globals = replicate globals_limit none

-- what a run gives: the globals and the steps; or a stop, its number and the instruction's offset in the image
pub data Trial : Type 0 where
  ran : Globals → ℕ → Trial
  stopped : Reason → ℕ → Trial

-- main's code stands behind a field's head
abbrev pub trial_of : Run → Trial
trial_of (Run.on f) = Trial.ran f.globals f.steps
trial_of (Run.returned g n) = Trial.ran g n
trial_of (Run.stopped k p) = Trial.stopped k (3 + p)

-- a trial run of an image
abbrev pub trial : Image → Trial
trial m = trial_of (pass m.pool 0 m.code (Run.on (frame 0 [] unset_globals 0)))
