-- What the lent memory stands for during the walk: a view of it, with symbol tables as the definition has them, and code and constants as bytes.
use Rattle.std.specs.Prelude.{ℕ, ◌+◌, ◌≤◌, ◌≡◌, List, length, Ok, Err, Result}
use Rattle.definition.specs.Basic.{Bytes}
use Rattle.definition.specs.Limit.{code_size}
use Rattle.definition.specs.SymbolTable.{Table}
use Rattle.definition.specs.Walk.{Res, on, stop, bind, Go}
use Rattle.scope.specs.declared.State.{State}
use Rattle.scope.specs.Walked.{Walked, walked}
use Rattle.definition.specs.declared.reason.Refusal.{Refusal}

-- the global names, the latest first, and the tables of the open functions, the innermost first
pub record Symbols : Type 0 where
  pub globals : List Bytes
  pub tables : List Table

pub record View : Type 0 where
  pub code : Bytes
  pub session : Bytes
  pub symbols : Symbols
  pub state : State

abbrev pub view : Bytes → Bytes → Symbols → State → View
view c e y s = record { code = c; session = e; symbols = y; state = s }

-- the walk so far, on memory that stands for this
abbrev pub ended : Bytes → Bytes → Symbols → Walked → Res View (Unit {0})
ended c e y (Ok s) = on tt (view c e y s)
ended c e y (Err z) = stop z.refusal (view c e y z.state)

-- an answer with a value, in the state after it
abbrev pub ended_at : {A : Type 0} → Bytes → Bytes → Symbols → Result A Refusal → State → Res View A
ended_at c e y (Ok a) s = on a (view c e y s)
ended_at c e y (Err r) s = stop r (view c e y s)

-- a step after what there is
abbrev pub then : Res View (Unit {0}) → Go View → Res View (Unit {0})
then r k = bind r (λ _. k)

-- a chunk within the code area
pub record Fits (s : State) : Type 0 where
  pub room : s.chunk.start + s.chunk.len ≤ code_size
  pub last : s.chunk.last ≤ s.chunk.len
  pub prev : s.chunk.prev ≤ s.chunk.last

abbrev pub Sound : Walked → Type 0
Sound (Ok s) = Fits s
Sound (Err z) = Unit {0}

-- what each step needs of the code area
pub record Ready (c : Bytes) (w : Walked) : Type 0 where
  pub area : code_size ≤ length c
  pub sound : Sound w

-- what a step on the code area leaves as it was
pub record Outline : Type 0 where
  pub level : ℕ
  pub constants : ℕ
  pub names_end : ℕ
  pub pool_end : ℕ

abbrev pub outline : State → Outline
outline s = record { level = s.level; constants = s.constants; names_end = s.names_end; pool_end = s.pool_end }

abbrev pub outline_of : Walked → Outline
outline_of (Ok s) = outline s
outline_of (Err z) = outline z.state

-- a step on the code area alone: the machine's step, whatever session and symbols are
pub record Done (c c' : Bytes) (w r : Walked) (k : Go View) : Type 0 where
  pub step : (e : Bytes) (y : Symbols) → ended c' e y r ≡ then (ended c e y w) k
  pub ready : Ready c' r
  pub same : outline_of r ≡ outline_of w

-- a jump so, which answers its position and leaves a state
pub record Jumped (c c' : Bytes) (w : Walked) (r : Result ℕ Refusal) (s : State) (k : View → Res View ℕ) : Type 0 where
  pub step : (e : Bytes) (y : Symbols) → ended_at c' e y r s ≡ bind (ended c e y w) (λ _. k)
  pub ready : Ready c' (walked r s)
  pub same : outline_of (walked r s) ≡ outline_of w
