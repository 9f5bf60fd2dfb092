-- The lent memory during the walk: what it stands for, and what the steps need of it.
use Rattle.std.specs.Prelude.{ℕ, ◌+◌, ◌≤◌, ◌≡◌, List, [], length, take, Ok, Err, Result}
use Rattle.definition.specs.Basic.{Bytes}
use Rattle.definition.specs.Limit.{session_size, table_size, pool_limit, nesting_limit}
use Rattle.definition.specs.Walk.{Res, on, stop, Go}
use Rattle.symbol_table.specs.Layout.{globals_in, tables_of, Good}
use Rattle.symbol_table.specs.Contract.{HasWords}
use Rattle.scope.specs.View.{Symbols, View, view, then, Ready}
use Rattle.definition.specs.declared.reason.Refusal.{Refusal}
use Rattle.scope.specs.declared.State.{State}
use Rattle.scope.specs.Walked.{Walked}

-- the slices beside the code area
pub record Rest : Type 0 where
  pub session : Bytes
  pub table : List ℕ

abbrev pub rest : Bytes → List ℕ → Rest
rest e t = record { session = e; table = t }

abbrev pub state_of : Walked → State
state_of (Ok s) = s
state_of (Err z) = z.state

-- the names that the session had at the start
abbrev pub names_of : Bytes → State → Bytes
names_of e s = take s.names_end e

abbrev pub symbols_of : Bytes → Rest → State → Symbols
symbols_of tree m s = record { globals = globals_in tree (names_of m.session s) m.table; tables = tables_of tree s.level m.table }

-- after a refusal nobody asks for the symbols: a lookup that fails in one table may have added to those outside it
abbrev pub no_symbols : Symbols
no_symbols = record { globals = []; tables = [] }

abbrev pub settled : {A : Type 0} → Res View A → Res View A
settled (on a v) = on a v
settled (stop r v) = stop r (view v.code v.session no_symbols v.state)

-- a value and the walk so far, on the lent memory
abbrev pub result : {A : Type 0} → Bytes → Bytes → Rest → Walked → A → Res View A
result tree c m (Ok s) a = on a (view c m.session (symbols_of tree m s) s)
result tree c m (Err z) a = stop z.refusal (view c m.session no_symbols z.state)

-- an answer, and the state after it, on the lent memory
abbrev pub answered : {A : Type 0} → Bytes → Bytes → Rest → Result A Refusal → State → Res View A
answered tree c m (Ok a) s = on a (view c m.session (symbols_of tree m s) s)
answered tree c m (Err r) s = stop r (view c m.session no_symbols s)

-- the walk so far
abbrev pub memory : Bytes → Bytes → Rest → Walked → Res View (Unit {0})
memory tree c m w = result tree c m w tt

-- the session has room for a whole pool behind its names
pub record RoomyState (e : Bytes) (s : State) : Type 0 where
  pub area : session_size ≤ length e
  pub room : s.names_end + 3 + pool_limit ≤ session_size
  pub start : s.names_end + 3 ≤ s.pool_end
  pub end : s.pool_end ≤ s.names_end + 3 + pool_limit

-- the names have words in front, and the table area stands well
pub record FineState (tree : Bytes) (m : Rest) (s : State) : Type 0 where
  pub words : HasWords (names_of m.session s)
  pub symbols : Good tree (names_of m.session s) s.level m.table
  pub level : s.level ≤ nesting_limit
  pub area : table_size ≤ length m.table
  pub pool : RoomyState m.session s

abbrev pub Fine : Bytes → Rest → Walked → Type 0
Fine tree m (Ok s) = FineState tree m s
Fine tree m (Err z) = Unit {0}

-- the state in which a walk went on, n functions further out than another
pub record Origin (n : ℕ) (w : Walked) (t : State) : Type 0 where
  pub from : State
  pub is : w ≡ Ok from
  pub level : t.level ≡ from.level + n
  pub names : t.names_end ≡ from.names_end

-- where a walk goes on, it went on before, n functions further out
pub record Deeper (n : ℕ) (w r : Walked) : Type 0 where
  pub origin : (t : State) → r ≡ Ok t → Origin n w t

-- in the function where it began
abbrev pub Keeps : Walked → Walked → Type 0
Keeps = Deeper 0

-- Whatever stands there, what was done is the machine's step on it. A is the syntax, R says of it that it stands there, k is its step.
pub record Walks {A : Type 0} (tree : Bytes) (R : A → Type 0) (k : A → Go View) (c c' : Bytes) (m m' : Rest) (w r : Walked) : Type 0 where
  pub step : (a : A) → R a → memory tree c' m' r ≡ settled (then (memory tree c m w) (k a))
  pub ready : Ready c' r
  pub fine : Fine tree m' r
  pub keeps : Keeps w r
