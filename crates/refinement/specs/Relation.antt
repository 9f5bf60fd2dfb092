-- How a view of the lent memory stands for a state of the definition, in a call on session `z`, whose buffer was `e` at the start, with a code
-- area of `n` bytes.
use Rattle.std.specs.Prelude.{ℕ, suc, ◌+◌, ◌≤◌, List, [], ◌∷◌, ◌++◌, ◌≡◌, length, take, T}
use Rattle.std.proofs.lemmas.List.Edits.{sets}
use Rattle.definition.specs.Basic.{Bytes}
use Rattle.definition.specs.Limit.{code_size, session_size, pool_limit}
use Rattle.definition.specs.Number.{walk_number, number_of}
use Rattle.definition.specs.Bytecode.{Code, Const, encode, size_of, pool_bytes, pool_size}
use Rattle.definition.specs.Session.{Session, word_list, front_fields, session_fields}
use Rattle.definition.specs.Walk.{Res, on, stop}
use Rattle.definition.specs.declared.reason.Refusal.{Refusal}
use Rattle.definition.specs.Compiler.{State, without_last}
use Rattle.definition.specs.Valid.{All}
use Rattle.definition.proofs.Jumps.{jump_at}
use Rattle.definition.proofs.Limits.{ValidState}
use Rattle.scope.specs.View.{View, view}
use Rattle.scope.specs.Machine.{chunk}
use Rattle.scope.specs.declared.Chunk.{Chunk}
use Rattle.scope.specs.declared.State as Memory

-- where the names end in a session's bytes
abbrev pub names_end : Session → ℕ
names_end z = length (front_fields z.words z.globals)

-- and the pool
abbrev pub pool_end : Session → ℕ
pool_end z = length (session_fields z)

-- the view at the start of the walk: an empty chunk, and the session as it is
abbrev pub start_view : Session → Bytes → Bytes → View
start_view z e c =
    view c e (record { globals = z.globals; tables = [] })
    (record { chunk = chunk 0 0 0 0; level = 0; constants = length z.pool; names_end = names_end z; pool_end = pool_end z })

-- what the compiler's state has of the session's buffer: the number of constants, and where names and constants end
pub record Marks : Type 0 where
  pub constants : ℕ
  pub names_end : ℕ
  pub pool_end : ℕ

abbrev pub marks : Memory.State → Marks
marks s = record { constants = s.constants; names_end = s.names_end; pool_end = s.pool_end }

-- the session's buffer, and what the state has of it: new bytes behind the pool, and all else as it was
pub record Appended (z : Session) (e b : Bytes) (m : Marks) : Type 0 where
  pub new : Bytes
  pub session : b ≡ sets e (pool_end z) new
  pub upto : m.pool_end ≡ pool_end z + length new
  pub within : m.pool_end ≤ session_size
  pub names : m.names_end ≡ names_end z

-- the new bytes are the pool's new constants
pub record Pooled (z : Session) (e : Bytes) (cs : List Const) (b : Bytes) (m : Marks) : Type 0 where
  pub appended : Appended z e b m
  pub pool : pool_bytes cs ≡ pool_bytes z.pool ++ appended.new
  pub constants : m.constants ≡ length cs
  pub size : pool_size cs ≤ pool_limit

-- a list with items in front of an older one
pub record Extends {A : Type 0} (xs ys : List A) : Type 0 where
  pub more : List A
  pub same : ys ≡ more ++ xs

-- the code area, and the chunk in work: the `a` bytes of the open chunks around it, its code, and bytes that don't matter
pub record Coded (n : ℕ) (around : Bytes) (a : ℕ) (c : Code) (b : Bytes) (k : Chunk) : Type 0 where
  pub rest : Bytes
  pub bytes : b ≡ around ++ (encode c ++ rest)
  pub area : length b ≡ n
  pub before : length around ≡ a
  pub start : k.start ≡ a
  pub len : k.len ≡ size_of c
  pub last : k.last ≡ size_of (without_last c)
  pub room : a + size_of c ≤ code_size

-- what a chunk is compiled in: its jumps not yet patched, the bytes of the open chunks around it, the number of open functions
pub record Context : Type 0 where
  pub jumps : List ℕ
  pub around : Bytes
  pub depth : ℕ

abbrev pub outermost : Context
outermost = record { jumps = []; around = []; depth = 0 }

-- with a jump not yet patched
abbrev pub jumped : Context → ℕ → Context
jumped w j = record { jumps = j ∷ w.jumps; around = w.around; depth = w.depth }

-- of a chunk behind the chunk of this code
abbrev pub inside : Context → Code → Context
inside w c = record { jumps = []; around = w.around ++ encode c; depth = suc w.depth }

-- a view stands for a state
pub record Refines (z : Session) (e : Bytes) (n : ℕ) (w : Context) (s : State) (v : View) : Type 0 where
  pub code : Coded n w.around s.around s.code v.code v.state.chunk
  pub pool : Pooled z e s.pool v.session (marks v.state)
  pub words : s.words ≡ word_list z.words
  pub symbols : v.symbols ≡ record { globals = s.globals; tables = s.tables }
  pub globals : Extends z.globals s.globals
  pub level : v.state.level ≡ w.depth
  pub depth : length s.tables ≡ w.depth
  pub pending : All (λ j. T (jump_at j s.code)) w.jumps

-- and its last instruction may be dropped: the position of the one before it is right too
pub record Droppable (z : Session) (e : Bytes) (n : ℕ) (w : Context) (s : State) (v : View) : Type 0 where
  pub refines : Refines z e n w s v
  pub prev : v.state.chunk.prev ≡ size_of (without_last (without_last s.code))

-- what a refusal leaves
pub record Stopped (z : Session) (e : Bytes) (n : ℕ) (v : View) : Type 0 where
  pub appended : Appended z e v.session (marks v.state)
  pub area : length v.code ≡ n

-- what a walk that goes through leaves: the main code at the start of the code area, the symbols, the new constants behind the pool
pub record Compiled (z : Session) (e : Bytes) (n : ℕ) (s : State) (v : View) : Type 0 where
  pub start : v.state.chunk.start ≡ 0
  pub len : v.state.chunk.len ≡ size_of s.code
  pub code : take (size_of s.code) v.code ≡ encode s.code
  pub area : length v.code ≡ n
  pub words : s.words ≡ word_list z.words
  pub symbols : v.symbols ≡ record { globals = s.globals; tables = s.tables }
  pub globals : Extends z.globals s.globals
  pub pool : Pooled z e s.pool v.session (marks v.state)
  pub valid : ValidState s

-- how the walk of the definition and the walk on memory end: both go through, or both stop with one refusal of the walk
pub data WalkEnds (z : Session) (e : Bytes) (n : ℕ) (x : Res State (Unit {0})) (y : Res View (Unit {0})) : Type 0 where
  through : (s : State) (v : View) → x ≡ on tt s → y ≡ on tt v → Compiled z e n s v → WalkEnds z e n x y
  stopped : (r : Refusal) (s : State) (v : View) → x ≡ stop r s → y ≡ stop r v → T (walk_number (number_of r.reason)) → Stopped z e n v → WalkEnds z e n x y
