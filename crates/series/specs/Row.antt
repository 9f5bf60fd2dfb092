-- A row of trees that one session compiles, one after the other.
use Rattle.std.specs.Prelude.{ℕ, List, [], ◌∷◌, ◌≡◌, length, take, drop, Ok}
use Rattle.definition.specs.Basic.{Bytes}
use Rattle.definition.specs.Limit.{session_size}
use Rattle.definition.specs.Compile.{Step}
use Rattle.definition.specs.Call.{Lent, Called, call, made}
use Rattle.definition.specs.Series.{Call, session_made, Same, Indistinguishable}
use Rattle.definition.specs.Answer.{Answer}
use Rattle.compiler.specs.Promise.{Ran}

-- the trees of a row, by their lengths; one that passes the row's end is what is left
abbrev pub trees_of : Bytes → List ℕ → List Bytes
trees_of b [] = []
trees_of b (n ∷ ns) = take n b ∷ trees_of (drop n b) ns

-- the calls of a row of trees, each in the memory that the one before it left
abbrev pub row_calls : List Bytes → Lent → List Call
row_calls [] l = []
row_calls (t ∷ ts) l = record { tree = t; session = l.session; output = l.output; code = l.code; table = l.table } ∷ row_calls ts (call t l).lent

-- and what these give
abbrev pub row_gives : List Bytes → Lent → List Called
row_gives [] l = []
row_gives (t ∷ ts) l = call t l ∷ row_gives ts (call t l).lent

-- the last of them, or what there was before
abbrev pub last_of : Called → List Called → Called
last_of x [] = x
last_of x (y ∷ ys) = last_of y ys

-- what making a session gives
abbrev pub started : Lent → Called
started l = record { answer = (made l.session).answer; lent = record { session = (made l.session).session; output = l.output; code = l.code; table = l.table } }

-- lent equally much
pub record EquallyLent (l m : Lent) : Type 0 where
  pub session : length l.session ≡ length m.session
  pub output : length l.output ≡ length m.output
  pub code : length l.code ≡ length m.code
  pub table : length l.table ≡ length m.table

-- a row that was run: its calls are a series from the session that was made, and answer and memory are the last one's
pub record RunsRow (ts : List Bytes) (l : Lent) (r : Answer) (l' : Lent) : Type 0 where
  pub ran : Ran (session_made l.session) (row_calls ts (started l).lent) (row_gives ts (started l).lent)
  pub last : record { answer = r; lent = l' } ≡ last_of (started l) (row_gives ts (started l).lent)

-- what two rows answered and left at their end can't be told apart, beside the shapes' steps: two sessions just made, equal, where the rows
-- are empty; or the answers, images and sessions of their last calls
pub data EndsAlike (compared : Type 0) : List Step → Called → Called → Type 0 where
  empty : {x y : Called} → x.answer ≡ Ok session_size → y.answer ≡ Ok session_size → take session_size x.lent.session ≡ take session_size y.lent.session
      → EndsAlike compared [] x y
  last : {p : Step} {x y : Called} → Same compared p x y → EndsAlike compared (p ∷ []) x y
  before : {p q : Step} {ps : List Step} {x y : Called} → EndsAlike compared (q ∷ ps) x y → EndsAlike compared (p ∷ q ∷ ps) x y

-- two rows that were run: step by step their calls can't be told apart, nor what was answered and left
pub record RowsAlike (compared : Type 0) (ps : List Step) (xs ys : List Called) (x y : Called) : Type 0 where
  pub steps : Indistinguishable compared ps xs ys
  pub ends : EndsAlike compared ps x y
