-- What closing a function leaves as it was.
use Rattle.std.specs.Prelude.{ℕ, ◌≡◌, Bool, true, false, List, [], ◌∷◌, leb, ltb, eqb, length}
use Rattle.definition.specs.Basic.{Bytes, byte_at, pick, both}
use Rattle.definition.specs.Walk.{Res, on, stop}
use Rattle.scope.specs.View.{View, view}
use Rattle.scope.specs.Machine.{here, returned}
use Rattle.scope.specs.declared.State.{State}
use Rattle.step.specs.Memory.{no_symbols}

-- the offsets from one up to another, which is not among them
pub record Range : Type 0 where
  pub from : ℕ
  pub to : ℕ

abbrev pub range : ℕ → ℕ → Range
range a b = record { from = a; to = b }

-- an offset is in one of the ranges
abbrev pub in_range : ℕ → Range → Bool
in_range i r = both (leb r.from i) (ltb i r.to)

abbrev pub in_ranges : ℕ → List Range → Bool
in_ranges i [] = false
in_ranges i (r ∷ rs) = pick (in_range i r) true (in_ranges i rs)

-- every byte outside the ranges is as it was
pub record Unchanged (rs : List Range) (xs ys : Bytes) : Type 0 where
  pub size : length ys ≡ length xs
  pub bytes : (i : ℕ) → in_ranges i rs ≡ false → byte_at ys i ≡ byte_at xs i

-- what there is at the end of a step, also of one that refuses
abbrev pub view_in : {A : Type 0} → Res View A → View
view_in (on a v) = v
view_in (stop r v) = v

-- the state with a function's chunk complete: with its Return, where one follows
abbrev pub completed : Bytes → State → State
completed c s = (view_in (returned 0 (view c [] no_symbols s))).state

-- where the chunk outside ends after closing: a closing that is refused before it writes there ends in the function, one level further in
abbrev pub outside_end : State → State → ℕ
outside_end o u = pick (eqb u.level o.level) (here u) (here o)

-- the ranges of the code area: the closed chunk, and what the chunk outside gains
abbrev pub code_ranges : Bytes → State → State → State → List Range
code_ranges c o s u = range s.chunk.start (here (completed c s)) ∷ range (here o) (outside_end o u) ∷ []

-- the range of the session: the constant, its head counted
abbrev pub session_ranges : State → State → List Range
session_ranges s u = range s.pool_end u.pool_end ∷ []

-- Closing changes the bytes of the closed chunk, those that the chunk outside gains and the constant's, and no others, also where it is refused. The pool's
-- length is not among them: it is written with the session, once the whole tree is accepted. The output is not lent to this step, so it can't change.
-- `o` is the state outside, `s` the one inside, `u` the one after it.
pub record LeavesAlone (c c' e e' : Bytes) (o s u : State) : Type 0 where
  pub code : Unchanged (code_ranges c o s u) c c'
  pub session : Unchanged (session_ranges s u) e e'
