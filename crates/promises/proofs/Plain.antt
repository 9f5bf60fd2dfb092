-- A series of plain calls is a series of turns that are all plain.
use mathlib.Core.List.{List, [], ◌∷◌, map}
use mathlib.Core.Path.{◌≡◌, refl, ap}
use Rattle.definition.specs.Basic.{Bytes}
use Rattle.definition.specs.Session.{Words, Session, begun}
use Rattle.definition.specs.Compile.{Step, compile, steps}
use Rattle.definition.specs.Call.{Called, call}
use Rattle.definition.specs.Series.{Call, session_after, lent, calls, AllAlike, shaped, shapes}
use Rattle.records.specs.Records.{Traced}
use Rattle.records.specs.Call.{Recorded, Turn, turns, AlikeTurn, AllAlikeTurns, shaped_turns_from, shaped_turns}

-- the calls of a series of turns
abbrev pub called_in : List Recorded → List Called
called_in = map (λ (x : Recorded). x.called)

-- the steps of the shapes' turns
abbrev pub steps_in : List Traced → List Step
steps_in = map (λ (x : Traced). x.step)

-- what plain turns give is what the calls give
pub plain-turns : (s : Bytes) (cs : List Call) → called_in (turns s (map Turn.plain cs)) ≡ calls s cs
plain-turns s [] = refl
plain-turns s (c ∷ cs) =
    ap {B = List Called} (λ xs. call c.tree (lent s c) ∷ xs) (plain-turns (session_after s (call c.tree (lent s c)).lent.session) cs)

-- likewise the shapes'
plain-steps : (z : Session) (cs : List Call) → steps_in (shaped_turns_from z (map Turn.plain cs)) ≡ steps z (map shaped cs)
plain-steps z [] = refl
plain-steps z (c ∷ cs) = ap {B = List Step} (λ xs. compile z (shaped c) ∷ xs) (plain-steps (compile z (shaped c)).session cs)

-- from a session of these words
pub plain-shapes : (w : Words) (cs : List Call) → steps_in (shaped_turns w (map Turn.plain cs)) ≡ shapes w cs
plain-shapes w cs = plain-steps (begun w) cs

-- and series that are alike stay alike
pub plain-alike : {cs ds : List Call} → AllAlike cs ds → AllAlikeTurns (map Turn.plain cs) (map Turn.plain ds)
plain-alike AllAlike.none = AllAlikeTurns.none
plain-alike (AllAlike.more a rest) = AllAlikeTurns.more (AlikeTurn.plain a) (plain-alike rest)
