-- A whole call with records on lent memory; series in which each call is a plain one or one with records.
use Rattle.std.specs.Prelude.{ℕ, List, [], ◌∷◌, ◌++◌, ◌≡◌, length, take, drop, Err}
use Rattle.definition.specs.Basic.{Bytes, pick}
use Rattle.definition.specs.Limit.{session_size}
use Rattle.definition.specs.Number
use Rattle.definition.specs.Number.{refusal, call_numbers, few_records, number_of}
use Rattle.definition.specs.Session.{Words, Session, begun}
use Rattle.definition.specs.Decode.{Decoded, decoded, malformed, read_session}
use Rattle.definition.specs.Compile.{enough, compile}
use Rattle.definition.specs.Call.{Lent, Called, refused_call, request, answered, call}
use Rattle.definition.specs.Series.{Call, session_after, lent, Alike, shaped, Same}
use Rattle.records.specs.Records.{Traced, untraced, compile_records}
use Rattle.records.specs.declared.Record.{Record}

-- a call with records: what the plain call has, the count written, and the records afterwards
pub record Recorded : Type 0 where
  pub called : Called
  pub count : ℕ
  pub records : List Record

-- a call that wrote none
abbrev pub unrecorded : List Record → Called → Recorded
unrecorded rs c = record { called = c; count = 0; records = rs }

-- records at the front, the rest as it was
abbrev pub over_records : List Record → List Record → List Record
over_records new rs = new ++ drop (length new) rs

abbrev pub recorded : Lent → List Record → Traced → Recorded
recorded l rs t = record { called = answered l t.step.session t.step.outcome; count = length t.records; records = over_records t.records rs }

abbrev pub in_session_records : Lent → List Record → Bytes → Decoded Session → Recorded
in_session_records l rs tree (decoded z n) = recorded l rs (compile_records (length rs) z (request l tree))
in_session_records l rs tree (malformed p) = unrecorded rs (refused_call (refusal Number.no_session 0) l)

-- compiling a tree, with records
unfoldable pub call_records : Bytes → Lent → List Record → Recorded
call_records tree l rs =
    let c = in_session_records l rs tree (read_session (take session_size l.session)) in
    pick (enough (request l tree)) c (unrecorded rs (record { answer = Err (refusal Number.short_buffer 0); lent = l }))

-- the numbers of a call with records
abbrev pub records_numbers : List ℕ
records_numbers = number_of few_records ∷ call_numbers

-- Series

-- a turn of a series: a plain call, or a call with records and what they hold before it
pub data Turn : Type 0 where
  plain : Call → Turn
  with_records : Call → List Record → Turn

abbrev pub turn : Bytes → Turn → Recorded
turn s (Turn.plain c) = unrecorded [] (call c.tree (lent s c))
turn s (Turn.with_records c rs) = call_records c.tree (lent s c) rs

-- each on the session that the last one left
abbrev pub turns : Bytes → List Turn → List Recorded
turns s [] = []
turns s (t ∷ ts) = turn s t ∷ turns (session_after s (turn s t).called.lent.session) ts

-- the same kind of call, on trees of equal shape, with lent lengths equal and equally many records
pub data AlikeTurn : Turn → Turn → Type 0 where
  plain : {c d : Call} → Alike c d → AlikeTurn (Turn.plain c) (Turn.plain d)
  with_records : {c d : Call} {rs us : List Record} → Alike c d → length rs ≡ length us → AlikeTurn (Turn.with_records c rs) (Turn.with_records d us)

pub data AllAlikeTurns : List Turn → List Turn → Type 0 where
  none : AllAlikeTurns [] []
  more : {t u : Turn} {ts us : List Turn} → AlikeTurn t u → AllAlikeTurns ts us → AllAlikeTurns (t ∷ ts) (u ∷ us)

-- what the definition gives for a turn with its tree's shape
abbrev pub shaped_turn : Session → Turn → Traced
shaped_turn z (Turn.plain c) = untraced (compile z (shaped c))
shaped_turn z (Turn.with_records c rs) = compile_records (length rs) z (shaped c)

-- and at each turn, once each tree so far is replaced by its shape
abbrev pub shaped_turns_from : Session → List Turn → List Traced
shaped_turns_from z [] = []
shaped_turns_from z (t ∷ ts) = shaped_turn z t ∷ shaped_turns_from (shaped_turn z t).step.session ts

abbrev pub shaped_turns : Words → List Turn → List Traced
shaped_turns w = shaped_turns_from (begun w)

-- two turns beside the shapes': the calls are the same but for literal bytes, and both wrote the shapes' records; sessions where they are compared
pub record SameTurn (compared : Type 0) (p : Traced) (x y : Recorded) : Type 0 where
  pub called : Same compared p.step x.called y.called
  pub counts : (x.count ≡ length p.records) × (y.count ≡ length p.records)
  pub records : (take x.count x.records ≡ p.records) × (take y.count y.records ≡ p.records)

-- step by step, in two whole series
pub data IndistinguishableTurns (compared : Type 0) : List Traced → List Recorded → List Recorded → Type 0 where
  done : IndistinguishableTurns compared [] [] []
  step : {p : Traced} {x y : Recorded} {ps : List Traced} {xs ys : List Recorded} → SameTurn compared p x y → IndistinguishableTurns compared ps xs ys
      → IndistinguishableTurns compared (p ∷ ps) (x ∷ xs) (y ∷ ys)
