-- Two series of compile calls, and what they have in common.
use Rattle.std.specs.Prelude.{ℕ, ◌≤◌, ◌≡◌, true, false, List, [], ◌∷◌, map, length, take, leb, Ok, Err}
use Rattle.definition.specs.Basic.{Bytes, pick}
use Rattle.definition.specs.Limit.{session_size}
use Rattle.definition.specs.Number
use Rattle.definition.specs.Number.{refusal}
use Rattle.definition.specs.Shape.{shape}
use Rattle.definition.specs.Bytecode.{Image, image_bytes}
use Rattle.definition.specs.Session.{Words, six, Session, begun}
use Rattle.definition.specs.Decode.{decoded, read_handed, read_session}
use Rattle.definition.specs.Valid.{AreBytes, ValidSession}
use Rattle.definition.specs.Compile.{Outcome, Step, Request, steps}
use Rattle.definition.specs.Call.{Lent, Called, call, made, made_words}
use Rattle.definition.specs.Output.{over}
use Rattle.definition.specs.Literal.{Mask, image_mask, session_mask}
use Rattle.definition.specs.declared.reason.Refusal.{Refusal}

-- a call of a series: its tree, and what each buffer that it is lent holds before it, but for the series' session
pub record Call : Type 0 where
  pub tree : Bytes
  pub session : Bytes
  pub output : Bytes
  pub code : Bytes
  pub table : List ℕ

-- a session buffer before its call: the series' session at the front, then anything; one that is too short for it holds anything
abbrev pub session_before : Bytes → Bytes → Bytes
session_before s b = pick (leb session_size (length b)) (over s b) b

-- the series' session after a call: what the buffer's first 65,536 bytes are; a buffer that is shorter leaves it
abbrev pub session_after : Bytes → Bytes → Bytes
session_after s b = pick (leb session_size (length b)) (take session_size b) s

-- the series' session at the start: as making a session leaves it in a buffer
abbrev pub session_made : Bytes → Bytes
session_made a = take session_size (made a).session

-- and as making one with words leaves it
abbrev pub session_worded : Bytes → Bytes → Bytes
session_worded a names = take session_size (made_words a names).session

-- where a series starts: a session that was made, with either call, and not refused; and its words
pub data Start (s : Bytes) : Words → Type 0 where
  fresh : (a : Bytes) → (made a).answer ≡ Ok session_size → s ≡ session_made a → Start s six
  worded : (a names : Bytes) {w : Words} {n : ℕ} → AreBytes names → (made_words a names).answer ≡ Ok session_size → read_handed names ≡ decoded w n → s ≡ session_worded a names → Start s w

-- what a call is lent, in a series whose session is s
abbrev pub lent : Bytes → Call → Lent
lent s c = record { session = session_before s c.session; output = c.output; code = c.code; table = c.table }

-- each call on the session that the calls before it left
abbrev pub calls : Bytes → List Call → List Called
calls s [] = []
calls s (c ∷ cs) = call c.tree (lent s c) ∷ calls (session_after s (call c.tree (lent s c)).lent.session) cs

-- equal shapes, and lent lengths equal
pub record Alike (c d : Call) : Type 0 where
  pub tree : shape c.tree ≡ shape d.tree
  pub session : length c.session ≡ length d.session
  pub output : length c.output ≡ length d.output
  pub code : length c.code ≡ length d.code
  pub table : length c.table ≡ length d.table

pub data AllAlike : List Call → List Call → Type 0 where
  none : AllAlike [] []
  more : {c d : Call} {cs ds : List Call} → Alike c d → AllAlike cs ds → AllAlike (c ∷ cs) (d ∷ ds)

-- the call with its tree's shape
abbrev pub shaped : Call → Request
shaped c = record { code = length c.code; table = length c.table; session = length c.session; output = length c.output; tree = shape c.tree }

-- what the definition gives at each step from a session of these words, once each tree so far is replaced by its shape
abbrev pub shapes : Words → List Call → List Step
shapes w cs = steps (begun w) (map shaped cs)

-- equally long, and equal but for the bytes that a mask names
pub data Agree : Mask → Bytes → Bytes → Type 0 where
  end : Agree [] [] []
  same : {m : Mask} {x y : Bytes} (b : ℕ) → Agree m x y → Agree (false ∷ m) (b ∷ x) (b ∷ y)
  free : {m : Mask} {x y : Bytes} (a b : ℕ) → Agree m x y → Agree (true ∷ m) (a ∷ x) (b ∷ y)

-- beside the shapes' outcome: two images of its length that agree at all but its literal bytes, or its refusal twice
pub data Answers : Outcome → Called → Called → Type 0 where
  accepted : {m : Image} {x y : Called} → x.answer ≡ Ok (length (image_bytes m)) → y.answer ≡ Ok (length (image_bytes m))
      → Agree (image_mask m) (take (length (image_bytes m)) x.lent.output) (take (length (image_bytes m)) y.lent.output) → Answers (Outcome.accepted m) x y
  refused : {r : Refusal} {x y : Called} → x.answer ≡ Err r → y.answer ≡ Err r → Answers (Outcome.refused r) x y

-- and two sessions, where they are compared and the buffers have room for them, that agree, up to 65,536, at all but the literal bytes of the shapes' session
pub record Same (compared : Type 0) (p : Step) (x y : Called) : Type 0 where
  pub answer : Answers p.outcome x y
  pub long : length x.lent.session ≡ length y.lent.session
  pub session : compared → session_size ≤ length x.lent.session → Agree (session_mask p.session) (take session_size x.lent.session) (take session_size y.lent.session)

-- step by step, in two whole series
pub data Indistinguishable (compared : Type 0) : List Step → List Called → List Called → Type 0 where
  done : Indistinguishable compared [] [] []
  step : {p : Step} {x y : Called} {ps : List Step} {xs ys : List Called} → Same compared p x y → Indistinguishable compared ps xs ys → Indistinguishable compared (p ∷ ps) (x ∷ xs) (y ∷ ys)

-- after a call the session reads back where the buffer has room for one, and the call was not refused for its session
pub record ReadsBack (x : Called) : Type 0 where
  pub session : Session
  pub end : ℕ
  pub reads : session_size ≤ length x.lent.session → read_session (take session_size x.lent.session) ≡ decoded session end
  pub valid : ValidSession session
  pub sound : (p : ℕ) → x.answer ≡ Err (refusal Number.no_session p) → ⊥
