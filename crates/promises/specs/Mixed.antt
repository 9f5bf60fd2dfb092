-- Series in which each call is a plain one, one with records, or one with numbers for records: the promises that the calls keep, and what
-- two series have in common.
use Rattle.std.specs.Prelude.{ℕ, ◌*◌, ◌/◌, List, [], ◌∷◌, ◌≡◌, length, take, Result}
use Rattle.definition.specs.Basic.{Bytes}
use Rattle.definition.specs.Call.{Lent, Called}
use Rattle.definition.specs.Series.{Call, session_after, lent, Alike, Same}
use Rattle.definition.specs.Answer.{Answer}
use Rattle.definition.specs.declared.reason.Refusal.{Refusal}
use Rattle.compiler.specs.Promise.{Compiles}
use Rattle.records.specs.Records.{Traced}
use Rattle.records.specs.Call.{Turn}
use Rattle.records.specs.declared.Record.{Record}
use Rattle.trace.specs.declared.CallTrace.{CallTrace}
use Rattle.trace.specs.Promise.{answer_of, count_of}
use Rattle.names.specs.Rows.{rows_of}
use Rattle.names.specs.Promise.{blanks, Names, Records}

-- a call of a series: plain; with records and what they hold before it; with numbers and what they are before it
pub data AnyCall : Type 0 where
  plain : Call → AnyCall
  records : Call → List Record → AnyCall
  names : Call → List ℕ → AnyCall

-- what all kinds are lent
abbrev pub call_of : AnyCall → Call
call_of (AnyCall.plain c) = c
call_of (AnyCall.records c rs) = c
call_of (AnyCall.names c xs) = c

-- what a call gave: answer and lent memory afterwards; beside them the count, and the records or the numbers afterwards
pub data AnyDone : Type 0 where
  plain : Called → AnyDone
  records : Called → ℕ → List Record → AnyDone
  names : Called → ℕ → List ℕ → AnyDone

-- answer and lent memory of any kind
abbrev pub called_of : AnyDone → Called
called_of (AnyDone.plain x) = x
called_of (AnyDone.records x n rs) = x
called_of (AnyDone.names x n xs) = x

-- a call and what it gave, in a series whose session is s: the promise of `compile`, of `compile_with_records` or of `compile_names`
pub data Kept (s : Bytes) : AnyCall → AnyDone → Type 0 where
  plain : {c : Call} {r : Answer} {l' : Lent} → Compiles c.tree (lent s c) r l' → Kept s (AnyCall.plain c) (AnyDone.plain (record { answer = r; lent = l' }))
  records : {c : Call} {rs rs' : List Record} {r : Result CallTrace Refusal} {l' : Lent} → Records c.tree (lent s c) rs r l' rs'
      → Kept s (AnyCall.records c rs) (AnyDone.records (record { answer = answer_of r; lent = l' }) (count_of r) rs')
  names : {c : Call} {xs xs' : List ℕ} {r : Result CallTrace Refusal} {l' : Lent} → Names c.tree (lent s c) xs r l' xs'
      → Kept s (AnyCall.names c xs) (AnyDone.names (record { answer = answer_of r; lent = l' }) (count_of r) xs')

-- a series that ran, whose calls keep such promises: each on the session that those before it left
pub data RanBy (K : Bytes → AnyCall → AnyDone → Type 0) : Bytes → List AnyCall → List AnyDone → Type 0 where
  none : {s : Bytes} → RanBy K s [] []
  more : {s : Bytes} {c : AnyCall} {x : AnyDone} {cs : List AnyCall} {xs : List AnyDone} → K s c x
      → RanBy K (session_after s (called_of x).lent.session) cs xs → RanBy K s (c ∷ cs) (x ∷ xs)

-- of calls of `compile`, `compile_with_records` and `compile_names`, in any order
abbrev pub RanMixed : Bytes → List AnyCall → List AnyDone → Type 0
RanMixed = RanBy Kept

-- Condition 3

-- the same kind of call, on trees of equal shape, with lent lengths equal, and equally many records or numbers
pub data AlikeAny : AnyCall → AnyCall → Type 0 where
  plain : {c d : Call} → Alike c d → AlikeAny (AnyCall.plain c) (AnyCall.plain d)
  records : {c d : Call} {rs us : List Record} → Alike c d → length rs ≡ length us → AlikeAny (AnyCall.records c rs) (AnyCall.records d us)
  names : {c d : Call} {xs ys : List ℕ} → Alike c d → length xs ≡ length ys → AlikeAny (AnyCall.names c xs) (AnyCall.names d ys)

-- call by call
pub data AllAlikeAny : List AnyCall → List AnyCall → Type 0 where
  none : AllAlikeAny [] []
  more : {c d : AnyCall} {cs ds : List AnyCall} → AlikeAny c d → AllAlikeAny cs ds → AllAlikeAny (c ∷ cs) (d ∷ ds)

-- the definition's turn for a call: numbers are a fourth as many records
abbrev pub turn_of : AnyCall → Turn
turn_of (AnyCall.plain c) = Turn.plain c
turn_of (AnyCall.records c rs) = Turn.with_records c rs
turn_of (AnyCall.names c xs) = Turn.with_records c (blanks (length xs / 4))

-- two calls of one kind beside the shapes' turn: the same but for literal bytes, and both wrote the shapes' records, as many and the same
pub data SameDone (compared : Type 0) (p : Traced) : AnyDone → AnyDone → Type 0 where
  plain : {x y : Called} → Same compared p.step x y → SameDone compared p (AnyDone.plain x) (AnyDone.plain y)
  records : {x y : Called} {n k : ℕ} {rs us : List Record} → Same compared p.step x y → n ≡ length p.records → k ≡ length p.records
      → take n rs ≡ p.records → take k us ≡ p.records
      → SameDone compared p (AnyDone.records x n rs) (AnyDone.records y k us)
  names : {x y : Called} {n k : ℕ} {xs ys : List ℕ} → Same compared p.step x y → n ≡ length p.records → k ≡ length p.records
      → take (4 * n) xs ≡ rows_of p.records → take (4 * k) ys ≡ rows_of p.records
      → SameDone compared p (AnyDone.names x n xs) (AnyDone.names y k ys)

-- step by step, in two whole series
pub data IndistinguishableMixed (compared : Type 0) : List Traced → List AnyDone → List AnyDone → Type 0 where
  done : IndistinguishableMixed compared [] [] []
  step : {p : Traced} {x y : AnyDone} {ps : List Traced} {xs ys : List AnyDone} → SameDone compared p x y
      → IndistinguishableMixed compared ps xs ys → IndistinguishableMixed compared (p ∷ ps) (x ∷ xs) (y ∷ ys)
