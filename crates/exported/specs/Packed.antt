-- Answers as one 64-bit number, and what the exported functions promise.
use Rattle.std.specs.Prelude.{ℕ, ◌+◌, ◌-◌, ◌*◌, ◌/◌, ◌%◌, ◌<◌, ◌≡◌, List, [], ◌∷◌, length, eqb, slice_index_or, Ok, Err}
use Rattle.definition.specs.Basic.{Bytes, pick}
use Rattle.definition.specs.Limit.{session_size}
use Rattle.definition.specs.Session.{Words, six}
use Rattle.definition.specs.Valid.{AreBytes}
use Rattle.definition.specs.Number.{refusal, output_short, number_of}
use Rattle.definition.specs.Decode.{decoded, read_handed, read_image}
use Rattle.definition.specs.Call.{Lent, Called, call, made, made_words}
use Rattle.definition.specs.Series.{Call, session_after, lent}
use Rattle.definition.specs.Listing.{list_answer, list_into}
use Rattle.definition.specs.Output.{output_answer, output_after}
use Rattle.definition.specs.Answer.{Answer}
use Rattle.text.specs.Script.{read_text, answer_of as readAnswer, output_of as readOutput}
use Rattle.load.specs.Load.{tree_of}
use Rattle.definition.specs.declared.reason.Reason.{Reason}
use Rattle.definition.specs.declared.reason.Reason.TheVariants.{ShortBuffer, NoSession, BadTree, TooDeep, Undefined, Operator, Macro, TooMany, Locals, Captures, Globals, Pool, Code, Nesting, OutputShort, BadInstruction, BadImage, FewRecords, BadWords, BadScript, LargeInteger, NoValue, BadSize, NoFrame, BadHeights, BadJump, NotRunnable, Operand, Unset}

-- what the numbers of a half are below: 2 to the 32nd
abbrev pub half_bound : ℕ
half_bound = 4294967296

-- the high half: the number of a refusal, 0 where there is none
abbrev pub high : Answer → ℕ
high (Ok n) = 0
high (Err r) = number_of r.reason

-- the low half: the length, or the place of a refusal
abbrev pub low : Answer → ℕ
low (Ok n) = n
low (Err r) = r.place

-- an answer as one number
abbrev pub packed : Answer → ℕ
packed a = high a * half_bound + low a

-- the reasons in the order of their numbers, from 1 on
abbrev pub reasons : List Reason
reasons = ShortBuffer ∷ NoSession ∷ BadTree ∷ TooDeep ∷ Undefined ∷ Operator ∷ Macro ∷ TooMany ∷ Locals ∷ Captures ∷ Globals ∷ Pool ∷ Code ∷ Nesting ∷ OutputShort ∷ BadInstruction ∷ BadImage ∷ FewRecords ∷ BadWords ∷ BadScript ∷ LargeInteger ∷ NoValue ∷ BadSize ∷ NoFrame ∷ BadHeights ∷ BadJump ∷ NotRunnable ∷ Operand ∷ Unset ∷ []

-- the reason of a number
abbrev pub reason_of : ℕ → Reason
reason_of n = slice_index_or reasons (n - 1) ShortBuffer

-- the answer of two halves: a length where the high one is 0
abbrev pub of_halves : ℕ → ℕ → Answer
of_halves h l = pick (eqb h 0) (Ok l) (Err (refusal (reason_of h) l))

-- the answer of a number
abbrev pub unpacked : ℕ → Answer
unpacked r = of_halves (r / half_bound) (r % half_bound)

-- the halves of an answer tell which it is
pub record Told (a : Answer) : Type 0 where
  pub back : of_halves (high a) (low a) ≡ a

-- the halves of an answer fit
pub record Fits (a : Answer) : Type 0 where
  pub number : high a < half_bound
  pub value : low a < half_bound

-- a number is the answer, and its halves are the answer's
pub record Packs (a : Answer) (r : ℕ) : Type 0 where
  pub whole : r ≡ packed a
  pub number : r / half_bound ≡ high a
  pub value : r % half_bound ≡ low a

-- the number that says of an image, listed into an empty output, that it is sound
abbrev pub sound_number : ℕ
sound_number = number_of output_short

-- making a session: answer and buffer are the definition's, and the answer is had from its number
pub record MakesPacked (s : Bytes) (r : ℕ) (s' : Bytes) : Type 0 where
  pub answer : Packs (made s).answer r
  pub back : unpacked r ≡ (made s).answer
  pub session : s' ≡ (made s).session

-- making a session with words, likewise
pub record WordsPacked (s names : Bytes) (r : ℕ) (s' : Bytes) : Type 0 where
  pub answer : Packs (made_words s names).answer r
  pub back : unpacked r ≡ (made_words s names).answer
  pub session : s' ≡ (made_words s names).session

-- a buffer as an exported call that was not refused made a session in it, of these words
pub data MadeByPacked (s : Bytes) : Words → Type 0 where
  fresh : (a : Bytes) {r : ℕ} → MakesPacked a r s → unpacked r ≡ Ok session_size → MadeByPacked s six
  worded : (a names : Bytes) {r : ℕ} {w : Words} {n : ℕ} → AreBytes names → WordsPacked a names r s → unpacked r ≡ Ok session_size → read_handed names ≡ decoded w n → MadeByPacked s w

-- compiling: answer and lent memory are the definition's, and the answer is had from its number
pub record CompilesPacked (tree : Bytes) (l : Lent) (r : ℕ) (l' : Lent) : Type 0 where
  pub answer : Packs (call tree l).answer r
  pub back : unpacked r ≡ (call tree l).answer
  pub lent : l' ≡ (call tree l).lent

-- a series of exported compile calls that ran: each on the session that those before it left
pub data RanPacked : Bytes → List Call → List Called → Type 0 where
  none : {s : Bytes} → RanPacked s [] []
  more : {s : Bytes} {c : Call} {r : ℕ} {l' : Lent} {cs : List Call} {xs : List Called} → CompilesPacked c.tree (lent s c) r l' → RanPacked (session_after s l'.session) cs xs
      → RanPacked s (c ∷ cs) (record { answer = unpacked r; lent = l' } ∷ xs)

-- checking and listing an image: answer and output are the definition's
pub record ListsPacked (image o : Bytes) (r : ℕ) (o' : Bytes) : Type 0 where
  pub answer : Packs (list_answer (read_image image) (length o)) r
  pub output : o' ≡ list_into (read_image image) o

-- the tree of a seed: answer and output are the list's
pub record LoadsPacked (seed : ℕ) (o : Bytes) (r : ℕ) (o' : Bytes) : Type 0 where
  pub answer : Packs (output_answer (tree_of seed) (length o)) r
  pub output : o' ≡ output_after (tree_of seed) o

-- a script in text form: answer and output are the definition's
pub record ReadsPacked (text o : Bytes) (r : ℕ) (o' : Bytes) : Type 0 where
  pub answer : Packs (readAnswer (read_text (length o) text)) r
  pub output : o' ≡ readOutput (read_text (length o) text) o
