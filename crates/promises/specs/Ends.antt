-- Condition 1 about every exported call: how it ends, by its 64-bit number and by what it was lent. The numbers that a call may answer are
-- those of include/monkey.h.
use Rattle.std.specs.Prelude.{ℕ, ◌*◌, ◌/◌, ◌%◌, ◌≤◌, ◌<◌, List, [], ◌∷◌, ◌++◌, ◌≡◌, T, length, drop}
use Rattle.definition.specs.Limit.{session_size, code_size, table_size}
use Rattle.definition.specs.Number.{number_of, numbers_of, is_one_of, short_buffer, no_session, bad_tree, too_deep, undefined, operator, macro, too_many, locals, captures, globals, pool, nesting, output_short, bad_image, few_records, no_value, bad_script, large_integer, bad_size, no_frame, bad_heights, not_runnable, operand, unset}
use Rattle.definition.specs.declared.reason.Reason.{Reason}
use Rattle.definition.specs.Call.{Lent, cleared}
use Rattle.definition.specs.Valid.{All}
use Rattle.exported.specs.Packed.{half_bound}
use Rattle.exported.specs.Framed.{quarter_bound}

-- a buffer that is lent: so many numbers at its front are the call's; what it holds before the call, and after it
pub record Buffer : Type 0 where
  pub size : ℕ
  pub before : List ℕ
  pub after : List ℕ

-- by its parts
abbrev pub buffer : ℕ → List ℕ → List ℕ → Buffer
buffer n b b' = record { size = n; before = b; after = b' }

-- as it was
pub record AsItWas (b : Buffer) : Type 0 where
  pub same : b.after ≡ b.before

-- written at the front, where there is room, and as it was behind
pub record Written (b : Buffer) : Type 0 where
  pub room : b.size ≤ length b.before
  pub behind : drop b.size b.after ≡ drop b.size b.before

-- zeroed over its size, which it has, and as it was behind
pub record Zeroed (b : Buffer) : Type 0 where
  pub room : b.size ≤ length b.before
  pub zeros : b.after ≡ cleared b.size b.before

-- one of them is below its size
pub data TooShort : List Buffer → Type 0 where
  here : {b : Buffer} {bs : List Buffer} → length b.before < b.size → TooShort (b ∷ bs)
  later : {b : Buffer} {bs : List Buffer} → TooShort bs → TooShort (b ∷ bs)

-- A call with these numbers, its places within a bound, which was lent buffers to write, by the value that it answers, and work areas, ends
-- so: an answer, written into the buffers; or a numbered refusal with its place, the buffers as they were; the work areas zeroed, or as they
-- were where a session or a work area is too short, which is number 1 at 0, and there alone (`buffers 0` has the sizes that a call needs
-- whatever it answers)
pub data Ended (numbers : List ℕ) (places : ℕ) (buffers : ℕ → List Buffer) (works : List Buffer) (number value : ℕ) : Type 0 where
  answered : number ≡ 0 → (TooShort (buffers 0 ++ works) → ⊥) → All Written (buffers value) → All Zeroed works
      → Ended numbers places buffers works number value
  refused : T (is_one_of numbers number) → (number ≡ number_of short_buffer → ⊥) → (TooShort (buffers 0 ++ works) → ⊥) → value ≤ places
      → All AsItWas (buffers value) → All Zeroed works → Ended numbers places buffers works number value
  short : T (is_one_of numbers number) → number ≡ number_of short_buffer → value ≡ 0 → TooShort (buffers 0 ++ works)
      → All AsItWas (buffers value ++ works) → Ended numbers places buffers works number value

-- by its number's halves
abbrev pub Ends : List ℕ → ℕ → (ℕ → List Buffer) → List Buffer → ℕ → Type 0
Ends numbers places buffers works r = Ended numbers places buffers works (r / half_bound) (r % half_bound)

-- an output into which so many bytes or numbers are written as the call answers
abbrev pub output : List ℕ → List ℕ → ℕ → List Buffer
output o o' n = buffer n o o' ∷ []

-- none
abbrev pub nothing : ℕ → List Buffer
nothing _ = []

-- making a session
abbrev pub session : List ℕ → List ℕ → ℕ → List Buffer
session s s' _ = buffer session_size s s' ∷ []

-- compiling: output and session
abbrev pub compiled : Lent → Lent → ℕ → List Buffer
compiled l l' n = buffer n l.output l'.output ∷ session l.session l'.session n

-- and the work areas
abbrev pub areas : Lent → Lent → List Buffer
areas l l' = buffer code_size l.code l'.code ∷ buffer table_size l.table l'.table ∷ []

-- with numbers for records: four for each, as many as the value's first part says; the second part is the image's length
abbrev pub named : Lent → Lent → List ℕ → List ℕ → ℕ → List Buffer
named l l' xs xs' v = buffer (4 * (v / quarter_bound)) xs xs' ∷ compiled l l' (v % quarter_bound)

-- a trial run: nine bytes for each global, as many as the value's first part says
abbrev pub shown_globals : List ℕ → List ℕ → ℕ → List Buffer
shown_globals o o' v = buffer (9 * (v / quarter_bound)) o o' ∷ []

-- The numbers of each call that no definition below lists. 13, which the header lists for the compile calls, is not among theirs: no tree
-- reaches it (proofs/Number13)

-- a compile call that is lent enough
abbrev pub tree_reasons : List Reason
tree_reasons =
    no_session ∷ bad_tree ∷ too_deep ∷ undefined ∷ operator ∷ macro ∷ too_many ∷ locals ∷ captures ∷ globals ∷ pool ∷ nesting ∷ output_short ∷ no_value ∷ []

-- `monkey_compile`
abbrev pub compile_numbers : List ℕ
compile_numbers = numbers_of (short_buffer ∷ tree_reasons)

-- `monkey_compile_names`
abbrev pub names_numbers : List ℕ
names_numbers = numbers_of (short_buffer ∷ few_records ∷ tree_reasons)

-- `monkey_count_frames`
abbrev pub count_numbers : List ℕ
count_numbers = numbers_of (bad_image ∷ bad_size ∷ [])

-- `monkey_frame`, `monkey_frame_refusal`
abbrev pub frame_numbers : List ℕ
frame_numbers = numbers_of (bad_image ∷ bad_size ∷ no_frame ∷ [])

-- `monkey_load_tree`
abbrev pub load_numbers : List ℕ
load_numbers = numbers_of (output_short ∷ [])

-- `monkey_run`, whose work area is long enough
abbrev pub run_reasons : List Reason
run_reasons = bad_image ∷ bad_heights ∷ not_runnable ∷ output_short ∷ operand ∷ unset ∷ []

-- and any
abbrev pub run_numbers : List ℕ
run_numbers = numbers_of (short_buffer ∷ run_reasons)

-- `monkey_read_text`
abbrev pub text_numbers : List ℕ
text_numbers = numbers_of (bad_script ∷ large_integer ∷ too_deep ∷ output_short ∷ [])

-- `monkey_next_token`
abbrev pub token_numbers : List ℕ
token_numbers = numbers_of (bad_script ∷ large_integer ∷ output_short ∷ [])
