-- What the checks of code, constants, images and sessions answer, from what the definition reads.
use Rattle.std.specs.Prelude.{ℕ, zero, suc, ◌+◌, ◌-◌, ◌≤◌, Bool, true, false, List, [], ◌≡◌, length, eqb, Option, Some, None, Result, Ok, Err}
use Rattle.definition.specs.Basic.{Bytes, byte_at, pick, both}
use Rattle.definition.specs.Limit.{constants_limit}
use Rattle.definition.specs.Number.{refusal, no_session, bad_image}
use Rattle.definition.specs.Field.{Head, fits, head, name_head}
use Rattle.definition.specs.Bytecode.{Code, Const, Image}
use Rattle.definition.specs.Session.{Words, Session}
use Rattle.definition.specs.Decode.{Decoded, decoded, malformed, then, items, all_zero, read_head, pool_head, read_code, read_const, read_name_field, read_words, read_front, read_session}
use Rattle.bytecode.specs.Form.{const_head_in, read_const_in, main_head_in}
use Rattle.bytecode.specs.declared.Form.{Form}
use Rattle.definition.specs.declared.reason.Refusal.{Refusal}
use Rattle.definition.specs.Answer.{Answer}
use Rattle.bytecode.specs.declared.field_head.Head.{Head as Found}
use Rattle.bytecode.specs.declared.item_check.Items.{Items}
use Rattle.bytecode.specs.declared.Malformed.{Malformed}
use Rattle.bytecode.specs.declared.SessionLayout.{SessionLayout}

-- a part of the bytes
pub record Part (b : Bytes) (at end : ℕ) : Type 0 where
  pub order : at ≤ end
  pub within : end ≤ length b

-- four parts are equally long
pub record Alike (a b c d : Bytes) : Type 0 where
  pub two : length b ≡ length a
  pub three : length c ≡ length a
  pub four : length d ≡ length a

-- and zero throughout
abbrev pub four_zero : Bytes → Bytes → Bytes → Bytes → Bool
four_zero a b c d = both (all_zero a) (both (all_zero b) (both (all_zero c) (all_zero d)))

-- a head of the code as one of the definition, and back
abbrev pub head_of : Found → Head
head_of h = record { tag = h.tag; len = h.len }

abbrev pub found_head : Head → Found
found_head h = record { tag = h.tag; len = h.len }

-- the tests of a head, which look at no other byte
abbrev pub is_constant : Form → Head → Bool
is_constant f = const_head_in f (λ i. 0)

abbrev pub is_pool : Head → Bool
is_pool = pool_head (λ i. 0)

abbrev pub is_main : Form → Head → Bool
is_main f = main_head_in f (λ i. 0)

abbrev pub is_name : Head → Bool
is_name = name_head 1

-- the head of a field that stands whole before `end`
abbrev pub head_answer : (ℕ → ℕ) → ℕ → ℕ → Option Found
head_answer byte at end = pick (fits at end (head byte at)) (Some (found_head (head byte at))) None

-- something is wrong at an offset
abbrev pub wrong : {A : Type 0} → ℕ → Result A Malformed
wrong p = Err (record { place = p })

-- a head that was read
abbrev pub found : Decoded Head → Result Found Malformed
found (decoded h n) = Ok (found_head h)
found (malformed p) = wrong p

-- an item: the offset after it
abbrev pub item : {A : Type 0} → Decoded A → Result ℕ Malformed
item (decoded x n) = Ok n
item (malformed p) = wrong p

-- so many items, and the offset after them
abbrev pub filled : ℕ → ℕ → Result Items Malformed
filled k n = Ok (record { count = k; end = n })

-- items: how many, and the offset after them
abbrev pub checked : {A : Type 0} → Decoded (List A) → Result Items Malformed
checked (decoded xs n) = filled (length xs) n
checked (malformed p) = wrong p

-- where an item was read, what follows
abbrev pub behind : {A : Type 0} → Result ℕ Malformed → (ℕ → Result A Malformed) → Result A Malformed
behind (Ok n) k = k n
behind (Err e) k = Err e

-- items up to the end behind so many others, at most so many more, by the offset after each
unfoldable pub counted : (ℕ → Result ℕ Malformed) → ℕ → ℕ → ℕ → ℕ → Result Items Malformed
counted next end zero count at = pick (eqb at end) (filled count at) (wrong at)
counted next end (suc most) count at = pick (eqb at end) (filled count at) (behind (next at) (λ at₁. counted next end most (count + 1) at₁))

-- something was read
abbrev pub is_read : {A : Type 0} → Decoded A → Bool
is_read (decoded x n) = true
is_read (malformed p) = false

module _ (byte : ℕ → ℕ) where
  -- code decodes from an offset up to an end
  abbrev pub is_code : ℕ → ℕ → Bool
  is_code end at = is_read (read_code byte (end - at) at end)

  -- the content of a pool
  abbrev pub constants : ℕ → ℕ → Decoded (List Const)
  constants start end = items (read_const byte) constants_limit [] start end

  -- and of a pool in a form
  abbrev pub constants_in : Form → ℕ → ℕ → Decoded (List Const)
  constants_in f start end = items (read_const_in f byte) constants_limit [] start end

  -- the content of a field of names, at most so many
  abbrev pub name_fields : ℕ → ℕ → ℕ → Decoded (List Bytes)
  name_fields most start end = items (read_name_field byte) most [] start end

  -- an image's main code
  abbrev pub main_code : Form → ℕ → Decoded Code
  main_code f n = then (read_head byte (main_head_in f byte) 0 n) (λ h in₀. read_code byte h.len in₀ (in₀ + h.len))

-- an image: how many constants it has; number 17 where something is wrong
abbrev pub image_answer : Decoded Image → Result ℕ Refusal
image_answer (decoded m n) = Ok (length m.pool)
image_answer (malformed p) = Err (refusal bad_image p)

-- a session: where the words and the names that were read end, where the pool ends, and how many names and constants there are
abbrev pub layout : Decoded Words → Decoded (Words × List Bytes) → Decoded Session → Option SessionLayout
layout (decoded w k) (decoded f at) (decoded z n) =
    Some (record { words_end = k; names_end = at; pool_end = n; names = length z.globals; constants = length z.pool })
layout (decoded w k) (decoded f at) (malformed p) = None
layout (decoded w k) (malformed q) d = None
layout (malformed q) f d = None

abbrev pub layout_of : Bytes → Option SessionLayout
layout_of b = layout (read_words (byte_at b) 0 (length b)) (read_front (byte_at b) 0 (length b)) (read_session b)

-- the words of a session end there
pub record WordsEnd (b : Bytes) (k : ℕ) : Type 0 where
  pub words : Words
  pub reads : read_words (byte_at b) 0 (length b) ≡ decoded words k

-- a layout as document 01 numbers it: how many bytes its fields have, or number 2
abbrev pub layout_answer : Option SessionLayout → Answer
layout_answer (Some l) = Ok l.pool_end
layout_answer None = Err (refusal no_session 0)

-- and so what the definition reads
abbrev pub session_answer : Decoded Session → Answer
session_answer (decoded z n) = Ok n
session_answer (malformed p) = Err (refusal no_session 0)

-- reading a session's layout: the definition's, and its number
pub record LaysOut (b : Bytes) (r : Option SessionLayout) : Type 0 where
  pub layout : r ≡ layout_of b
  pub answer : layout_answer r ≡ session_answer (read_session b)
