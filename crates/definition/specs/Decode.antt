-- Reading code, the pool, an image and a session from bytes: what they hold, or the offset of the first thing that is wrong.
use Rattle.std.specs.Prelude.{ℕ, zero, suc, ◌+◌, ◌*◌, Bool, true, false, List, [], ◌∷◌, reverse, length, drop, leb, eqb}
use Rattle.definition.specs.Basic.{Bytes, byte_at, pick, both}
use Rattle.definition.specs.Limit.{code_size, pool_limit, constants_limit, globals_limit, words_limit}
use Rattle.definition.specs.Tag.{tag_words, tag_names, tag_main, tag_pool, tag_integer_const, tag_string_const, tag_function_const}
use Rattle.definition.specs.Opcode.{Instr, size, whole, instr_at}
use Rattle.definition.specs.Field.{Head, tagged, name_head, fits, bytes, head}
use Rattle.definition.specs.Bytecode.{Code, Const, Image}
use Rattle.definition.specs.SymbolTable.{distinct}
use Rattle.definition.specs.Session.{Words, six, listed, word_list, Session}

-- what was read, and the offset after it; or the offset of what is wrong
pub data Decoded (A : Type 0) : Type 0 where
  decoded : A → ℕ → Decoded A
  malformed : ℕ → Decoded A

abbrev pub then : {A B : Type 0} → Decoded A → (A → ℕ → Decoded B) → Decoded B
then (decoded a n) k = k a n
then (malformed p) k = malformed p

-- nothing may follow
abbrev pub ending : {A : Type 0} → A → ℕ → ℕ → Decoded A
ending a at end = pick (eqb at end) (decoded a at) (malformed at)

-- items up to the end, behind those of `xs`, at most so many more
unfoldable pub items : {A : Type 0} → (ℕ → ℕ → Decoded A) → ℕ → List A → ℕ → ℕ → Decoded (List A)
items f zero xs at end = ending xs at end
items f (suc most) xs at end =
    let more = then (f at end) (λ x at₁. items f most (x ∷ xs) at₁ end) in
    pick (eqb at end) (decoded xs at) more

-- names, the latest first, as words: in index order, none repeated
abbrev pub as_words : List Bytes → ℕ → Decoded Words
as_words ns at = pick (distinct (reverse ns)) (decoded (listed (reverse ns)) at) (malformed at)

module _ (byte : ℕ → ℕ) where
  -- an instruction
  abbrev pub read_instr : ℕ → ℕ → Decoded Instr
  read_instr at end = pick (whole byte at end) (decoded (instr_at byte at) (at + size (instr_at byte at))) (malformed at)

  -- code over a part: each instruction has a byte at least
  abbrev pub read_code : ℕ → ℕ → ℕ → Decoded Code
  read_code len at end = items read_instr len [] at end

  -- a field's tag and length, if they are right; then its content begins
  abbrev pub read_head : (Head → Bool) → ℕ → ℕ → Decoded Head
  read_head good at end = pick (both (fits at end (head byte at)) (good (head byte at))) (decoded (head byte at) (at + 3)) (malformed at)

  abbrev pub const_head : Head → Bool
  const_head h = pick (tagged tag_integer_const h) (eqb h.len 8) (pick (tagged tag_string_const h) true (both (tagged tag_function_const h) (leb 3 h.len)))

  -- a function: locals, parameters, code
  abbrev pub read_function : ℕ → ℕ → Decoded Const
  read_function in₀ len = then (read_code len (in₀ + 3) (in₀ + len)) (λ c. decoded (Const.function (byte in₀ * 256 + byte (in₀ + 1)) (byte (in₀ + 2)) c))

  abbrev pub read_content : Head → ℕ → Decoded Const
  read_content h in₀ =
      let function = read_function in₀ h.len in
      pick (tagged tag_integer_const h) (decoded (Const.integer (bytes byte in₀ h.len)) (in₀ + h.len))
      (pick (tagged tag_string_const h) (decoded (Const.string (bytes byte in₀ h.len)) (in₀ + h.len)) function)

  abbrev pub read_const : ℕ → ℕ → Decoded Const
  read_const at end = then (read_head const_head at end) read_content

  abbrev pub pool_head : Head → Bool
  pool_head h = both (tagged tag_pool h) (leb h.len pool_limit)

  -- the pool: a 4,097th constant is itself wrong
  abbrev pub read_pool : ℕ → ℕ → Decoded (List Const)
  read_pool at end = then (read_head pool_head at end) (λ h in₀. items read_const constants_limit [] in₀ (in₀ + h.len))

  abbrev pub main_head : Head → Bool
  main_head h = both (tagged tag_main h) (leb h.len code_size)

  -- main code, the pool, and nothing more
  unfoldable pub read_image_of : ℕ → Decoded Image
  read_image_of n =
      then (read_head main_head 0 n) (λ h in₀.
      then (read_code h.len in₀ (in₀ + h.len)) (λ c at.
      then (read_pool at n) (λ cs at₁. ending (record { code = c; pool = cs }) at₁ n)))

  -- a name of a session
  abbrev pub read_name_field : ℕ → ℕ → Decoded Bytes
  read_name_field at end = then (read_head (name_head 1) at end) (λ h in₀. decoded (bytes byte in₀ h.len) (in₀ + h.len))

  -- a field of names, at most so many
  abbrev pub read_name_fields : ℕ → ℕ → ℕ → ℕ → Decoded (List Bytes)
  read_name_fields tag most at end = then (read_head (tagged tag) at end) (λ h in₀. items read_name_field most [] in₀ (in₀ + h.len))

  -- the words of a session: its own where it begins with their tag
  abbrev pub read_words : ℕ → ℕ → Decoded Words
  read_words at end = let own = then (read_name_fields tag_words words_limit at end) as_words in pick (eqb (byte at) tag_words) own (decoded six at)

  -- the names of a session
  abbrev pub read_names : ℕ → ℕ → Decoded (List Bytes)
  read_names = read_name_fields tag_names globals_limit

  -- the words and the names of a session
  abbrev pub read_front : ℕ → ℕ → Decoded (Words × List Bytes)
  read_front at end = then (read_words at end) (λ w at₁. then (read_names at₁ end) (λ ns. decoded (w, ns)))

abbrev pub all_zero : Bytes → Bool
all_zero [] = true
all_zero (b ∷ bs) = let rest = all_zero bs in pick (eqb b 0) rest false

-- an image
abbrev pub read_image : Bytes → Decoded Image
read_image b = read_image_of (byte_at b) (length b)

-- the words that a session's bytes begin with, in index order; none where they can't be read
abbrev pub list_in : Decoded Words → List Bytes
list_in (decoded w n) = word_list w
list_in (malformed p) = []

unfoldable pub words_in : Bytes → List Bytes
words_in b = list_in (read_words (byte_at b) 0 (length b))

-- words that are handed over: name fields alone
abbrev pub read_handed : Bytes → Decoded Words
read_handed b = then (items (read_name_field (byte_at b)) words_limit [] 0 (length b)) as_words

-- a session: the words, the global names, the pool, and zeros
unfoldable pub read_session : Bytes → Decoded Session
read_session b =
    then (read_front (byte_at b) 0 (length b)) (λ f at.
    then (read_pool (byte_at b) at (length b)) (λ cs at₁.
    let zeros = pick (all_zero (drop at₁ b)) (decoded (record { words = f.0; globals = f.1; pool = cs }) at₁) (malformed at₁) in
    zeros))
