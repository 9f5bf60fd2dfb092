-- Code, constants and images, and the bytes that they are written as.
use Rattle.std.specs.Prelude.{ℕ, ◌+◌, ◌/◌, ◌%◌, List, [], ◌∷◌, ◌++◌, length}
use Rattle.definition.specs.Basic.{Bytes}
use Rattle.definition.specs.Tag.{tag_main, tag_pool, tag_integer_const, tag_string_const, tag_function_const}
use Rattle.definition.specs.Opcode.{Instr, size, bytes_of}
use Rattle.definition.specs.Field.{field}

-- a list is kept with its latest item first, and written with its first item first
abbrev pub written : {A : Type 0} → (A → Bytes) → List A → Bytes
written w [] = []
written w (x ∷ xs) = written w xs ++ w x

-- code, its last instruction first
abbrev pub Code : Type 0
Code = List Instr

-- its length in bytes
abbrev pub size_of : Code → ℕ
size_of [] = 0
size_of (i ∷ is) = size_of is + size i

abbrev pub encode : Code → Bytes
encode = written bytes_of

-- a constant of the pool; a function has its locals, its parameters and its code
pub data Const : Type 0 where
  integer : Bytes → Const
  string : Bytes → Const
  function : ℕ → ℕ → Code → Const

abbrev pub content : Const → Bytes
content (integer b) = b
content (string b) = b
content (function l p c) = l / 256 % 256 ∷ l % 256 ∷ p % 256 ∷ encode c

abbrev pub tag_of : Const → ℕ
tag_of (integer b) = tag_integer_const
tag_of (string b) = tag_string_const
tag_of (function l p c) = tag_function_const

abbrev pub const_bytes : Const → Bytes
const_bytes c = field (tag_of c) (content c)

-- the pool's content, its last constant first
abbrev pub pool_bytes : List Const → Bytes
pool_bytes = written const_bytes

-- its length
abbrev pub pool_size : List Const → ℕ
pool_size [] = 0
pool_size (c ∷ cs) = pool_size cs + (3 + length (content c))

-- main code and pool
pub record Image : Type 0 where
  pub code : Code
  pub pool : List Const

abbrev pub image_bytes : Image → Bytes
image_bytes m = field tag_main (encode m.code) ++ field tag_pool (pool_bytes m.pool)
