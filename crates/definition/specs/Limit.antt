-- The sizes and limits of documents 01 and 02.
use Rattle.std.specs.Prelude.{ℕ, ◌+◌}

-- the session: words, names, pool, zeros
abbrev pub session_size : ℕ
session_size = 65536

-- the code area; the open chunks together, and an image's main code
abbrev pub code_size : ℕ
code_size = 32768

-- the table area, in 32-bit numbers
abbrev pub table_size : ℕ
table_size = 16384

-- a tree
abbrev pub tree_limit : ℕ
tree_limit = 32768

-- the deepest level of a field, Program's being 1
abbrev pub level_limit : ℕ
level_limit = 64

-- the bytes of a name
abbrev pub name_limit : ℕ
name_limit = 32

-- the definitions of a session
abbrev pub globals_limit : ℕ
globals_limit = 1024

-- the words of a session
abbrev pub words_limit : ℕ
words_limit = 24

-- the constants of a pool
abbrev pub constants_limit : ℕ
constants_limit = 4096

-- a pool's content
abbrev pub pool_limit : ℕ
pool_limit = 28672

-- an image: two heads, main code, a pool's content
abbrev pub image_limit : ℕ
image_limit = 6 + code_size + pool_limit

-- the definitions of a function, its parameters among them
abbrev pub locals_limit : ℕ
locals_limit = 256

-- the free symbols of a function
abbrev pub free_limit : ℕ
free_limit = 255

-- the parameters of a function, and the arguments of a call
abbrev pub arguments_limit : ℕ
arguments_limit = 255

-- the open functions
abbrev pub nesting_limit : ℕ
nesting_limit = 16
