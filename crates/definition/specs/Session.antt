-- Sessions: what a call leaves to the next.
use Rattle.std.specs.Prelude.{ℕ, ◌-◌, List, [], ◌∷◌, ◌++◌, reverse, length, replicate}
use Rattle.definition.specs.Basic.{Bytes}
use Rattle.definition.specs.Limit.{session_size}
use Rattle.definition.specs.Tag.{tag_name, tag_words, tag_names, tag_pool}
use Rattle.definition.specs.Field.{field}
use Rattle.definition.specs.Bytecode.{Const, written, pool_bytes}
use Rattle.definition.specs.SymbolTable.{builtins}

-- the words of a session: document 01's six, which a session of two fields has; or a list of its own, in index order, in a first field
pub data Words : Type 0 where
  six : Words
  listed : List Bytes → Words

abbrev pub word_list : Words → List Bytes
word_list six = builtins
word_list (listed ws) = ws

-- the number of a session's fields
abbrev pub field_count : Words → ℕ
field_count six = 2
field_count (listed ws) = 3

-- the words; the global names and the constants, the latest first
pub record Session : Type 0 where
  pub words : Words
  pub globals : List Bytes
  pub pool : List Const

-- a session of these words without definitions and constants
abbrev pub begun : Words → Session
begun w = record { words = w; globals = []; pool = [] }

-- document 01's fresh session
abbrev pub fresh : Session
fresh = begun six

abbrev pub name_bytes : Bytes → Bytes
name_bytes = field tag_name

abbrev pub names_bytes : List Bytes → Bytes
names_bytes = written name_bytes

-- name fields in the order of the list
abbrev pub in_order : List Bytes → Bytes
in_order [] = []
in_order (n ∷ ns) = name_bytes n ++ in_order ns

-- the words' field, where there is one
abbrev pub words_field : Words → Bytes
words_field six = []
words_field (listed ws) = field tag_words (names_bytes (reverse ws))

-- the fields before the pool
abbrev pub front_fields : Words → List Bytes → Bytes
front_fields w ns = words_field w ++ field tag_names (names_bytes ns)

-- its two or three fields
abbrev pub session_fields : Session → Bytes
session_fields z = front_fields z.words z.globals ++ field tag_pool (pool_bytes z.pool)

-- zeros up to 65,536 follow
abbrev pub session_bytes : Session → Bytes
session_bytes z = session_fields z ++ replicate (session_size - length (session_fields z)) 0
