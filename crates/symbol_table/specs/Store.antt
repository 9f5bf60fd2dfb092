-- What is stored in a part of the area.
use Rattle.std.specs.Prelude.{ℕ, ◌+◌, ◌*◌, min, ◌/◌, ◌%◌, ◌^◌, List, get_or, set}
use Rattle.std.specs.Int.Bits.{bit_or}
use Rattle.symbol_table.specs.Search.{nodes_at}
use Rattle.symbol_table.specs.Layout.{entries_at, originals_at, marked_at, marks_at, marks_count, packed, entries}

-- a function is entered, with a name of n bytes
unfoldable pub entered_in : List ℕ → ℕ → ℕ → ℕ → List ℕ
entered_in r name hash n = set (set (set (set (set r marked_at 0) 0 (min n 1)) 1 0) 2 0) entries_at (packed name 0 hash)

-- an entry more, with a symbol's code
abbrev pub entry_in : List ℕ → ℕ → ℕ → ℕ → List ℕ
entry_in r name hash code = set r (entries_at + entries r) (packed name code hash)

-- a definition more
unfoldable pub local_in : List ℕ → ℕ → ℕ → List ℕ
local_in r name hash = set (entry_in r name hash (256 + get_or r 1 0)) 1 (get_or r 1 0 + 1)

-- a free symbol more, and its original
unfoldable pub free_in : List ℕ → ℕ → ℕ → ℕ → List ℕ
free_in r name hash code = set (set (entry_in r name hash (512 + get_or r 2 0)) (originals_at + get_or r 2 0) code) 2 (get_or r 2 0 + 1)

-- a global more with a node of its own, and a number at a place
unfoldable pub global_in : List ℕ → ℕ → ℕ → ℕ → List ℕ
global_in g v at number = set (set (set (set g (1 + get_or g 0 0) v) (nodes_at + (1 + get_or g 0 0)) (4194304 * get_or g 0 0)) at number) 0 (get_or g 0 0 + 1)

-- the mark of a code
unfoldable pub mark_in : List ℕ → ℕ → List ℕ
mark_in r code = set r (marks_at + code % marks_count / 32) (bit_or (get_or r (marks_at + code % marks_count / 32) 0) (2 ^ (code % marks_count % 32)))
