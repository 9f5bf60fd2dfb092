-- The table area: what its numbers stand for, and when they stand well.
-- First the globals: their count; 1,024 names; 1,024 nodes of search trees; for each bucket the heads of two search trees, of the session's globals and of the tree's.
-- Then a part for each open function, the outermost first: 1 where it has a name, its definitions, its free symbols; 512 entries; 255 originals;
-- how many of its entries are marked; 1,280 marks in 40 numbers, one for each code of a builtin or a global: the mark is set where a marked entry has its name.
use Rattle.std.specs.Prelude.{ℕ, zero, suc, ◌+◌, ◌-◌, ◌*◌, ◌/◌, ◌%◌, ◌≤◌, ◌<◌, ◌^◌, ◌≡◌, List, [], ◌∷◌, length, get_or, take, drop, ltb}
use Rattle.std.proofs.Math.Option.{Option, none, some}
use Rattle.definition.specs.Basic.{Bytes, pick}
use Rattle.definition.specs.Limit.{globals_limit, locals_limit, free_limit}
use Rattle.definition.specs.SymbolTable.{Symbol, Entry, Table, find_global, Resolved, resolve}
use Rattle.definition.specs.Decode.{words_in}
use Rattle.field.specs.Layout.{content}
use Rattle.symbol_table.specs.Name.{Stands, buckets, hash_of}
use Rattle.symbol_table.specs.Search.{child_of, Way}
use Rattle.symbol_table.specs.declared.globals.NamePlace.{NamePlace}
use Rattle.symbol_table.specs.declared.globals.NamePlace.TheVariants.{Session, Tree}

-- the numbers of the globals; where the heads of the buckets begin
abbrev pub globals_size : ℕ
globals_size = 3073

abbrev pub heads_at : ℕ
heads_at = 2049

-- the numbers of a function's part; where its entries begin; where its originals begin; how many entries are marked; where its marks begin, and how many they are
abbrev pub part_size : ℕ
part_size = 811

abbrev pub entries_at : ℕ
entries_at = 3

abbrev pub originals_at : ℕ
originals_at = 515

abbrev pub marked_at : ℕ
marked_at = 770

abbrev pub marks_at : ℕ
marks_at = 771

abbrev pub marks_count : ℕ
marks_count = 1280

-- where the part of the function at a level begins
abbrev pub base : ℕ → ℕ
base l = globals_size + part_size * l

abbrev pub part : ℕ → List ℕ → List ℕ
part l a = take part_size (drop (base l) a)

-- a symbol as a code below 2048
unfoldable pub symbol_of : ℕ → Symbol
symbol_of c =
    pick (ltb c 256) Symbol.function
    (pick (ltb c 512) (Symbol.local (c - 256))
    (pick (ltb c 768) (Symbol.free (c - 512))
    (pick (ltb c 1024) (Symbol.builtin (c - 768)) (Symbol.global (c - 1024)))))

-- the code of a builtin or a global
abbrev pub code_of : Symbol → ℕ
code_of (Symbol.builtin k) = 768 + k
code_of (Symbol.global k) = 1024 + k
code_of (Symbol.local k) = 0
code_of (Symbol.free k) = 0
code_of Symbol.function = 0

-- an entry of a function's part: the offset of its name, the code of its symbol, and seven bits of its name's hash
abbrev pub packed : ℕ → ℕ → ℕ → ℕ
packed name code hash = name + 32768 * code + 33554432 * (hash % 128)

abbrev pub name_in : ℕ → ℕ
name_in v = v % 32768

abbrev pub code_in : ℕ → ℕ
code_in v = v / 32768 % 1024

abbrev pub tag_in : ℕ → ℕ
tag_in v = v / 33554432

abbrev pub entry_of : Bytes → ℕ → Entry
entry_of tree v = record { name = content tree (name_in v); symbol = symbol_of (code_in v) }

-- what `count` numbers from `start` on stand for, the latest first
unfoldable pub back : {A : Type 0} → (ℕ → A) → List ℕ → ℕ → ℕ → List A
back f r start zero = []
back f r start (suc n) = f (get_or r (start + n) 0) ∷ back f r start n

-- how many entries a function's part has
abbrev pub entries : List ℕ → ℕ
entries r = get_or r 0 0 + get_or r 1 0 + get_or r 2 0

-- the first so many originals of a function's free symbols
abbrev pub originals_of : List ℕ → ℕ → List Symbol
originals_of r n = back symbol_of r originals_at n

-- the symbols of some codes, the latest first
abbrev pub symbols_in : List ℕ → List Symbol
symbols_in codes = back symbol_of codes 0 (length codes)

-- the table of a function's part
unfoldable pub table_of : Bytes → List ℕ → Table
table_of tree r = record { entries = back (entry_of tree) r entries_at (entries r); definitions = get_or r 1 0; originals = originals_of r (get_or r 2 0) }

-- the tables of so many open functions, the innermost first
unfoldable pub tables_of : Bytes → ℕ → List ℕ → List Table
tables_of tree zero a = []
tables_of tree (suc l) a = table_of tree (part l a) ∷ tables_of tree l a

-- the name of a global: an offset among the session's names, or 65536 more than an offset in the tree
abbrev pub global_name : Bytes → Bytes → ℕ → Bytes
global_name tree names v = pick (ltb v 65536) (content names v) (content tree (v - 65536))

-- the offset of a place
abbrev pub offset_of : NamePlace → ℕ
offset_of (Session k) = k
offset_of (Tree k) = k

-- a number is that of a place
abbrev pub StandsAt : ℕ → NamePlace → Type 0
StandsAt v (Session k) = (v ≡ k) × (k < 65536)
StandsAt v (Tree k) = v ≡ 65536 + k

-- the global names, the latest first
unfoldable pub globals_of : Bytes → Bytes → List ℕ → List Bytes
globals_of tree names g = back (global_name tree names) g 1 (get_or g 0 0)

-- the same of the whole area
abbrev pub globals_in : Bytes → Bytes → List ℕ → List Bytes
globals_in tree names a = globals_of tree names (take globals_size a)

-- a function's part is within its limits
pub record Sized (r : List ℕ) : Type 0 where
  pub size : length r ≡ part_size
  pub own : get_or r 0 0 ≤ 1
  pub definitions : get_or r 1 0 ≤ locals_limit
  pub free : get_or r 2 0 ≤ free_limit

-- an entry has a whole name, and bits of its hash
pub record GoodEntry (tree : Bytes) (v : ℕ) : Type 0 where
  pub stands : Stands tree (name_in v)
  pub tag : tag_in v ≡ hash_of (content tree (name_in v)) % 128

pub record GoodTable (tree : Bytes) (r : List ℕ) : Type 0 where
  pub sized : Sized r
  pub each : (i : ℕ) → i < entries r → GoodEntry tree (get_or r (entries_at + i) 0)

-- the mark of a code is set in a function's part: 32 marks are in a number
abbrev pub IsMarked : List ℕ → ℕ → Type 0
IsMarked r c = get_or r (marks_at + c % marks_count / 32) 0 / 2 ^ (c % marks_count % 32) % 2 ≡ 1

-- the builtins or globals that marked entries have the names of are marked
pub record Marked (words globals : List Bytes) (tree : Bytes) (r : List ℕ) : Type 0 where
  pub order : get_or r marked_at 0 ≤ entries r
  pub each : (i : ℕ) → i < get_or r marked_at 0 → (s : Symbol) → resolve words globals (content tree (name_in (get_or r (entries_at + i) 0))) [] ≡ Resolved.found s [] → IsMarked r (code_of s)

-- a function's part stands well
pub record GoodPart (words globals : List Bytes) (tree : Bytes) (r : List ℕ) : Type 0 where
  pub table : GoodTable tree r
  pub marks : Marked words globals tree r

-- a global has a whole name
pub record GlobalStands (tree names : Bytes) (v : ℕ) : Type 0 where
  pub old : v < 65536 → Stands names v
  pub new : 65536 ≤ v → Stands tree (v - 65536)

-- the first of two indices that is there
abbrev pub first_found : Option ℕ → Option ℕ → Option ℕ
first_found (some k) o = some k
first_found none o = o

-- the global below one of the heads of a name's bucket: the session's on side 0, the tree's on side 1
abbrev pub head_of : List ℕ → Bytes → ℕ → ℕ
head_of g n side = child_of (get_or g (heads_at + hash_of n % buckets) 0) side

-- a search for a name, among the tree's globals and then among the session's, finds the latest of that name
pub record Finds (tree names : Bytes) (g : List ℕ) (n : Bytes) : Type 0 where
  pub new : Option ℕ
  pub old : Option ℕ
  pub below_new : Way tree 1 g n 0 (head_of g n 1) new
  pub below_old : Way names 0 g n 0 (head_of g n 0) old
  pub latest : find_global n (globals_of tree names g) ≡ first_found new old

pub record GoodGlobals (tree names : Bytes) (g : List ℕ) : Type 0 where
  pub size : length g ≡ globals_size
  pub count : get_or g 0 0 ≤ globals_limit
  pub stands : (i : ℕ) → i < get_or g 0 0 → GlobalStands tree names (get_or g (1 + i) 0)
  pub finds : (n : Bytes) → Finds tree names g n

-- the whole area stands well, with so many open functions
unfoldable pub Good : Bytes → Bytes → ℕ → List ℕ → Type 0
Good tree names zero a = GoodGlobals tree names (take globals_size a)
Good tree names (suc l) a = GoodPart (words_in names) (globals_in tree names a) tree (part l a) × Good tree names l a
