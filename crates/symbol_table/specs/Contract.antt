-- What the functions promise: equations with the definition's tables, and what stays as it was.
use Rattle.std.specs.Prelude.{ℕ, suc, ◌+◌, ◌*◌, ◌%◌, ◌^◌, ◌≤◌, ◌<◌, Bool, true, ◌≡◌, List, [], ◌∷◌, length, get_or, take, drop, Option, Some, None, Result, Ok, Err}
use Rattle.std.proofs.Math.Option as maybe
use Rattle.std.proofs.Math.Option.{none, some}
use Rattle.definition.specs.Basic.{Bytes, byte_at}
use Rattle.definition.specs.Number
use Rattle.definition.specs.declared.reason.Reason.{Reason}
use Rattle.definition.specs.Opcode.{instr, op_set_global, op_set_local}
use Rattle.definition.specs.SymbolTable.{Symbol, Table, find, find_global, find_builtin, Resolved, cross, resolve, crossed, Defined, place, named, with_params}
use Rattle.definition.specs.Session.{Words}
use Rattle.definition.specs.Limit.{globals_limit, words_limit, arguments_limit}
use Rattle.definition.specs.Decode.{decoded, items, read_name_field, read_words, read_names, words_in}
use Rattle.field.specs.Layout.{content}
use Rattle.field.specs.Row.{HasRow, RowOf}
use Rattle.field.specs.declared.fields.Fields.{Fields}
use Rattle.symbol_table.specs.Name.{Stands, buckets, hash_of}
use Rattle.symbol_table.specs.Search.{turn_number, nodes_at, child_of, latest_of, with_child, with_latest, Way, Goes}
use Rattle.symbol_table.specs.Layout.{globals_size, heads_at, head_of, part_size, entries_at, tag_in, base, part, symbol_of, table_of, tables_of, globals_of, globals_in, GoodTable, GoodGlobals, Good, entries, marked_at, marks_at, code_of, IsMarked, Marked, GoodPart}
use Rattle.symbol_table.specs.Store.{global_in}
use Rattle.symbol_table.specs.declared.globals.End.{End}
use Rattle.symbol_table.specs.declared.globals.End.TheVariants.{Hit, Open}
use Rattle.symbol_table.specs.declared.Found.{Found}
use Rattle.symbol_table.specs.declared.LookupError.{LookupError}
use Rattle.symbol_table.specs.declared.LookupError.TheVariants.{Undefined, Full}
use Rattle.symbol_table.specs.declared.Slot.{Slot}
use Rattle.symbol_table.specs.declared.Slot.TheVariants.{Global, Local}
use Rattle.symbol_table.specs.declared.DefineError.{DefineError}
use Rattle.symbol_table.specs.declared.DefineError.TheVariants.{GlobalsFull, LocalsFull}

-- what a lookup answers
abbrev pub Lookup : Type 0
Lookup = Result Found LookupError

-- what a definition answers
abbrev pub Definition : Type 0
Definition = Result Slot DefineError

-- an answer of a search in one table
abbrev pub hit_of : Option ℕ → maybe.Option Symbol
hit_of (Some c) = some (symbol_of c)
hit_of None = none

-- an index, as the symbol of its kind
abbrev pub as_symbol : (ℕ → Symbol) → maybe.Option ℕ → maybe.Option Symbol
as_symbol f (some k) = some (f k)
as_symbol f none = none

-- a lookup's answer, with the tables after it
abbrev pub resolved_of : Lookup → List Table → Resolved
resolved_of (Ok f) ts = Resolved.found (symbol_of f.code) ts
resolved_of (Err Undefined) ts = Resolved.undefined
resolved_of (Err Full) ts = Resolved.full

-- the code of a name that was looked for outside all functions: 1 is no code
abbrev pub code_or : Option ℕ → ℕ
code_or (Some c) = c
code_or None = 1

-- the reason that a refused lookup tells
abbrev pub lookup_reason : LookupError → Reason
lookup_reason Undefined = Number.undefined
lookup_reason Full = Number.captures

-- the functions crossed by a lookup that found its name
abbrev pub Crossed : ℕ → Lookup → Type 0
Crossed n (Ok f) = f.crossed ≡ n
Crossed n (Err e) = Unit {0}

-- one more fits
abbrev pub Few : Lookup → Type 0
Few (Ok f) = f.crossed + 1 < 2 ^ 64
Few (Err e) = Unit {0}

-- one more is crossed
abbrev pub Further : Lookup → Lookup → Type 0
Further (Ok f) (Ok g) = g.crossed ≡ f.crossed + 1
Further (Err e) (Ok g) = ⊥
Further outer (Err e) = Unit {0}

-- the first of two symbols that is there
abbrev pub first_of : maybe.Option Symbol → maybe.Option Symbol → Resolved
first_of (some x) y = Resolved.found x []
first_of none (some y) = Resolved.found y []
first_of none none = Resolved.undefined

-- outside all functions: the global of a name, or else the builtin
abbrev pub outermost_of : List Bytes → List Bytes → Bytes → Resolved
outermost_of bs gs n = first_of (as_symbol Symbol.global (find_global n gs)) (as_symbol Symbol.builtin (find_builtin n bs 0))

-- the reason that a refused definition tells
abbrev pub define_reason : DefineError → Reason
define_reason GlobalsFull = Number.globals
define_reason LocalsFull = Number.locals

-- a definition's answer, with the names and the tables after it
abbrev pub defined_of : Definition → List Bytes → List Table → Defined
defined_of (Ok (Global k)) gs ts = Defined.defined (instr op_set_global k 0) gs ts
defined_of (Ok (Local k)) gs ts = Defined.defined (instr op_set_local k 0) gs ts
defined_of (Err e) gs ts = Defined.no_room (define_reason e)

-- a name of the tree, and its hash
pub record IsName (tree : Bytes) (name hash : ℕ) : Type 0 where
  pub stands : Stands tree name
  pub is : hash ≡ hash_of (content tree name)

-- a global as it stands in a node: by its index and 1, or 0 for none
abbrev pub standing_as : Option ℕ → ℕ
standing_as (Some k) = k + 1
standing_as None = 0

-- of the first entries of a function's part, those behind the k-th have other tags
pub record PassedOver (r : List ℕ) (from tag k : ℕ) : Type 0 where
  pub order : k ≤ from
  pub others : (i : ℕ) → k ≤ i → i < from → tag_in (get_or r (entries_at + i) 0) ≡ tag → ⊥

-- the part of the function at a level changed so, and nothing else
pub record Inside (P : List ℕ → List ℕ → Type 0) (l : ℕ) (a a' : List ℕ) : Type 0 where
  pub here : P (part l a) (part l a')
  pub below : take (base l) a' ≡ take (base l) a
  pub above : drop (base l + part_size) a' ≡ drop (base l + part_size) a

-- the first so many numbers are the same
abbrev pub SameBelow : ℕ → List ℕ → List ℕ → Type 0
SameBelow k r r' = (j : ℕ) → j < k → get_or r' j 0 ≡ get_or r j 0

-- marks before the first is set: what they were counts only where entries are marked
pub record BeginsMarks (r r' : List ℕ) : Type 0 where
  pub same : SameBelow marks_at r r'
  pub kept : (c : ℕ) → 0 < get_or r marked_at 0 → IsMarked r c → IsMarked r' c

-- one entry more is marked, whose name is that of the builtin or the global of a code, if it has one
pub record MarksNext (code : ℕ) (r r' : List ℕ) : Type 0 where
  pub same : SameBelow marked_at r r'
  pub count : get_or r' marked_at 0 ≡ get_or r marked_at 0 + 1
  pub kept : (c : ℕ) → 0 < get_or r marked_at 0 → IsMarked r c → IsMarked r' c
  pub new : 768 ≤ code → IsMarked r' code

-- a function's part with other marks that are right
pub record Remarked (ws gs : List Bytes) (tree : Bytes) (r r' : List ℕ) : Type 0 where
  pub size : length r' ≡ part_size
  pub same : SameBelow marked_at r r'
  pub marks : Marked ws gs tree r'

-- a number that, where it is a code of a builtin or a global, is that of a name
abbrev pub Known : List Bytes → List Bytes → Bytes → ℕ → Type 0
Known ws gs n c = 768 ≤ c → resolve ws gs n [] ≡ Resolved.found (symbol_of c) []

-- the code of the builtin or the global of a name, if there is one
pub record Outermost (ws gs : List Bytes) (n : Bytes) (c : ℕ) : Type 0 where
  pub known : Known ws gs n c
  pub whole : (s : Symbol) → resolve ws gs n [] ≡ Resolved.found s [] → (768 ≤ c) × (code_of s ≡ c)

-- every entry of the function at a level is marked, and nothing else changed
pub record MarksAll (ws gs : List Bytes) (tree : Bytes) (l : ℕ) (a a' : List ℕ) : Type 0 where
  pub remarked : Inside (Remarked ws gs tree) l a a'
  pub all : get_or (part l a') marked_at 0 ≡ entries (part l a')

-- whether the function at a level has surely no entry of the name of a code
pub record Absent (ws gs : List Bytes) (tree : Bytes) (l code : ℕ) (answer : Bool) (a a' : List ℕ) : Type 0 where
  pub absent : answer ≡ true → (n : Bytes) → Known ws gs n code → find n (table_of tree (part l a)).entries ≡ none
  pub remarked : Inside (Remarked ws gs tree) l a a'

-- a lookup comes back through a function's part
pub record Crosses (name hash : ℕ) (outer answer : Lookup) (r r' : List ℕ) : Type 0 where
  pub resolved : (tree : Bytes) (ts : List Table) → resolved_of answer (table_of tree r' ∷ ts) ≡ cross (content tree name) (table_of tree r) (resolved_of outer ts)
  pub further : Further outer answer
  pub good : (ws gs : List Bytes) (tree : Bytes) → IsName tree name hash → GoodPart ws gs tree r → GoodPart ws gs tree r'

-- the bytes before a session's pool begin with words, or have document 01's
pub record HasWords (names : Bytes) : Type 0 where
  pub words : Words
  pub end : ℕ
  pub reads : read_words (byte_at names) 0 (length names) ≡ decoded words end

-- the fields of these words: few of them, as they are read
pub record IsWords (names : Bytes) (s : Fields) : Type 0 where
  pub row : RowOf s
  pub few : length row.names ≤ words_limit
  pub are : row.names ≡ words_in names

-- a lookup from inside so many open functions, with the builtins' names
pub record Resolves (builtins : List Bytes) (tree names : Bytes) (level name : ℕ) (answer : Lookup) (a a' : List ℕ) : Type 0 where
  pub resolved : resolved_of answer (tables_of tree level a') ≡ resolve builtins (globals_in tree names a) (content tree name) (tables_of tree level a)
  pub crossed : Crossed (crossed (content tree name) (tables_of tree level a)) answer
  pub good : Good tree names level a'
  pub globals : take globals_size a' ≡ take globals_size a
  pub above : drop (base level) a' ≡ drop (base level) a

-- the globals of a side, whose names are in some bytes, can be searched for a name
pub record Searchable (bytes : Bytes) (side : ℕ) (g : List ℕ) (n : Bytes) : Type 0 where
  pub size : length g ≡ globals_size
  pub count : get_or g 0 0 ≤ globals_limit
  pub found : maybe.Option ℕ
  pub way : Way bytes side g n 0 (head_of g n side) found

-- what is found where a search ends
abbrev pub found_at : List ℕ → End → maybe.Option ℕ
found_at g (Hit k) = some (latest_of (get_or g (nodes_at + k) 0))
found_at g (Open at on) = none

-- where a global more of the name goes then, and the number that is to stand there
abbrev pub place_of : End → ℕ
place_of (Hit k) = nodes_at + k
place_of (Open at on) = at

abbrev pub number_at : List ℕ → End → ℕ
number_at g (Hit k) = with_latest (get_or g (nodes_at + k) 0) (get_or g 0 0)
number_at g (Open at on) = with_child (get_or g at 0) (turn_number on) (get_or g 0 0 + 1)

-- no global hangs where a search ends without one
abbrev pub Vacant : List ℕ → End → Type 0
Vacant g (Hit k) = Unit {0}
Vacant g (Open at on) = child_of (get_or g at 0) (turn_number on) ≡ 0

-- the search for a name ends there: that is what it finds, and where a global more of the name goes
pub record Ends (bytes : Bytes) (side : ℕ) (g : List ℕ) (n : Bytes) (e : End) : Type 0 where
  pub found : (r : maybe.Option ℕ) → Way bytes side g n 0 (head_of g n side) r → r ≡ found_at g e
  pub goes : Goes bytes side g n 0 (heads_at + hash_of n % buckets) side (place_of e) (number_at g e)
  pub within : place_of e < globals_size
  pub vacant : Vacant g e

-- a global more can be added, of the session's on side 0 or of the tree's on side 1: its name is at an offset
pub record Addable (bytes : Bytes) (side : ℕ) (g : List ℕ) (name hash : ℕ) : Type 0 where
  pub size : length g ≡ globals_size
  pub room : get_or g 0 0 < globals_limit
  pub named : IsName bytes name hash
  pub within : name < 65536
  pub found : maybe.Option ℕ
  pub way : Way bytes side g (content bytes name) 0 (head_of g (content bytes name) side) found

-- it is added where the search for its name ends
pub record Adds (bytes : Bytes) (side name : ℕ) (g g' : List ℕ) : Type 0 where
  pub place : ℕ
  pub number : ℕ
  pub goes : Goes bytes side g (content bytes name) 0 (heads_at + hash_of (content bytes name) % buckets) side place number
  pub is : g' ≡ global_in g (65536 * side + name) place number

-- a definition among the globals
pub record DefinesGlobal (tree : Bytes) (name : ℕ) (answer : Definition) (g g' : List ℕ) : Type 0 where
  pub defined : (names : Bytes) → defined_of answer (globals_of tree names g') [] ≡ place (content tree name) (globals_of tree names g) []
  pub good : (names : Bytes) → GoodGlobals tree names g → GoodGlobals tree names g'

-- a definition in a function's part
pub record DefinesLocal (name hash : ℕ) (answer : Definition) (r r' : List ℕ) : Type 0 where
  pub defined : (tree : Bytes) (gs : List Bytes) (ts : List Table) → defined_of answer gs (table_of tree r' ∷ ts) ≡ place (content tree name) gs (table_of tree r ∷ ts)
  pub good : (ws gs : List Bytes) (tree : Bytes) → IsName tree name hash → GoodPart ws gs tree r → GoodPart ws gs tree r'

-- a definition in the innermost of so many open functions, or among the globals
pub record Defines (tree : Bytes) (level name : ℕ) (answer : Definition) (a a' : List ℕ) : Type 0 where
  pub defined : (names : Bytes) → defined_of answer (globals_in tree names a') (tables_of tree level a') ≡ place (content tree name) (globals_in tree names a) (tables_of tree level a)
  pub good : (names : Bytes) → Good tree names level a → Good tree names level a'
  pub above : drop (base level) a' ≡ drop (base level) a

-- the parameters of a function: few enough fields, from an offset up to an end
pub record HasParams (tree : Bytes) (from end : ℕ) : Type 0 where
  pub row : HasRow tree from end
  pub few : length row.names ≤ arguments_limit

-- parameters of these names more in a function's part
pub record Params (tree : Bytes) (names : List Bytes) (r r' : List ℕ) : Type 0 where
  pub table : table_of tree r' ≡ with_params names (table_of tree r)
  pub good : GoodTable tree r'
  pub marked : get_or r' marked_at 0 ≡ get_or r marked_at 0

-- a function's part as it is opened: its name, then its parameters, with no entry marked
pub record Opens (tree : Bytes) (name : ℕ) (names : List Bytes) (r' : List ℕ) : Type 0 where
  pub table : table_of tree r' ≡ with_params names (named (content tree name))
  pub good : GoodTable tree r'
  pub unmarked : get_or r' marked_at 0 ≡ 0

-- a function is entered
pub record Enters (tree : Bytes) (level name : ℕ) (names : List Bytes) (a a' : List ℕ) : Type 0 where
  pub tables : tables_of tree (suc level) a' ≡ with_params names (named (content tree name)) ∷ tables_of tree level a
  pub good : (names : Bytes) → Good tree names level a → Good tree names (suc level) a'
  pub globals : take globals_size a' ≡ take globals_size a
  pub above : drop (base (suc level)) a' ≡ drop (base (suc level)) a

-- a session has names at an offset
pub record HasNames (session : Bytes) (start : ℕ) : Type 0 where
  pub names : List Bytes
  pub end : ℕ
  pub reads : read_names (byte_at session) start (length session) ≡ decoded names end

-- name fields that fill a session from an offset up to an end
pub record HasItems (session : Bytes) (from end : ℕ) : Type 0 where
  pub names : List Bytes
  pub stop : ℕ
  pub reads : items (read_name_field (byte_at session)) globals_limit [] from end ≡ decoded names stop
  pub order : from ≤ end
  pub within : end ≤ length session

-- the names of a session become the globals; from then on the session's bytes before `end` are enough
pub record StartsGlobals (session : Bytes) (from end : ℕ) (g' : List ℕ) : Type 0 where
  pub globals : (tree : Bytes) (h : HasItems session from end) → globals_of tree (take end session) g' ≡ h.names
  pub good : (tree : Bytes) → GoodGlobals tree (take end session) g'

-- the table area as a walk starts: the names from an offset up to an end, and no open function
pub record StartsFrom (session : Bytes) (from end : ℕ) (a a' : List ℕ) : Type 0 where
  pub globals : (tree : Bytes) (h : HasItems session from end) → globals_in tree (take end session) a' ≡ h.names
  pub good : (tree : Bytes) → Good tree (take end session) 0 a'
  pub above : drop globals_size a' ≡ drop globals_size a

-- the table area as a compile starts: the session's names, and no open function
pub record Starts (session : Bytes) (start end : ℕ) (a a' : List ℕ) : Type 0 where
  pub globals : (tree : Bytes) (h : HasNames session start) → globals_in tree (take end session) a' ≡ h.names
  pub good : (tree : Bytes) → Good tree (take end session) 0 a'
  pub above : drop globals_size a' ≡ drop globals_size a
