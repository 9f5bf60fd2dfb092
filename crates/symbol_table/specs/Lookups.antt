-- What a lookup of a name needs of the table area, and what it finds there.
use Rattle.std.specs.Prelude.{ℕ, ◌+◌, ◌≤◌, ◌≡◌, List, [], length, take, Option, Some, None, Bool}
use Rattle.definition.specs.Basic.{Bytes}
use Rattle.definition.specs.SymbolTable.{find}
use Rattle.definition.specs.Decode.{words_in}
use Rattle.field.specs.Layout.{content}
use Rattle.symbol_table.specs.Layout.{globals_size, part_size, base, part, table_of, globals_in, GoodGlobals, GoodPart, Good}
use Rattle.symbol_table.specs.Contract.{Lookup, hit_of, resolved_of, outermost_of, code_or, Crossed, HasWords, Inside, Remarked, Known, Outermost, Resolves, MarksAll}
use Rattle.symbol_table.specs.Contract as contract
use Rattle.symbol_table.specs.declared.query.Query.{Query}
use Rattle.symbol_table.specs.declared.query.Known as known
use Rattle.symbol_table.specs.declared.query.Known.TheVariants.{Unasked, Absent, Code}

-- what is known, as a number: 0 is a name not yet looked for, 1 one that is not there
abbrev pub number_of : known.Known → ℕ
number_of Unasked = 0
number_of Absent = 1
number_of (Code c) = c

-- a code that is known is that of a builtin or a global
abbrev pub Far : known.Known → Type 0
Far Unasked = Unit {0}
Far Absent = Unit {0}
Far (Code c) = 768 ≤ c

abbrev pub FarCode : Option ℕ → Type 0
FarCode (Some c) = 768 ≤ c
FarCode None = Unit {0}

module _ (q : Query) where
  -- the name that is sought
  abbrev pub name_of : Bytes
  name_of = content q.key.tree.now q.key.at

  -- the words, and the global names of an area
  abbrev pub words_of : List Bytes
  words_of = words_in q.names.now

  abbrev pub globals_of_area : List ℕ → List Bytes
  globals_of_area a = globals_in q.key.tree.now q.names.now a

  -- what stands outside all functions stands well
  pub record Outside (a : List ℕ) : Type 0 where
    pub words : HasWords q.names.now
    pub size : globals_size ≤ length a
    pub globals : GoodGlobals q.key.tree.now q.names.now (take globals_size a)

  -- the part of the function at a level does too
  pub record Opened (l : ℕ) (a : List ℕ) : Type 0 where
    pub outside : Outside a
    pub size : base l + part_size ≤ length a
    pub good : GoodPart words_of (globals_of_area a) q.key.tree.now (part l a)

  -- the parts of so many open functions do
  pub record Standing (level : ℕ) (a : List ℕ) : Type 0 where
    pub words : HasWords q.names.now
    pub size : base level ≤ length a
    pub good : Good q.key.tree.now q.names.now level a

  -- what is known, where it is the code of a builtin or a global, is that of the name
  pub record IsKnown (a : List ℕ) (k : known.Known) : Type 0 where
    pub code : Known words_of (globals_of_area a) name_of (number_of k)
    pub far : Far k

  -- the code of the builtin or the global of the name, if there is one
  pub record HasCode (a : List ℕ) (r : Option ℕ) : Type 0 where
    pub outermost : Outermost words_of (globals_of_area a) name_of (code_or r)
    pub far : FarCode r

  -- the name's symbol outside all functions
  pub record IsOutermost (a : List ℕ) (answer : Lookup) : Type 0 where
    pub resolved : resolved_of answer [] ≡ outermost_of words_of (globals_of_area a) name_of
    pub crossed : Crossed 0 answer

  -- the latest entry of the name in the part of the function at a level
  abbrev pub IsEntry : ℕ → List ℕ → Option ℕ → Type 0
  IsEntry l a r = hit_of r ≡ find name_of (table_of q.key.tree.now (part l a)).entries

  -- the marks of the function at a level are others that are right
  abbrev pub Remarks : ℕ → List ℕ → List ℕ → Type 0
  Remarks l a a' = Inside (Remarked words_of (globals_of_area a) q.key.tree.now) l a a'

  -- its symbol, seen from inside so many open functions
  abbrev pub IsResolved : ℕ → Lookup → List ℕ → List ℕ → Type 0
  IsResolved level answer a a' = Resolves words_of q.key.tree.now q.names.now level q.key.at answer a a'

  -- every entry of the function at a level is marked, and nothing else changed
  abbrev pub MarksEntries : ℕ → List ℕ → List ℕ → Type 0
  MarksEntries l a a' = MarksAll words_of (globals_of_area a) q.key.tree.now l a a'

  -- whether the function at a level has surely no entry of the name of a code
  abbrev pub Lacks : ℕ → known.Known → Bool → List ℕ → List ℕ → Type 0
  Lacks l k answer a a' = contract.Absent words_of (globals_of_area a) q.key.tree.now l (number_of k) answer a a'
