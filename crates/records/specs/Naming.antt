-- The names alone: the walk on a machine that keeps tables, global names and records, and neither code nor constants. Where the
-- compile call accepts a tree, this walk over it gives the call's records.
use Rattle.std.specs.Prelude.{ℕ, List, [], ◌∷◌, reverse, length, leb, ltb}
use Rattle.definition.specs.Basic.{Bytes, pick}
use Rattle.definition.specs.Limit.{arguments_limit, nesting_limit}
use Rattle.definition.specs.Number
use Rattle.definition.specs.Syntax.{Stmts}
use Rattle.definition.specs.Opcode.{Instr}
use Rattle.definition.specs.Walk.{Res, on, refuse, Go, Machine, walk_stmts}
use Rattle.definition.specs.SymbolTable.{Table, Resolved, Defined, resolve, crossed, place, named, with_params}
use Rattle.definition.specs.Tree.{Parsed}
use Rattle.definition.specs.Session.{Session, word_list}
use Rattle.records.specs.Records.{record_of, Logged}
use Rattle.records.specs.declared.Record.{Record}

-- the built-in words, the tables of the open functions, the global names, and the records so far, the latest first
pub record Names : Type 0 where
  pub words : List Bytes
  pub tables : List Table
  pub globals : List Bytes
  pub records : List Record

abbrev pub names : List Bytes → List Table → List Bytes → List Record → Names
names ws ts gs l = record { words = ws; tables = ts; globals = gs; records = l }

abbrev pub names_of : Logged → Names
names_of s = names s.state.words s.state.tables s.state.globals s.records

abbrev pub looked_up : ℕ → ℕ → Names → Resolved → Res Names (Unit {0})
looked_up p c s (Resolved.found y ts) = on tt (names s.words ts s.globals (record_of p c y ∷ s.records))
looked_up p c s Resolved.undefined = refuse Number.undefined p s
looked_up p c s Resolved.full = refuse Number.captures p s

-- a lookup, and its record
unfoldable pub look_up : ℕ → Bytes → Go Names
look_up p n s = looked_up p (crossed n s.tables) s (resolve s.words s.globals n s.tables)

abbrev pub placed_name : ℕ → Names → Defined → Res Names Instr
placed_name p s (Defined.defined i gs ts) = on i (names s.words ts gs s.records)
placed_name p s (Defined.no_room k) = refuse k p s

unfoldable pub define_name : ℕ → Bytes → Names → Res Names Instr
define_name p n s = placed_name p s (place n s.globals s.tables)

-- within the limits of open functions and of parameters
unfoldable pub enter_name : ℕ → Bytes → List Bytes → Go Names
enter_name p n ps s =
    pick (leb nesting_limit (length s.tables)) (refuse Number.nesting p s)
    (pick (ltb arguments_limit (length ps)) (refuse Number.too_many p s) (on tt (names s.words (with_params ps (named n) ∷ s.tables) s.globals s.records)))

-- without the innermost table (an open function always has one)
abbrev pub closed : Names → Names → List Table → Names
closed outer inner [] = names outer.words outer.tables outer.globals inner.records
closed outer inner (t ∷ ts) = names inner.words ts inner.globals inner.records

abbrev pub naming : Machine Names
naming =
    record {
      emit = λ p i s. on tt s;
      boolean = λ p b s. on tt s;
      integer = λ p b s. on tt s;
      string = λ p b s. on tt s;
      load = look_up;
      define = define_name;
      jump = λ p o s. on 0 s;
      patch = λ j s. s;
      drop_pop = λ p s. on tt s;
      enter = enter_name;
      leave = λ p k outer s. on tt (closed outer s s.tables);
    }

-- the records of a tree, in walk order; none where the walk stops
abbrev pub records_at : Res Names (Unit {0}) → List Record
records_at (Res.on a s) = reverse s.records
records_at (Res.stop r s) = []

unfoldable pub records_of : Session → Stmts → List Record
records_of z b = records_at (walk_stmts naming b (names (word_list z.words) [] z.globals []))

abbrev pub records_in : Session → Parsed Stmts → List Record
records_in z (Parsed.parsed b n) = records_of z b
records_in z (Parsed.refused r) = []
