-- A record for each Identifier: the walk that keeps them, and the compile call that hands them over.
use Rattle.std.specs.Prelude.{ℕ, List, [], ◌∷◌, reverse, length, leb, eqb}
use Rattle.definition.specs.Basic.{Bytes, pick}
use Rattle.definition.specs.Number
use Rattle.definition.specs.Number.{refusal}
use Rattle.definition.specs.Syntax.{Stmt, Stmts, Else, Expr, Exprs}
use Rattle.definition.specs.Walk.{Res, Go, Machine, less_than, walk_stmts}
use Rattle.definition.specs.SymbolTable.{Symbol, Resolved, resolve, crossed}
use Rattle.definition.specs.Compiler.{State, machine, load}
use Rattle.definition.specs.Tree.{Parsed, read_tree}
use Rattle.definition.specs.Session.{Session}
use Rattle.definition.specs.Compile.{Outcome, Step, Request, start, turned_down, finish, enough}
use Rattle.records.specs.declared.Kind.{Kind}
use Rattle.records.specs.declared.Kind.TheVariants.{Global, Local, Builtin, Free, Function}
use Rattle.records.specs.declared.Record.{Record}

-- What a record says

abbrev pub kind_of : Symbol → Kind
kind_of (Symbol.global k) = Global
kind_of (Symbol.local k) = Local
kind_of (Symbol.builtin k) = Builtin
kind_of (Symbol.free k) = Free
kind_of Symbol.function = Function

abbrev pub index_of : Symbol → ℕ
index_of (Symbol.global k) = k
index_of (Symbol.local k) = k
index_of (Symbol.builtin k) = k
index_of (Symbol.free k) = k
index_of Symbol.function = 0

-- the record of an Identifier: its tree offset, the functions crossed, its symbol
abbrev pub record_of : ℕ → ℕ → Symbol → Record
record_of p c y = record { offset = p; kind = kind_of y; index = index_of y; crossed = c }

-- a lookup's record before the others, where it found a symbol
abbrev pub noted : ℕ → ℕ → Resolved → List Record → List Record
noted p c (Resolved.found y ts) l = record_of p c y ∷ l
noted p c Resolved.undefined l = l
noted p c Resolved.full l = l

-- the state of the walk, and the records so far, the latest first
pub record Logged : Type 0 where
  pub state : State
  pub records : List Record

abbrev pub logged : List Record → State → Logged
logged l s = record { state = s; records = l }

-- what a step of the machine gives, beside the records
abbrev pub beside : {A : Type 0} → List Record → Res State A → Res Logged A
beside l (Res.on a s) = Res.on a (logged l s)
beside l (Res.stop r s) = Res.stop r (logged l s)

-- a load, with its lookup's record
unfoldable pub load_noted : ℕ → Bytes → Go Logged
load_noted p n s = beside (noted p (crossed n s.state.tables) (resolve s.state.words s.state.globals n s.state.tables) s.records) (load p n s.state)

-- the walk's machine, which also keeps the records: every step but the load leaves them
abbrev pub logging : Machine Logged
logging =
    record {
      emit = λ p i s. beside s.records (machine.emit p i s.state);
      boolean = λ p b s. beside s.records (machine.boolean p b s.state);
      integer = λ p b s. beside s.records (machine.integer p b s.state);
      string = λ p b s. beside s.records (machine.string p b s.state);
      load = load_noted;
      define = λ p n s. beside s.records (machine.define p n s.state);
      jump = λ p o s. beside s.records (machine.jump p o s.state);
      patch = λ j s. logged s.records (machine.patch j s.state);
      drop_pop = λ p s. beside s.records (machine.drop_pop p s.state);
      enter = λ p n ps s. beside s.records (machine.enter p n ps s.state);
      leave = λ p k outer s. beside s.records (machine.leave p k outer.state s.state);
    }

-- The tree offsets of a tree's Identifiers, in walk order, the latest first, before others

unfoldable mutual
  pub mentions_stmt : Stmt → List ℕ → List ℕ
  mentions_stmt (Stmt.expr_stmt p e) l = mentions_expr e l
  mentions_stmt (Stmt.let_stmt p n e) l = mentions_expr e l
  mentions_stmt (Stmt.return_stmt p e) l = mentions_expr e l
  mentions_stmt (Stmt.block p b) l = mentions b l

  pub mentions : Stmts → List ℕ → List ℕ
  mentions Stmts.no_stmts l = l
  mentions (Stmts.stmts x xs) l = mentions xs (mentions_stmt x l)

  pub mentions_else : Else → List ℕ → List ℕ
  mentions_else Else.no_else l = l
  mentions_else (Else.else b) l = mentions b l

  pub mentions_expr : Expr → List ℕ → List ℕ
  mentions_expr (Expr.identifier p n) l = p ∷ l
  mentions_expr (Expr.prefix p o e) l = mentions_expr e l
  mentions_expr (Expr.infixed p a o b) l = pick (eqb o less_than) (mentions_expr a (mentions_expr b l)) (mentions_expr b (mentions_expr a l))
  mentions_expr (Expr.if p c t e) l = mentions_else e (mentions t (mentions_expr c l))
  mentions_expr (Expr.function p n ps b) l = mentions b l
  mentions_expr (Expr.call p f args) l = mentions_exprs args (mentions_expr f l)
  mentions_expr (Expr.integer p b) l = l
  mentions_expr (Expr.boolean p b) l = l
  mentions_expr (Expr.string p b) l = l
  mentions_expr (Expr.array p es) l = mentions_exprs es l
  mentions_expr (Expr.index p a i) l = mentions_expr i (mentions_expr a l)
  mentions_expr (Expr.hash p es) l = mentions_exprs es l
  mentions_expr (Expr.macro p) l = l

  pub mentions_exprs : Exprs → List ℕ → List ℕ
  mentions_exprs Exprs.no_exprs l = l
  mentions_exprs (Exprs.exprs x xs) l = mentions_exprs xs (mentions_expr x l)

-- those of a tree that reads, in walk order
abbrev pub identifiers_in : Parsed Stmts → List ℕ
identifiers_in (Parsed.parsed b n) = reverse (mentions b [])
identifiers_in (Parsed.refused r) = []

abbrev pub identifiers : Bytes → List ℕ
identifiers tree = identifiers_in (read_tree tree)

-- The call

-- a call's step, and the records that it writes, in walk order
pub record Traced : Type 0 where
  pub step : Step
  pub records : List Record

abbrev pub untraced : Step → Traced
untraced x = record { step = x; records = [] }

-- a refusal writes none
abbrev pub handed : List Record → Outcome → List Record
handed l (Outcome.accepted m) = reverse l
handed l (Outcome.refused r) = []

abbrev pub traced : List Record → Step → Traced
traced l x = record { step = x; records = handed l x.outcome }

-- the walk's end: no more Identifiers than records; then as without records
abbrev pub finish_records : ℕ → ℕ → Session → Res Logged (Unit {0}) → Traced
finish_records room output z (Res.on a s) =
    pick (leb (length s.records) room) (traced s.records (finish output z (Res.on a s.state))) (untraced (turned_down z (refusal Number.few_records 0)))
finish_records room output z (Res.stop r s) = untraced (turned_down z r)

abbrev pub translate_records : ℕ → ℕ → Session → Parsed Stmts → Traced
translate_records room output z (Parsed.parsed b n) = finish_records room output z (walk_stmts logging b (logged [] (start z)))
translate_records room output z (Parsed.refused r) = untraced (turned_down z r)

-- compiling with so many records
unfoldable pub compile_records : ℕ → Session → Request → Traced
compile_records room z c = pick (enough c) (translate_records room c.output z (read_tree c.tree)) (untraced (turned_down z (refusal Number.short_buffer 0)))
