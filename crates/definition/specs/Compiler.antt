-- The compiler's state, and what each step of the walk does to it.
use Rattle.std.specs.Prelude.{ℕ, ◌+◌, Bool, false, List, [], ◌∷◌, length, leb, ltb, eqb}
use Rattle.definition.specs.Basic.{Bytes, pick}
use Rattle.definition.specs.Limit.{code_size, constants_limit, pool_limit, arguments_limit, nesting_limit}
use Rattle.definition.specs.Number
use Rattle.definition.specs.Opcode.{Instr, instr, plain, size, op_constant, op_pop, op_true, op_false, op_return_value, op_return, op_closure}
use Rattle.definition.specs.Bytecode.{Code, size_of, Const, pool_size}
use Rattle.definition.specs.Walk.{Res, on, refuse, bind, Go, Machine}
use Rattle.definition.specs.SymbolTable.{Symbol, Table, Resolved, Defined, resolve, load_of, place, named, with_params}

-- the code of the chunk in work; the bytes of the open chunks around it; the tables of the open functions, the innermost first;
-- the session's words, in index order; the global names and the constants, the latest first
pub record State : Type 0 where
  pub code : Code
  pub around : ℕ
  pub tables : List Table
  pub words : List Bytes
  pub globals : List Bytes
  pub pool : List Const

abbrev pub with_code : Code → State → State
with_code c s = record { code = c; around = s.around; tables = s.tables; words = s.words; globals = s.globals; pool = s.pool }

abbrev pub with_tables : List Table → State → State
with_tables ts s = record { code = s.code; around = s.around; tables = ts; words = s.words; globals = s.globals; pool = s.pool }

abbrev pub with_symbols : List Bytes → List Table → State → State
with_symbols gs ts s = record { code = s.code; around = s.around; tables = ts; words = s.words; globals = gs; pool = s.pool }

abbrev pub with_pool : List Const → State → State
with_pool cs s = record { code = s.code; around = s.around; tables = s.tables; words = s.words; globals = s.globals; pool = cs }

-- an instruction more, while a chunk of `closing` bytes still counts as open
unfoldable pub emit_beside : ℕ → ℕ → Instr → Go State
emit_beside closing p i s = pick (leb (s.around + size_of s.code + closing + size i) code_size) (on tt (with_code (i ∷ s.code) s)) (refuse Number.code p s)

abbrev pub emit : ℕ → Instr → Go State
emit = emit_beside 0

-- a constant more, and its index
unfoldable pub add_constant : ℕ → Const → State → Res State ℕ
add_constant p c s =
    pick (leb constants_limit (length s.pool)) (refuse Number.pool p s)
    (pick (leb (pool_size (c ∷ s.pool)) pool_limit)
    (on (length s.pool) (with_pool (c ∷ s.pool) s))
    (refuse Number.pool p s))

-- each literal has a constant of its own, added before its instruction
abbrev pub literal : ℕ → Const → Go State
literal p c s = bind (add_constant p c s) (λ k. emit p (instr op_constant k 0))

abbrev pub boolean_of : ℕ → Instr
boolean_of b = plain (pick (eqb b 0) op_false op_true)

abbrev pub loaded : ℕ → State → Resolved → Res State (Unit {0})
loaded p s (Resolved.found y ts) = emit p (load_of y) (with_tables ts s)
loaded p s Resolved.undefined = refuse Number.undefined p s
loaded p s Resolved.full = refuse Number.captures p s

unfoldable pub load : ℕ → Bytes → Go State
load p n s = loaded p s (resolve s.words s.globals n s.tables)

abbrev pub placed : ℕ → State → Defined → Res State Instr
placed p s (Defined.defined i gs ts) = on i (with_symbols gs ts s)
placed p s (Defined.no_room k) = refuse k p s

unfoldable pub define : ℕ → Bytes → State → Res State Instr
define p n s = placed p s (place n s.globals s.tables)

-- the last instruction is of that byte
abbrev pub last_is : ℕ → Code → Bool
last_is o [] = false
last_is o (i ∷ is) = eqb i.op o

-- code without its last instruction
abbrev pub without_last : Code → Code
without_last [] = []
without_last (i ∷ is) = is

-- a branch's last Pop is dropped, a last ReturnValue stays; a branch with neither yields no value (behind an empty one, its jump is last)
unfoldable pub dropped : ℕ → Go State
dropped p s =
    pick (last_is op_pop s.code) (on tt (with_code (without_last s.code) s))
    (pick (last_is op_return_value s.code) (on tt s) (refuse Number.no_value p s))

-- the target of a jump that is not yet patched
abbrev pub unpatched : ℕ
unpatched = 9999

unfoldable pub jump : ℕ → ℕ → State → Res State ℕ
jump p o s = bind (emit p (instr o unpatched 0) s) (λ _. on (size_of s.code))

-- the instruction at a position gets another operand
abbrev pub change_operand : ℕ → ℕ → Code → Code
change_operand pos target [] = []
change_operand pos target (i ∷ is) = pick (eqb (size_of is) pos) (instr i.op target i.b ∷ is) (i ∷ change_operand pos target is)

unfoldable pub patch : ℕ → State → State
patch pos s = with_code (change_operand pos (size_of s.code) s.code) s

unfoldable pub enter : ℕ → Bytes → List Bytes → Go State
enter p n ps s =
    pick (leb nesting_limit (length s.tables)) (refuse Number.nesting p s)
    (pick (ltb arguments_limit (length ps)) (refuse Number.too_many p s)
    (on tt (record { code = []; around = s.around + size_of s.code; tables = with_params ps (named n) ∷ s.tables; words = s.words; globals = s.globals; pool = s.pool })))

-- the last Pop becomes ReturnValue; where ReturnValue isn't last, Return follows
unfoldable pub returned : ℕ → Go State
returned p s =
    pick (last_is op_pop s.code) (on tt (with_code (plain op_return_value ∷ without_last s.code) s))
    (pick (last_is op_return_value s.code) (on tt s) (emit p (plain op_return) s))

-- the captured originals are loaded, the first one first
unfoldable pub loads : ℕ → ℕ → List Symbol → Go State
loads closing p [] s = on tt s
loads closing p (y ∷ ys) s = bind (loads closing p ys s) (λ _. emit_beside closing p (load_of y))

-- the loads outside, the constant, Closure; the innermost table is the function's (an open function always has one)
abbrev pub close_over : ℕ → ℕ → State → State → List Table → Res State (Unit {0})
close_over p params outer inner [] = on tt outer
close_over p params outer inner (t ∷ ts) =
    bind (loads (size_of inner.code) p t.originals (record { code = outer.code; around = outer.around; tables = ts; words = inner.words; globals = inner.globals; pool = inner.pool })) (λ _ s₁.
    bind (add_constant p (Const.function t.definitions params inner.code) s₁) (λ k.
    emit p (instr op_closure k (length t.originals))))

unfoldable pub leave : ℕ → ℕ → State → Go State
leave p params outer inner = bind (returned p inner) (λ _ s. close_over p params outer s s.tables)

-- the walk's machine
abbrev pub machine : Machine State
machine =
    record {
      emit = emit;
      boolean = λ p b. emit p (boolean_of b);
      integer = λ p b. literal p (Const.integer b);
      string = λ p b. literal p (Const.string b);
      load = load;
      define = define;
      jump = jump;
      patch = patch;
      drop_pop = dropped;
      enter = enter;
      leave = leave;
    }
