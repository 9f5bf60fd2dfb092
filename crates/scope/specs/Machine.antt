-- The walk's machine on views: the steps as the code takes them, on bytes.
use Rattle.std.specs.Prelude.{ℕ, ◌+◌, ◌/◌, ◌%◌, Bool, List, [], ◌∷◌, length, set, take, drop, leb, ltb, eqb}
use Rattle.std.proofs.lemmas.List.Edits.{sets}
use Rattle.definition.specs.Basic.{Bytes, byte_at, pick, both}
use Rattle.definition.specs.Limit.{code_size, constants_limit, pool_limit, arguments_limit, nesting_limit}
use Rattle.definition.specs.Number
use Rattle.definition.specs.Tag.{tag_integer_const, tag_string_const, tag_function_const}
use Rattle.definition.specs.Opcode.{Instr, instr, plain, size, bytes_of, op_constant, op_pop, op_return_value, op_return, op_closure}
use Rattle.definition.specs.Field.{field}
use Rattle.definition.specs.SymbolTable.{Symbol, Table, Resolved, Defined, resolve, load_of, place, named, with_params}
use Rattle.definition.specs.Decode.{words_in}
use Rattle.definition.specs.Walk.{Res, on, refuse, bind, Go, Machine}
use Rattle.definition.specs.Compiler.{boolean_of, unpatched}
use Rattle.scope.specs.View.{View, view}
use Rattle.scope.specs.declared.Chunk.{Chunk}
use Rattle.scope.specs.declared.State.{State}

abbrev pub chunk : ℕ → ℕ → ℕ → ℕ → Chunk
chunk s l a p = record { start = s; len = l; last = a; prev = p }

abbrev pub with_chunk : Chunk → State → State
with_chunk c s = record { chunk = c; level = s.level; constants = s.constants; names_end = s.names_end; pool_end = s.pool_end }

-- where the chunk in work ends in the code area
abbrev pub here : State → ℕ
here s = s.chunk.start + s.chunk.len

-- the chunk with an instruction of so many bytes more
abbrev pub longer : ℕ → State → State
longer n s = with_chunk (chunk s.chunk.start (s.chunk.len + n) s.chunk.len s.chunk.last) s

-- Code

unfoldable pub put : Instr → View → View
put i v = view (sets v.code (here v.state) (bytes_of i)) v.session v.symbols (longer (size i) v.state)

unfoldable pub emit : ℕ → Instr → Go View
emit p i v = pick (leb (here v.state + size i) code_size) (on tt (put i v)) (refuse Number.code p v)

unfoldable pub jump : ℕ → ℕ → View → Res View ℕ
jump p o v = bind (emit p (instr o unpatched 0) v) (λ _. on v.state.chunk.len)

-- the operand of the jump at a position of the chunk becomes the chunk's length
unfoldable pub patch : ℕ → View → View
patch pos v =
    pick (ltb (v.state.chunk.start + pos + 2) code_size)
    (view (sets v.code (v.state.chunk.start + pos + 1) (v.state.chunk.len / 256 % 256 ∷ v.state.chunk.len % 256 ∷ [])) v.session v.symbols v.state) v

-- the last instruction of a chunk is of that byte
abbrev pub last_is : ℕ → Bytes → Chunk → Bool
last_is o c k = both (ltb k.last k.len) (eqb (byte_at c (k.start + k.last)) o)

-- a chunk without its last instruction
abbrev pub without_last : State → State
without_last s = with_chunk (chunk s.chunk.start s.chunk.last s.chunk.prev s.chunk.prev) s

-- a branch's last Pop is dropped, a last ReturnValue stays; a branch with neither yields no value
unfoldable pub dropped : ℕ → Go View
dropped p v =
    pick (last_is op_pop v.code v.state.chunk) (on tt (view v.code v.session v.symbols (without_last v.state)))
    (pick (last_is op_return_value v.code v.state.chunk) (on tt v) (refuse Number.no_value p v))

-- the last Pop becomes ReturnValue; where ReturnValue isn't last, Return follows
unfoldable pub returned : ℕ → Go View
returned p v =
    pick (last_is op_pop v.code v.state.chunk) (on tt (view (set v.code (v.state.chunk.start + v.state.chunk.last) op_return_value) v.session v.symbols v.state))
    (pick (last_is op_return_value v.code v.state.chunk) (on tt v) (emit p (plain op_return) v))

-- Constants: a field more behind the pool, and its index

abbrev pub with_constant : ℕ → State → State
with_constant n s = record { chunk = s.chunk; level = s.level; constants = s.constants + 1; names_end = s.names_end; pool_end = s.pool_end + (3 + n) }

unfoldable pub add_constant : ℕ → ℕ → Bytes → View → Res View ℕ
add_constant p tag content v =
    pick (leb constants_limit v.state.constants) (refuse Number.pool p v)
    (pick (leb (v.state.pool_end + (3 + length content)) (v.state.names_end + 3 + pool_limit))
    (on v.state.constants (view v.code (sets v.session v.state.pool_end (field tag content)) v.symbols (with_constant (length content) v.state)))
    (refuse Number.pool p v))

abbrev pub literal : ℕ → ℕ → Bytes → Go View
literal p tag content v = bind (add_constant p tag content v) (λ k. emit p (instr op_constant k 0))

-- Symbols

abbrev pub with_tables : List Table → View → View
with_tables ts v = view v.code v.session (record { globals = v.symbols.globals; tables = ts }) v.state

abbrev pub loaded : ℕ → View → Resolved → Res View (Unit {0})
loaded p v (Resolved.found y ts) = emit p (load_of y) (with_tables ts v)
loaded p v Resolved.undefined = refuse Number.undefined p v
loaded p v Resolved.full = refuse Number.captures p v

-- the words that the session begins with: no step writes before the end of its names
abbrev pub words_of : View → List Bytes
words_of v = words_in (take v.state.names_end v.session)

unfoldable pub load : ℕ → Bytes → Go View
load p n v = loaded p v (resolve (words_of v) v.symbols.globals n v.symbols.tables)

abbrev pub placed : ℕ → View → Defined → Res View Instr
placed p v (Defined.defined i gs ts) = on i (view v.code v.session (record { globals = gs; tables = ts }) v.state)
placed p v (Defined.no_room k) = refuse k p v

unfoldable pub define : ℕ → Bytes → View → Res View Instr
define p n v = placed p v (place n v.symbols.globals v.symbols.tables)

-- Functions

-- an empty chunk behind the chunk in work
abbrev pub inside : State → State
inside s = record { chunk = chunk (here s) 0 0 0; level = s.level + 1; constants = s.constants; names_end = s.names_end; pool_end = s.pool_end }

unfoldable pub enter : ℕ → Bytes → List Bytes → Go View
enter p n ps v =
    pick (leb nesting_limit v.state.level) (refuse Number.nesting p v)
    (pick (ltb arguments_limit (length ps)) (refuse Number.too_many p v)
    (on tt (view v.code v.session (record { globals = v.symbols.globals; tables = with_params ps (named n) ∷ v.symbols.tables }) (inside v.state))))

-- the chunk outside again, with what was added inside
abbrev pub outside : State → State → State
outside o s = record { chunk = o.chunk; level = o.level; constants = s.constants; names_end = s.names_end; pool_end = s.pool_end }

-- the bytes of the chunk in work
abbrev pub chunk_bytes : View → Bytes
chunk_bytes v = take v.state.chunk.len (drop v.state.chunk.start v.code)

-- how long the loads of captured originals are, and the loads, the first one first
abbrev pub loads_size : List Symbol → ℕ
loads_size [] = 0
loads_size (y ∷ ys) = loads_size ys + size (load_of y)

unfoldable pub loads : ℕ → List Symbol → Go View
loads p [] v = on tt v
loads p (y ∷ ys) v = bind (loads p ys v) (λ _. emit p (load_of y))

-- a function's content: locals, parameters, code
abbrev pub function_content : ℕ → ℕ → Bytes → Bytes
function_content l n c = l / 256 % 256 ∷ l % 256 ∷ n % 256 ∷ c

-- there is room for the loads beside the closing chunk; the constant; then, over the closed chunk, the loads and Closure
abbrev pub close_over : ℕ → ℕ → State → View → List Table → Res View (Unit {0})
close_over p params o v [] = on tt v
close_over p params o v (t ∷ ts) =
    pick (leb (here o + v.state.chunk.len + loads_size t.originals) code_size)
    (bind (add_constant p tag_function_const (function_content t.definitions params (chunk_bytes v)) v) (λ k v₁.
    bind (loads p t.originals (view v₁.code v₁.session (record { globals = v₁.symbols.globals; tables = ts }) (outside o v₁.state))) (λ _.
    emit p (instr op_closure k (length t.originals)))))
    (refuse Number.code p v)

unfoldable pub leave : ℕ → ℕ → View → Go View
leave p params outer inner = bind (returned p inner) (λ _ v. close_over p params outer.state v v.symbols.tables)

abbrev pub machine : Machine View
machine =
    record {
      emit = emit;
      boolean = λ p b. emit p (boolean_of b);
      integer = λ p b. literal p tag_integer_const b;
      string = λ p b. literal p tag_string_const b;
      load = load;
      define = define;
      jump = jump;
      patch = patch;
      drop_pop = dropped;
      enter = enter;
      leave = leave;
    }
