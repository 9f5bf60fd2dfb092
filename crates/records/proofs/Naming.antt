-- The walk over the names alone follows the compile call's walk wherever that goes on: so it gives the records of an accepted call.
use Prim.Native.Nat.{ℕ, ◌+◌}
use mathlib.Core.Bool.{Bool, true, false}
use mathlib.Core.List.{List, [], ◌∷◌, reverse}
use mathlib.Core.Path.{◌≡◌, refl, subst, subst₂}
use lib.ListN.{length}
use lib.Dec.{leb, ltb}
use Rattle.definition.specs.Basic.{Bytes, pick}
use Rattle.definition.specs.Limit.{code_size, constants_limit, pool_limit, arguments_limit, nesting_limit}
use Rattle.definition.specs.Number
use Rattle.definition.specs.Number.{refusal}
use Rattle.definition.specs.Syntax.{Stmts}
use Rattle.definition.specs.Opcode.{Instr, instr, plain, size, op_constant, op_pop, op_return_value, op_return, op_closure}
use Rattle.definition.specs.Bytecode.{Const, Image, size_of, pool_size, image_bytes}
use Rattle.definition.specs.Walk.{Res, refuse, bind, walk_stmts}
use Rattle.definition.specs.SymbolTable.{Symbol, Table, Resolved, Defined, resolve, crossed, load_of, place, named, with_params}
use Rattle.definition.specs.Compiler.{State, emit_beside, add_constant, literal, boolean_of, load, loaded, define, placed, last_is, dropped, unpatched, jump, patch, enter, returned, loads, close_over, leave, with_tables}
use Rattle.definition.specs.Tree.{Parsed, read_tree}
use Rattle.definition.specs.Session.{Session, word_list}
use Rattle.definition.specs.Compile.{Outcome, Request, start, image_of, session_of, turned_down, enough}
use Rattle.records.specs.Records.{record_of, noted, Logged, logged, beside, load_noted, logging, mentions, Traced, untraced, traced, finish_records, translate_records, compile_records}
use Rattle.records.specs.Naming.{Names, names, names_of, looked_up, look_up, placed_name, define_name, enter_name, closed, naming, records_at, records_of, records_in}
use Rattle.definition.specs.declared.reason.Refusal.{Refusal}
use Rattle.records.specs.declared.Record.{Record}
use Rattle.records.proofs.Track.{Tracked, Jumped, Tracking, track_stmts}

-- what holds of words, tables and global names holds of equal ones
named_by : (P : List Bytes → List Table → List Bytes → Type 0) {ws vs : List Bytes} {ts us : List Table} {gs hs : List Bytes} → ws ≡ vs → ts ≡ us → gs ≡ hs → P ws ts gs → P vs us hs
named_by P {vs = vs} {us = us} {gs} d e f x = subst (λ g. P vs us g) f (subst₂ (λ w t. P w t gs) d e x)

-- Steps that leave words, tables and global names so

data Leaves {A : Type 0} (ws : List Bytes) (ts : List Table) (gs : List Bytes) : Res State A → Type 0 where
  on : (a : A) {s : State} → s.words ≡ ws → s.tables ≡ ts → s.globals ≡ gs → Leaves ws ts gs (Res.on a s)
  stop : {r : Refusal} {s : State} → Leaves ws ts gs (Res.stop r s)

leaves-pick : {A : Type 0} {ws : List Bytes} {ts : List Table} {gs : List Bytes} {x y : Res State A} (b : Bool) → Leaves ws ts gs x → Leaves ws ts gs y → Leaves ws ts gs (pick b x y)
leaves-pick true h k = h
leaves-pick false h k = k

-- then a step of which each state leaves its own
leaves_then : {A B : Type 0} {ws : List Bytes} {ts : List Table} {gs : List Bytes} {x : Res State A} (k : A → State → Res State B) → Leaves ws ts gs x → ((a : A) (s : State) → Leaves s.words s.tables s.globals (k a s)) → Leaves ws ts gs (bind x k)
leaves_then k (Leaves.on a {s} d e f) h = named_by (λ ws ts gs. Leaves ws ts gs (k a s)) d e f (h a s)
leaves_then k Leaves.stop h = Leaves.stop

emit-leaves : (d p : ℕ) (i : Instr) (s : State) → Leaves s.words s.tables s.globals (emit_beside d p i s)
unfolding emit_beside
emit-leaves d p i s = leaves-pick (leb (s.around + size_of s.code + d + size i) code_size) (Leaves.on tt refl refl refl) Leaves.stop

add-leaves : (p : ℕ) (c : Const) (s : State) → Leaves s.words s.tables s.globals (add_constant p c s)
unfolding add_constant
add-leaves p c s = leaves-pick (leb constants_limit (length s.pool)) Leaves.stop (leaves-pick (leb (pool_size (c ∷ s.pool)) pool_limit) (Leaves.on (length s.pool) refl refl refl) Leaves.stop)

literal-leaves : (p : ℕ) (c : Const) (s : State) → Leaves s.words s.tables s.globals (literal p c s)
literal-leaves p c s = leaves_then _ (add-leaves p c s) (λ k s₁. emit-leaves 0 p (instr op_constant k 0) s₁)

jump-leaves : (p o : ℕ) (s : State) → Leaves s.words s.tables s.globals (jump p o s)
unfolding jump
jump-leaves p o s = leaves_then _ (emit-leaves 0 p (instr o unpatched 0) s) (λ _ _. Leaves.on (size_of s.code) refl refl refl)

dropped-leaves : (p : ℕ) (s : State) → Leaves s.words s.tables s.globals (dropped p s)
unfolding dropped
dropped-leaves p s = leaves-pick (last_is op_pop s.code) (Leaves.on tt refl refl refl) (leaves-pick (last_is op_return_value s.code) (Leaves.on tt refl refl refl) Leaves.stop)

returned-leaves : (p : ℕ) (s : State) → Leaves s.words s.tables s.globals (returned p s)
unfolding returned
returned-leaves p s = leaves-pick (last_is op_pop s.code) (Leaves.on tt refl refl refl) (leaves-pick (last_is op_return_value s.code) (Leaves.on tt refl refl refl) (emit-leaves 0 p (plain op_return) s))

loads-leaves : (d p : ℕ) (ys : List Symbol) (s : State) → Leaves s.words s.tables s.globals (loads d p ys s)
unfolding loads
loads-leaves d p [] s = Leaves.on tt refl refl refl
loads-leaves d p (y ∷ ys) s = leaves_then _ (loads-leaves d p ys s) (λ _ s₁. emit-leaves d p (load_of y) s₁)

-- Each step of the walk with records, beside that of the names

-- a state with its records, and its names
pub data NamedAs (l : List ℕ) : Logged → Names → Type 0 where
  named_as : {s : Logged} → NamedAs l s (names_of s)

renamed : {l : List ℕ} {rs : List Record} {s : State} {ws : List Bytes} {ts : List Table} {gs : List Bytes} → s.words ≡ ws → s.tables ≡ ts → s.globals ≡ gs → NamedAs l (logged rs s) (names ws ts gs rs)
renamed {l} {rs} {s} d e f = named_by (λ ws ts gs. NamedAs l (logged rs s) (names ws ts gs rs)) d e f NamedAs.named_as

left_so : {l : List ℕ} (rs : List Record) {x : Res State (Unit {0})} {ws : List Bytes} {ts : List Table} {gs : List Bytes} → Leaves ws ts gs x → Tracked true (NamedAs l) (beside rs x) (Res.on tt (names ws ts gs rs))
left_so rs (Leaves.on a d e f) = Tracked.on tt (renamed d e f)
left_so rs Leaves.stop = Tracked.first tt

step-named : {l : List ℕ} {s : Logged} {t : Names} → NamedAs l s t → {f : State → Res State (Unit {0})} → ((s : State) → Leaves s.words s.tables s.globals (f s)) → Tracked true (NamedAs l) (beside s.records (f s.state)) (Res.on tt t)
step-named (NamedAs.named_as {s}) h = left_so s.records (h s.state)

load-named : {l : List ℕ} {s : Logged} {t : Names} → NamedAs l s t → (p : ℕ) (x : Bytes) → Tracked true (NamedAs (p ∷ l)) (load_noted p x s) (look_up p x t)
unfolding load_noted load look_up
load-named {l} (NamedAs.named_as {s}) p x = go (resolve s.state.words s.state.globals x s.state.tables)
  where
    go : (f : Resolved) → Tracked true (NamedAs (p ∷ l)) (beside (noted p (crossed x s.state.tables) f s.records) (loaded p s.state f)) (looked_up p (crossed x s.state.tables) (names_of s) f)
    go (Resolved.found y ts) = left_so (record_of p (crossed x s.state.tables) y ∷ s.records) (emit-leaves 0 p (load_of y) (with_tables ts s.state))
    go Resolved.undefined = Tracked.stop _
    go Resolved.full = Tracked.stop _

define-named : {l : List ℕ} {s : Logged} {t : Names} → NamedAs l s t → (p : ℕ) (x : Bytes) → Tracked true (NamedAs l) (logging.define p x s) (define_name p x t)
unfolding define define_name
define-named {l} (NamedAs.named_as {s}) p x = go (place x s.state.globals s.state.tables)
  where
    go : (d : Defined) → Tracked true (NamedAs l) (beside s.records (placed p s.state d)) (placed_name p (names_of s) d)
    go (Defined.defined i gs ts) = Tracked.on i NamedAs.named_as
    go (Defined.no_room k) = Tracked.stop _

jump-named : {l : List ℕ} {s : Logged} {t : Names} → NamedAs l s t → (p o : ℕ) → Jumped true (λ _ _. Unit {0}) (NamedAs l) (logging.jump p o s) (Res.on 0 t)
jump-named {l} (NamedAs.named_as {s}) p o = go (jump-leaves p o s.state)
  where
    go : {x : Res State ℕ} {ws : List Bytes} {ts : List Table} {gs : List Bytes} → Leaves ws ts gs x → Jumped true (λ _ _. Unit {0}) (NamedAs l) (beside s.records x) (Res.on 0 (names ws ts gs s.records))
    go (Leaves.on j d e f) = Jumped.on tt (renamed d e f)
    go Leaves.stop = Jumped.first tt

patch-named : {l : List ℕ} {s : Logged} {t : Names} → NamedAs l s t → (j k : ℕ) → Unit {0} → NamedAs l (logging.patch j s) t
unfolding patch
patch-named (NamedAs.named_as {s}) j k _ = NamedAs.named_as {s = logged s.records (patch j s.state)}

enter-named : {l : List ℕ} {s : Logged} {t : Names} → NamedAs l s t → (p : ℕ) (x : Bytes) (xs : List Bytes) → Tracked true (NamedAs l) (logging.enter p x xs s) (enter_name p x xs t)
unfolding enter enter_name
enter-named {l} (NamedAs.named_as {s}) p x xs = go (leb nesting_limit (length s.state.tables)) (ltb arguments_limit (length xs))
  where
    inside : State
    inside = record { code = []; around = s.state.around + size_of s.state.code; tables = with_params xs (named x) ∷ s.state.tables; words = s.state.words; globals = s.state.globals; pool = s.state.pool }

    go : (b c : Bool) → Tracked {A = Unit {0}} true (NamedAs l) (beside s.records (pick b (refuse Number.nesting p s.state) (pick c (refuse Number.too_many p s.state) (Res.on tt inside))))
        (pick b (refuse Number.nesting p (names_of s)) (pick c (refuse Number.too_many p (names_of s)) (Res.on tt (names s.state.words (with_params xs (named x) ∷ s.state.tables) s.state.globals s.records))))
    go true c = Tracked.stop _
    go false true = Tracked.stop _
    go false false = Tracked.on tt NamedAs.named_as

leave-named : {l l' : List ℕ} {s s' : Logged} {t t' : Names} → NamedAs l s t → NamedAs l' s' t' → (p k : ℕ) → Tracked true (NamedAs l') (logging.leave p k s s') (naming.leave p k t t')
unfolding leave
leave-named {l' = l'} (NamedAs.named_as {s = s}) (NamedAs.named_as {s = s'}) p k = go (returned-leaves p s'.state)
  where
    over : (u : State) (ts : List Table) → Tracked true (NamedAs l') (beside s'.records (close_over p k s.state u ts)) (Res.on tt (closed (names_of s) (names u.words ts u.globals s'.records) ts))
    over u [] = Tracked.on tt NamedAs.named_as
    over u (t ∷ ts) =
        left_so s'.records (leaves_then _
        (loads-leaves _ p t.originals _) (λ _ s₁. leaves_then _ (add-leaves p (Const.function t.definitions k u.code) s₁) (λ j s₂. emit-leaves 0 p (instr op_closure j (length t.originals)) s₂)))

    go : {x : Res State (Unit {0})} {ws : List Bytes} {ts : List Table} {gs : List Bytes} → Leaves ws ts gs x
        → Tracked true (NamedAs l') (beside s'.records (bind x (λ _ u. close_over p k s.state u u.tables))) (Res.on tt (closed (names_of s) (names ws ts gs s'.records) ts))
    go (Leaves.on a {s = u} d e f) =
        named_by (λ ws ts gs. Tracked true (NamedAs l') (beside s'.records (close_over p k s.state u u.tables)) (Res.on tt (closed (names_of s) (names ws ts gs s'.records) ts))) d e f (over u u.tables)
    go Leaves.stop = Tracked.first tt

naming_follows : Tracking logging naming true (λ _ _. Unit {0}) NamedAs
naming_follows =
    record {
      emit = λ r p i. step-named r (emit-leaves 0 p i);
      boolean = λ r p b. step-named r (emit-leaves 0 p (boolean_of b));
      integer = λ r p b. step-named r (literal-leaves p (Const.integer b));
      string = λ r p b. step-named r (literal-leaves p (Const.string b));
      load = load-named;
      define = define-named;
      jump = jump-named;
      patch = patch-named;
      drop_pop = λ r p. step-named r (dropped-leaves p);
      enter = enter-named;
      leave = leave-named;
    }

-- Where the walk with records goes on, the walk over the names does, to its names and records
pub walk_named : (b : Stmts) (z : Session) → Tracked true (NamedAs (mentions b [])) (walk_stmts logging b (logged [] (start z))) (walk_stmts naming b (names (word_list z.words) [] z.globals []))
walk_named b z = track_stmts naming_follows b (NamedAs.named_as {s = logged [] (start z)})

-- The records of an accepted call are those of the walk over the names; a refused call has none
pub data RecordsAre (l : List Record) : Traced → Type 0 where
  accepted : {m : Image} {w : Session} → RecordsAre l (record { step = record { outcome = Outcome.accepted m; session = w }; records = l })
  refused : {z : Session} (r : Refusal) → RecordsAre l (untraced (turned_down z r))

finish-named : (room output : ℕ) (z : Session) {l : List ℕ} {x : Res Logged (Unit {0})} {y : Res Names (Unit {0})} → Tracked true (NamedAs l) x y → RecordsAre (records_at y) (finish_records room output z x)
finish-named room output z (Tracked.on a (NamedAs.named_as {s})) = go (leb (length s.records) room) (leb (length (image_bytes (image_of s.state))) output)
  where
    go : (b c : Bool) → RecordsAre (reverse s.records)
        (pick b (traced s.records (pick c (record { outcome = Outcome.accepted (image_of s.state); session = session_of s.state }) (turned_down z (refusal Number.output_short 0)))) (untraced (turned_down z (refusal Number.few_records 0))))
    go true true = RecordsAre.accepted
    go true false = RecordsAre.refused _
    go false c = RecordsAre.refused _
finish-named room output z (Tracked.stop r) = RecordsAre.refused r
finish-named room output z (Tracked.first {r} _) = RecordsAre.refused r

pub compile-named : (room : ℕ) (z : Session) (c : Request) → RecordsAre (records_in z (read_tree c.tree)) (compile_records room z c)
unfolding compile_records records_of
compile-named room z c = go (enough c) (read (read_tree c.tree))
  where
    read : (p : Parsed Stmts) → RecordsAre (records_in z p) (translate_records room c.output z p)
    read (Parsed.parsed b n) = finish-named room c.output z (walk_named b z)
    read (Parsed.refused r) = RecordsAre.refused r

    go : (b : Bool) {l : List Record} {x : Traced} → RecordsAre l x → RecordsAre l (pick b x (untraced (turned_down z (refusal Number.short_buffer 0))))
    go true h = h
    go false h = RecordsAre.refused _
