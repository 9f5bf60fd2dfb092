-- Closing changes no bytes but the closed chunk's, those that the chunk outside gains, and the constant's.
use Prim.Native.Nat.{ℕ, suc, ◌+◌, ◌≤◌, ◌<◌}
use native.Mathlib.Omega.{arith}
use mathlib.Core.Bool.{Bool, true, false}
use mathlib.Core.List.{List, [], ◌∷◌}
use mathlib.Core.Path.{◌≡◌, refl, sym, ap, subst, ◌∙◌}
use lib.Dec.{leb, ltb, eqb}
use lib.ListN.{length, set, length-set}
use lib.Seq.{sets, length-sets, get_or-set_other}
use borrow.Author.Tests.{le-leb, lt-ltb, eq-eqb, ltb-true}
use Rattle.definition.specs.Basic.{Bytes, byte_at, pick, both}
use Rattle.definition.specs.Limit.{code_size, constants_limit, pool_limit}
use Rattle.definition.specs.Number
use Rattle.definition.specs.Tag.{tag_function_const}
use Rattle.definition.specs.Field.{field}
use Rattle.definition.specs.Opcode.{Instr, instr, plain, size, bytes_of, op_pop, op_return_value, op_return, op_closure}
use Rattle.definition.specs.SymbolTable.{Symbol, Table, load_of}
use Rattle.definition.specs.Walk.{Res, on, stop, bind, refuse}
use Rattle.definition.proofs.Basic.{both_left}
use Rattle.definition.proofs.Instructions.{size-bytes}
use Rattle.scope.specs.declared.State.{State}
use Rattle.definition.specs.declared.reason.Refusal.{Refusal}
use Rattle.scope.specs.Walked.{Walked, walked}
use Rattle.std.specs.Prelude.{Ok, Err, Result}
use Rattle.scope.specs.View.{View, view, outline}
use Rattle.scope.specs.Machine.{here, put, emit, last_is, returned, with_constant, add_constant, outside, chunk_bytes, function_content, loads_size, loads, close_over, leave}
use Rattle.step.specs.Memory.{Rest, rest, state_of, symbols_of, no_symbols, settled, memory, FineState}
use Rattle.step.specs.Contract.{FineFor, Leaves}
use Rattle.step.specs.Frame.{Range, range, in_range, in_ranges, Unchanged, view_in, completed, outside_end, code_ranges, session_ranges, LeavesAlone}

-- Bytes outside a range

abbrev Apart : ℕ → ℕ → ℕ → Type 0
Apart a b i = a ≤ i → i < b → ⊥

-- stores change nothing outside their place
sets_apart : (xs : Bytes) (a : ℕ) (vs : Bytes) {b i : ℕ} → a + length vs ≤ b → Apart a b i → byte_at (sets xs a vs) i ≡ byte_at xs i
sets_apart xs a [] h k = refl
sets_apart xs a (v ∷ vs) {i = i} h k = sets_apart (set xs a v) (suc a) vs (omega arith) (λ l m. k (omega arith) m) ∙ get_or-set_other xs a i v 0 (λ e. k (omega arith) (omega arith))

-- an offset in none of the ranges is apart from each
module _ (i : ℕ) (r : Range) (rs : List Range) (h : in_ranges i (r ∷ rs) ≡ false) where
  first_apart : Apart r.from r.to i
  first_apart l m = let z : true ≡ false = sym (λ k. pick (both (le-leb r.from i l k) (lt-ltb i r.to m k)) true (in_ranges i rs)) ∙ h in let y : ◌≡◌ {A = ℕ} 0 1 = cc in omega arith

  later_ranges : in_ranges i rs ≡ false
  later_ranges = go (in_range i r) h
    where
      go : (b : Bool) → pick b true (in_ranges i rs) ≡ false → in_ranges i rs ≡ false
      go true h = let z : ◌≡◌ {A = ℕ} 0 1 = cc in absurd (omega arith)
      go false h = h

-- What the chunk in work gains

record Gains (v u : View) : Type 0 where
  session : u.session ≡ v.session
  same : outline u.state ≡ outline v.state
  start : u.state.chunk.start ≡ v.state.chunk.start
  longer : v.state.chunk.len ≤ u.state.chunk.len
  size : length u.code ≡ length v.code
  code : (i : ℕ) → Apart (here v.state) (here u.state) i → byte_at u.code i ≡ byte_at v.code i

gains_nothing : (v : View) → Gains v v
gains_nothing v = record { session = refl; same = refl; start = refl; longer = omega arith; size = refl; code = λ i k. refl }

gains_more : {v u x : View} → Gains v u → Gains u x → Gains v x
gains_more g h =
    record {
      session = h.session ∙ g.session;
      same = h.same ∙ g.same;
      start = h.start ∙ g.start;
      longer = omega (arith, g.longer, h.longer);
      size = h.size ∙ g.size;
      code = λ i k. h.code i (λ l m. k (omega (arith, g.start, g.longer)) m) ∙ g.code i (λ l m. k l (omega (arith, h.start, h.longer)));
    }

gains_then : {A B : Type 0} {v : View} (x : Res View A) (f : A → View → Res View B) → Gains v (view_in x) → ((a : A) (u : View) → Gains u (view_in (f a u))) → Gains v (view_in (bind x f))
gains_then (on a u) f g h = gains_more g (h a u)
gains_then (stop r u) f g h = g

emit_gains : (p : ℕ) (i : Instr) (v : View) → Gains v (view_in (emit p i v))
unfolding emit put
emit_gains p i v = go (leb (here v.state + size i) code_size)
  where
    go : (b : Bool) → Gains v (view_in (pick {A = Res View (Unit {0})} b (on tt (put i v)) (refuse Number.code p v)))
    go true =
        record {
          session = refl;
          same = refl;
          start = refl;
          longer = omega arith;
          size = length-sets v.code (here v.state) (bytes_of i);
          code = λ j k. sets_apart v.code (here v.state) (bytes_of i) (omega (arith, size-bytes i)) k;
        }
    go false = gains_nothing v

loads_gains : (p : ℕ) (ys : List Symbol) (v : View) → Gains v (view_in (loads p ys v))
unfolding loads
loads_gains p [] v = gains_nothing v
loads_gains p (y ∷ ys) v = gains_then (loads p ys v) (λ _. emit p (load_of y)) (loads_gains p ys v) (λ _ u. emit_gains p (load_of y) u)

-- A function's chunk is complete

record Completes (v u : View) : Type 0 where
  session : u.session ≡ v.session
  same : outline u.state ≡ outline v.state
  size : length u.code ≡ length v.code
  code : (i : ℕ) → Apart v.state.chunk.start (here u.state) i → byte_at u.code i ≡ byte_at v.code i

gains_completes : {v u : View} → Gains v u → Completes v u
gains_completes g = record { session = g.session; same = g.same; size = g.size; code = λ i k. g.code i (λ l m. k (omega arith) m) }

returned_completes : (p : ℕ) (v : View) → Completes v (view_in (returned p v))
unfolding returned
returned_completes p v = go (last_is op_pop v.code v.state.chunk) (last_is op_return_value v.code v.state.chunk) refl
  where
    go : (a b : Bool) → last_is op_pop v.code v.state.chunk ≡ a
        → Completes v (view_in (pick {A = Res View (Unit {0})} a (on tt (view (set v.code (v.state.chunk.start + v.state.chunk.last) op_return_value) v.session v.symbols v.state)) (pick b (on tt v) (emit p (plain op_return) v))))
    go true b h =
        let k = v.state.chunk in
        let l : k.last < k.len = ltb-true k.last k.len (both_left (ltb k.last k.len) (eqb (byte_at v.code (k.start + k.last)) op_pop) h) in
        record {
          session = refl;
          same = refl;
          size = length-set v.code (k.start + k.last) op_return_value;
          code = λ i m. get_or-set_other v.code (k.start + k.last) i op_return_value 0 (λ e. m (omega arith) (omega arith));
        }
    go false true h = gains_completes (gains_nothing v)
    go false false h = gains_completes (emit_gains p (plain op_return) v)

-- whatever stands beside the code area
is_completed : (p : ℕ) (v : View) → (view_in (returned p v)).state ≡ completed v.code v.state
unfolding returned emit put
is_completed p v = go (last_is op_pop v.code v.state.chunk) (last_is op_return_value v.code v.state.chunk) (leb (here v.state + size (plain op_return)) code_size)
  where
    done : ℕ → View → Bool → Bool → Bool → Res View (Unit {0})
    done p v a b l =
        pick a (on tt (view (set v.code (v.state.chunk.start + v.state.chunk.last) op_return_value) v.session v.symbols v.state))
        (pick b (on tt v) (pick l (on tt (put (plain op_return) v)) (refuse Number.code p v)))

    go : (a b l : Bool) → (view_in (done p v a b l)).state ≡ (view_in (done 0 (view v.code [] no_symbols v.state) a b l)).state
    go true b l = refl
    go false true l = refl
    go false false true = refl
    go false false false = refl

-- It is closed

record Closing (o : State) (v u : View) : Type 0 where
  size : length u.code ≡ length v.code
  code : (i : ℕ) → Apart (here o) (outside_end o u.state) i → byte_at u.code i ≡ byte_at v.code i
  whole : length u.session ≡ length v.session
  session : (i : ℕ) → Apart v.state.pool_end u.state.pool_end i → byte_at u.session i ≡ byte_at v.session i

closing_nothing : (o : State) (v : View) → Closing o v v
closing_nothing o v = record { size = refl; code = λ i k. refl; whole = refl; session = λ i k. refl }

-- a constant, then what the chunk outside gains
closing_gains : (o : State) (v x u : View) (f : Bytes) → x.code ≡ v.code → x.session ≡ sets v.session v.state.pool_end f → x.state.pool_end ≡ v.state.pool_end + length f
    → x.state.level ≡ o.level → x.state.chunk ≡ o.chunk → Gains x u → Closing o v u
closing_gains o v x u f c e p l k g =
    let m : u.state.level ≡ o.level = ap (λ y. y.level) g.same ∙ l in
    let q : u.state.pool_end ≡ v.state.pool_end + length f = ap (λ y. y.pool_end) g.same ∙ p in
    let t : outside_end o u.state ≡ here u.state = ap (λ b. pick b (here u.state) (here o)) (eq-eqb u.state.level o.level m) in
    let h : here x.state ≡ here o = ap (λ y. y.start + y.len) k in
    record {
      size = g.size ∙ ap length c;
      code = λ i a. g.code i (λ y z. a (omega arith) (omega arith)) ∙ ap (λ y. byte_at y i) c;
      whole = ap length (g.session ∙ e) ∙ length-sets v.session v.state.pool_end f;
      session = λ i a. ap (λ y. byte_at y i) (g.session ∙ e) ∙ sets_apart v.session v.state.pool_end f (omega arith) a;
    }

close_closing : (p params : ℕ) (o : State) (v : View) (ts : List Table) → Closing o v (view_in (close_over p params o v ts))
unfolding add_constant
close_closing p params o v [] = closing_nothing o v
close_closing p params o v (t ∷ ts) = room (leb (here o + v.state.chunk.len + loads_size t.originals) code_size)
  where
    content : Bytes
    content = function_content t.definitions params (chunk_bytes v)

    -- behind the constant
    begun : View → View
    begun x = view x.code x.session (record { globals = x.symbols.globals; tables = ts }) (outside o x.state)

    closure : ℕ → View → Res View (Unit {0})
    closure k x = bind (loads p t.originals (begun x)) (λ _. emit p (instr op_closure k (length t.originals)))

    with : View
    with = view v.code (sets v.session v.state.pool_end (field tag_function_const content)) v.symbols (with_constant (length content) v.state)

    added : (a b : Bool) → Closing o v (view_in (bind (pick {A = Res View ℕ} a (refuse Number.pool p v) (pick b (on v.state.constants with) (refuse Number.pool p v))) closure))
    added true b = closing_nothing o v
    added false true =
        closing_gains o v (begun with) _ (field tag_function_const content) refl refl (omega arith) refl refl
        (gains_then (loads p t.originals (begun with)) (λ _. emit p (instr op_closure v.state.constants (length t.originals))) (loads_gains p t.originals (begun with)) (λ _ u. emit_gains p (instr op_closure v.state.constants (length t.originals)) u))
    added false false = closing_nothing o v

    room : (b : Bool) → Closing o v (view_in (pick {A = Res View (Unit {0})} b (bind (add_constant p tag_function_const content v) closure) (refuse Number.code p v)))
    room true = added (leb constants_limit v.state.constants) (leb (v.state.pool_end + (3 + length content)) (v.state.names_end + 3 + pool_limit))
    room false = closing_nothing o v

-- The step, from the function's chunk on

same_unchanged : (rs : List Range) {xs ys : Bytes} → ys ≡ xs → Unchanged rs xs ys
same_unchanged rs e = record { size = ap length e; bytes = λ i h. ap (λ y. byte_at y i) e }

-- what may change: the closed chunk, what the chunk outside gains, the constant
abbrev closed_chunk : View → Range
closed_chunk v = range v.state.chunk.start (here (completed v.code v.state))

abbrev gained : State → View → Range
gained o u = range (here o) (outside_end o u.state)

abbrev constant : View → View → Range
constant v u = range v.state.pool_end u.state.pool_end

record Framed (o : State) (v u : View) : Type 0 where
  code : Unchanged (closed_chunk v ∷ gained o u ∷ []) v.code u.code
  session : Unchanged (constant v u ∷ []) v.session u.session

leave_framed : (p params : ℕ) (o v : View) → Framed o.state v (view_in (leave p params o v))
unfolding leave
leave_framed p params o v = go (returned p v) (returned_completes p v) (is_completed p v)
  where
    go : (x : Res View (Unit {0})) → Completes v (view_in x) → (view_in x).state ≡ completed v.code v.state
        → Framed o.state v (view_in (bind x (λ _ m. close_over p params o.state m m.symbols.tables)))
    go (on a m) d e =
        let x = close_closing p params o.state m m.symbols.tables in
        let u = view_in (close_over p params o.state m m.symbols.tables) in
        let h : here m.state ≡ here (completed v.code v.state) = ap here e in
        let q : m.state.pool_end ≡ v.state.pool_end = ap (λ y. y.pool_end) d.same in
        record {
          code = record {
            size = x.size ∙ d.size;
            bytes = λ i k.
                let g = first_apart i (closed_chunk v) (gained o.state u ∷ []) k in
                x.code i (first_apart i (gained o.state u) [] (later_ranges i (closed_chunk v) (gained o.state u ∷ []) k))
                ∙ d.code i (λ l z. g l (omega arith));
          };
          session = record {
            size = x.whole ∙ ap length d.session;
            bytes = λ i k. let g = first_apart i (constant v u) [] k in x.session i (λ l z. g (omega arith) z) ∙ ap (λ y. byte_at y i) d.session;
          };
        }
    go (stop r m) d e =
        let h : here m.state ≡ here (completed v.code v.state) = ap here e in
        record {
          code = record { size = d.size; bytes = λ i k. let g = first_apart i (closed_chunk v) (gained o.state m ∷ []) k in d.code i (λ l z. g l (omega arith)) };
          session = same_unchanged (constant v m ∷ []) d.session;
        }

-- As the lent memory shows it

module _ (tree c : Bytes) (m : Rest) where
  shows_code : (w : Walked) → (view_in (memory tree c m w)).code ≡ c
  shows_code (Ok s) = refl
  shows_code (Err z) = refl

  shows_session : (w : Walked) → (view_in (memory tree c m w)).session ≡ m.session
  shows_session (Ok s) = refl
  shows_session (Err z) = refl

  shows_state : (w : Walked) → (view_in (memory tree c m w)).state ≡ state_of w
  shows_state (Ok s) = refl
  shows_state (Err z) = refl

-- nobody changes a byte by settling
module _ {A : Type 0} where
  settled-code : (x : Res View A) → (view_in (settled x)).code ≡ (view_in x).code
  settled-code (on a v) = refl
  settled-code (stop r v) = refl

  settled_session : (x : Res View A) → (view_in (settled x)).session ≡ (view_in x).session
  settled_session (on a v) = refl
  settled_session (stop r v) = refl

  settled_state : (x : Res View A) → (view_in (settled x)).state ≡ (view_in x).state
  settled_state (on a v) = refl
  settled_state (stop r v) = refl

-- the promise says which bytes there are: no others have changed
pub leaves_alone : {p n : ℕ} {c c' e e' : Bytes} {t : List ℕ} {o s u : State} {r : Walked} → state_of r ≡ u → FineFor (rest e t) s
    → ((tree : Bytes) → FineState tree (rest e t) s → Leaves tree p n c c' (rest e t) (rest e' t) o (Ok s) r) → LeavesAlone c c' e e' o s u
leaves_alone {p} {n} {c} {c'} {e} {e'} {t} {o} {s} {u} {r} q f h =
    let a = f.tree in
    let outer = view c e no_symbols o in
    let v = view c e (symbols_of a (rest e t) s) s in
    let x = leave p n outer v in
    let g = leave_framed p n outer v in
    let z = (h a f.fine).step outer refl in
    let k : (view_in x).code ≡ c' = sym (settled-code x) ∙ sym (ap (λ x. (view_in x).code) z) ∙ shows_code a c' (rest e' t) r in
    let j : (view_in x).session ≡ e' = sym (settled_session x) ∙ sym (ap (λ x. (view_in x).session) z) ∙ shows_session a c' (rest e' t) r in
    let i : (view_in x).state ≡ u = sym (settled_state x) ∙ sym (ap (λ x. (view_in x).state) z) ∙ shows_state a c' (rest e' t) r ∙ q in
    record {
      code = subst (λ y. Unchanged (code_ranges c o s u) c y) k (subst (λ u. Unchanged (code_ranges c o s u) c (view_in x).code) i g.code);
      session = subst (λ y. Unchanged (session_ranges s u) e y) j (subst (λ u. Unchanged (session_ranges s u) e (view_in x).session) i g.session);
    }

-- the state after an answer
pub state_walked : (r : Result (Unit {0}) Refusal) (s : State) → state_of (walked r s) ≡ s
state_walked (Ok x) s = refl
state_walked (Err z) s = refl
