-- The walk that keeps records is the plain walk, and has a record for each Identifier: the call with records beside the plain call.
use Prim.Native.Nat.{ℕ, ◌≤◌, ◌<◌}
use native.Mathlib.Omega.{arith}
use mathlib.Core.Bool.{Bool, true, false}
use mathlib.Core.List.{List, [], ◌∷◌, reverse, reverse_aux, map}
use mathlib.Core.Path.{◌≡◌, refl, sym, ap, subst, ◌∙◌}
use lib.ListN.{length, take, length-map, length-reverse}
use lib.Dec.{leb}
use borrow.Author.Tests.{leb-true, leb-false}
use Rattle.definition.specs.Basic.{Bytes, pick}
use Rattle.definition.specs.Limit.{session_size, image_limit, tree_limit}
use Rattle.definition.specs.Number
use Rattle.definition.specs.Number.{refusal, call_numbers, number_of}
use Rattle.definition.specs.Syntax.{Stmts}
use Rattle.definition.specs.Bytecode.{Image, image_bytes}
use Rattle.definition.specs.Walk.{Res, walk_stmts}
use Rattle.definition.specs.SymbolTable.{Resolved, resolve, crossed, load_of}
use Rattle.definition.specs.Compiler.{State, machine, with_tables, emit, load, loaded}
use Rattle.definition.specs.Tree.{Parsed, read_tree}
use Rattle.definition.specs.Session.{Session}
use Rattle.definition.specs.Decode.{Decoded, decoded, malformed, read_session}
use Rattle.definition.specs.Compile.{Outcome, Step, Request, start, image_of, session_of, turned_down, finish, translate, enough, compile}
use Rattle.definition.specs.Call.{Lent, Called, refused_call, request, answered, in_session, call}
use Rattle.records.specs.Records.{noted, Logged, logged, beside, load_noted, logging, mentions, identifiers_in, identifiers, Traced, untraced, traced, finish_records, translate_records, compile_records}
use Rattle.records.specs.Call.{Recorded, unrecorded, over_records, recorded, in_session_records, call_records, records_numbers}
use Rattle.definition.specs.Valid.{AreBytes}
use Rattle.definition.specs.declared.reason.Refusal.{Refusal}
use Rattle.definition.specs.Answer.{Answer}
use Rattle.std.specs.Prelude.{Ok, Err}
use Rattle.records.specs.declared.Record.{Record}
use Rattle.definition.proofs.Numbers.{among}
use Rattle.definition.proofs.Places.{Within, nowhere, call_within_tree, call_within_limit}
use Rattle.records.proofs.Track.{Tracked, Jumped, Tracking, track_stmts}

-- the tree offsets of records
abbrev pub offsets : List Record → List ℕ
offsets = map (λ (r : Record). r.offset)

-- a state with its records beside the state alone; the records' offsets
pub data Erased (l : List ℕ) : Logged → State → Type 0 where
  erased : {s : Logged} → offsets s.records ≡ l → Erased l s s.state

-- a step that leaves the records, or finds them given
stepped : {A : Type 0} {l : List ℕ} (rs : List Record) (x : Res State A) → offsets rs ≡ l → Tracked false (Erased l) (beside rs x) x
stepped rs (Res.on a s) e = Tracked.on a (Erased.erased e)
stepped rs (Res.stop r s) e = Tracked.stop r

load_erased : {l : List ℕ} {s : Logged} {t : State} → Erased l s t → (p : ℕ) (x : Bytes) → Tracked false (Erased (p ∷ l)) (load_noted p x s) (load p x t)
unfolding load_noted load
load_erased {l} (Erased.erased {s} e) p x = go (resolve s.state.words s.state.globals x s.state.tables)
  where
    go : (f : Resolved) → Tracked false (Erased (p ∷ l)) (beside (noted p (crossed x s.state.tables) f s.records) (loaded p s.state f)) (loaded p s.state f)
    go (Resolved.found y ts) = stepped _ (emit p (load_of y) (with_tables ts s.state)) (λ i. p ∷ e i)
    go Resolved.undefined = Tracked.stop _
    go Resolved.full = Tracked.stop _

logging_erased : Tracking logging machine false ◌≡◌ Erased
logging_erased =
    record {
      emit = λ r p i. go r (λ s. machine.emit p i s);
      boolean = λ r p b. go r (λ s. machine.boolean p b s);
      integer = λ r p b. go r (λ s. machine.integer p b s);
      string = λ r p b. go r (λ s. machine.string p b s);
      load = load_erased;
      define = λ r p x. go r (λ s. machine.define p x s);
      jump = jumped;
      patch = patched;
      drop_pop = λ r p. go r (λ s. machine.drop_pop p s);
      enter = λ r p x xs. go r (λ s. machine.enter p x xs s);
      leave = left;
    }
  where
    go : {A : Type 0} {l : List ℕ} {s : Logged} {t : State} → Erased l s t → (f : State → Res State A) → Tracked false (Erased l) (beside s.records (f s.state)) (f t)
    go (Erased.erased {s} e) f = stepped s.records (f s.state) e

    jumped : {l : List ℕ} {s : Logged} {t : State} → Erased l s t → (p o : ℕ) → Jumped false ◌≡◌ (Erased l) (logging.jump p o s) (machine.jump p o t)
    jumped {l} (Erased.erased {s} e) p o = at (machine.jump p o s.state)
      where
        at : (x : Res State ℕ) → Jumped false ◌≡◌ (Erased l) (beside s.records x) x
        at (Res.on a s) = Jumped.on refl (Erased.erased e)
        at (Res.stop r s) = Jumped.stop r

    patched : {l : List ℕ} {s : Logged} {t : State} → Erased l s t → (j k : ℕ) → j ≡ k → Erased l (logging.patch j s) (machine.patch k t)
    patched {l} (Erased.erased {s} e) j k h = subst (λ k. Erased l (logging.patch j s) (machine.patch k s.state)) h (Erased.erased e)

    left : {l l' : List ℕ} {s s' : Logged} {t t' : State} → Erased l s t → Erased l' s' t' → (p k : ℕ) → Tracked false (Erased l') (logging.leave p k s s') (machine.leave p k t t')
    left (Erased.erased {s = s} _) (Erased.erased {s = s'} e) p k = stepped s'.records (machine.leave p k s.state s'.state) e

-- Erasing the records gives the plain walk; there is a record for each Identifier, in walk order
pub walk_erased : (b : Stmts) (s : State) → Tracked false (Erased (mentions b [])) (walk_stmts logging b (logged [] s)) (walk_stmts machine b s)
walk_erased b s = track_stmts logging_erased b (Erased.erased {s = logged [] s} refl)

-- The call with records beside the plain call: the same refusal; or the same image and session, with a record for each Identifier; or number
-- 18, where the walk went through and there are more Identifiers than records

-- the plain call's walk went through
pub data WentThrough (z : Session) : Step → Type 0 where
  accepted : {m : Image} {w : Session} → WentThrough z (record { outcome = Outcome.accepted m; session = w })
  short : WentThrough z (turned_down z (refusal Number.output_short 0))

pub data Agrees (room : ℕ) (z : Session) (ids : List ℕ) : Traced → Step → Type 0 where
  refused : (r : Refusal) → Agrees room z ids (untraced (turned_down z r)) (turned_down z r)
  accepted : {m : Image} {w : Session} {l : List Record} → length ids ≤ room → offsets l ≡ ids
      → Agrees room z ids (record { step = record { outcome = Outcome.accepted m; session = w }; records = l }) (record { outcome = Outcome.accepted m; session = w })
  few : {x : Step} → room < length ids → WentThrough z x → Agrees room z ids (untraced (turned_down z (refusal Number.few_records 0))) x

offsets-reverse : (l r : List Record) → offsets (reverse_aux l r) ≡ reverse_aux (offsets l) (offsets r)
offsets-reverse [] r = refl
offsets-reverse (x ∷ xs) r = offsets-reverse xs (x ∷ r)

finish_agrees : (room output : ℕ) (z : Session) {ids : List ℕ} {x : Res Logged (Unit {0})} {y : Res State (Unit {0})} → Tracked false (Erased ids) x y
    → Agrees room z (reverse ids) (finish_records room output z x) (finish output z y)
finish_agrees room output z {ids} (Tracked.on a (Erased.erased {s} e)) = within (leb (length s.records) room) refl (leb (length (image_bytes (image_of s.state))) output)
  where
    many : length (reverse ids) ≡ length s.records
    many = length-reverse ids ∙ ap length (sym e) ∙ length-map s.records (λ (r : Record). r.offset)

    within : (b : Bool) → leb (length s.records) room ≡ b → (c : Bool)
        → Agrees room z (reverse ids)
        (pick b (traced s.records (pick c (record { outcome = Outcome.accepted (image_of s.state); session = session_of s.state }) (turned_down z (refusal Number.output_short 0)))) (untraced (turned_down z (refusal Number.few_records 0))))
        (pick c (record { outcome = Outcome.accepted (image_of s.state); session = session_of s.state }) (turned_down z (refusal Number.output_short 0)))
    within true t true = Agrees.accepted (omega (arith, many, leb-true)) (offsets-reverse s.records [] ∙ ap reverse e)
    within true t false = Agrees.refused _
    within false t true = Agrees.few (omega (arith, many, leb-false)) WentThrough.accepted
    within false t false = Agrees.few (omega (arith, many, leb-false)) WentThrough.short
finish_agrees room output z (Tracked.stop r) = Agrees.refused r
finish_agrees room output z (Tracked.first h) = absurd h

pub compile_agrees : (room : ℕ) (z : Session) (c : Request) → Agrees room z (identifiers c.tree) (compile_records room z c) (compile z c)
unfolding compile_records compile
compile_agrees room z c = go (enough c)
  where
    read : (p : Parsed Stmts) → Agrees room z (identifiers_in p) (translate_records room c.output z p) (translate c.output z p)
    read (Parsed.parsed b n) = finish_agrees room c.output z (walk_erased b (start z))
    read (Parsed.refused r) = Agrees.refused r

    go : (b : Bool) → Agrees room z (identifiers c.tree) (pick b (translate_records room c.output z (read_tree c.tree)) (untraced (turned_down z (refusal Number.short_buffer 0)))) (pick b (translate c.output z (read_tree c.tree)) (turned_down z (refusal Number.short_buffer 0)))
    go true = read (read_tree c.tree)
    go false = Agrees.refused _

-- On lent memory: the same refusal, the records as they were; or all that the plain call gives and leaves, with a record for each Identifier at the
-- front; or number 18, session, output and records as they were, and the work areas zero
pub data CallAgrees (tree : Bytes) (l : Lent) (rs : List Record) : Recorded → Called → Type 0 where
  refused : {c : Called} (r : Refusal) → c.answer ≡ Err r → CallAgrees tree l rs (unrecorded rs c) c
  accepted : {c : Called} {n : ℕ} (new : List Record) → c.answer ≡ Ok n → length new ≤ length rs → offsets new ≡ identifiers tree
      → CallAgrees tree l rs (record { called = c; count = length new; records = over_records new rs }) c
  few : {c : Called} → length rs < length (identifiers tree) → CallAgrees tree l rs (unrecorded rs (refused_call (refusal Number.few_records 0) l)) c

recorded_agrees : (tree : Bytes) (l : Lent) (rs : List Record) {z : Session} {t : Traced} {x : Step} → Agrees (length rs) z (identifiers tree) t x → CallAgrees tree l rs (recorded l rs t) (answered l x.session x.outcome)
recorded_agrees tree l rs (Agrees.refused r) = CallAgrees.refused r refl
recorded_agrees tree l rs (Agrees.accepted {l = new} h e) = CallAgrees.accepted new refl (omega (arith, ap length e, length-map new (λ (r : Record). r.offset))) e
recorded_agrees tree l rs (Agrees.few h _) = CallAgrees.few h

pub call_agrees : (tree : Bytes) (l : Lent) (rs : List Record) → CallAgrees tree l rs (call_records tree l rs) (call tree l)
unfolding call_records call
call_agrees tree l rs = go (enough (request l tree)) (opened (read_session (take session_size l.session)))
  where
    opened : (d : Decoded Session) → CallAgrees tree l rs (in_session_records l rs tree d) (in_session l tree d)
    opened (decoded z n) = recorded_agrees tree l rs (compile_agrees (length rs) z (request l tree))
    opened (malformed p) = CallAgrees.refused _ refl

    go : (b : Bool) {x : Recorded} {y : Called} → CallAgrees tree l rs x y
        → CallAgrees tree l rs (pick b x (unrecorded rs (record { answer = Err (refusal Number.short_buffer 0); lent = l }))) (pick b y (record { answer = Err (refusal Number.short_buffer 0); lent = l }))
    go true h = h
    go false h = CallAgrees.refused _ refl

-- Where the call with records accepts, its answer, image, session and work areas are the plain call's
pub accepted_plain : (tree : Bytes) (l : Lent) (rs : List Record) (n : ℕ) → (call_records tree l rs).called.answer ≡ Ok n → (call_records tree l rs).called ≡ call tree l
accepted_plain tree l rs n e = go (call_agrees tree l rs) e
  where
    go : {x : Recorded} {y : Called} → CallAgrees tree l rs x y → x.called.answer ≡ Ok n → x.called ≡ y
    go (CallAgrees.refused r _) e = refl
    go (CallAgrees.accepted _ _ _ _) e = refl
    go (CallAgrees.few _) e = let z : ◌≡◌ {A = ℕ} 0 1 = cc in absurd (omega arith)

-- and with as many records as there are Identifiers the two agree in every outcome
pub enough-plain : (tree : Bytes) (l : Lent) (rs : List Record) → length (identifiers tree) ≤ length rs → (call_records tree l rs).called ≡ call tree l
enough-plain tree l rs h = go (call_agrees tree l rs)
  where
    go : {x : Recorded} {y : Called} → CallAgrees tree l rs x y → x.called ≡ y
    go (CallAgrees.refused r _) = refl
    go (CallAgrees.accepted _ _ _ _) = refl
    go (CallAgrees.few k) = absurd (omega arith)

-- the count of an accepted call is the number of the tree's Identifiers
pub accepted_count : (tree : Bytes) (l : Lent) (rs : List Record) (n : ℕ) → (call_records tree l rs).called.answer ≡ Ok n → (call_records tree l rs).count ≡ length (identifiers tree)
accepted_count tree l rs n e = go (call_agrees tree l rs) e
  where
    go : {x : Recorded} {y : Called} → CallAgrees tree l rs x y → x.called.answer ≡ Ok n → x.count ≡ length (identifiers tree)
    go (CallAgrees.refused {c} r a) e = let z : ◌≡◌ {A = ℕ} 0 1 = cc in absurd (omega arith)
    go (CallAgrees.accepted new _ _ o) e = sym (length-map new (λ (r : Record). r.offset)) ∙ ap length o
    go (CallAgrees.few _) e = let z : ◌≡◌ {A = ℕ} 0 1 = cc in absurd (omega arith)

-- a plain call's numbers are among those with records
wider : {lengths places : ℕ} {a : Answer} → Within lengths call_numbers places a → Within lengths records_numbers places a
wider (Within.wrote h) = Within.wrote h
wider (Within.refused {r = r} b) = Within.refused {r = r} (record { number = among call_numbers records_numbers tt (number_of r.reason) b.number; place = b.place })

-- an answer within the plain call's bounds
answer_within : {places : ℕ} (tree : Bytes) (l : Lent) (rs : List Record) → Within image_limit call_numbers places (call tree l).answer → Within image_limit records_numbers places (call_records tree l rs).called.answer
answer_within {places} tree l rs = go (call_agrees tree l rs)
  where
    go : {x : Recorded} {y : Called} → CallAgrees tree l rs x y → Within image_limit call_numbers places y.answer → Within image_limit records_numbers places x.called.answer
    go (CallAgrees.refused r _) h = wider h
    go (CallAgrees.accepted _ _ _ _) h = wider h
    go (CallAgrees.few _) h = nowhere tt

pub records_within : (tree : Bytes) (l : Lent) (rs : List Record) → AreBytes (take session_size l.session) → Within image_limit records_numbers (length tree) (call_records tree l rs).called.answer
records_within tree l rs a = answer_within tree l rs (call_within_tree tree l a)

pub records_within_limit : (tree : Bytes) (l : Lent) (rs : List Record) → AreBytes (take session_size l.session) → Within image_limit records_numbers tree_limit (call_records tree l rs).called.answer
records_within_limit tree l rs a = answer_within tree l rs (call_within_limit tree l a)

-- a count within the records lent
pub count_within : (tree : Bytes) (l : Lent) (rs : List Record) → (call_records tree l rs).count ≤ length rs
count_within tree l rs = go (call_agrees tree l rs)
  where
    go : {x : Recorded} {y : Called} → CallAgrees tree l rs x y → x.count ≤ length rs
    go (CallAgrees.refused r _) = omega arith
    go (CallAgrees.accepted _ _ h _) = h
    go (CallAgrees.few _) = omega arith
