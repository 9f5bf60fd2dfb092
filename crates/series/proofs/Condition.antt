-- Condition 3 of two rows that `compile_row` or `compile_slices` ran.
use Prim.Native.Nat.{ℕ, ◌≤◌}
use native.Mathlib.Omega.{arith}
use mathlib.Core.Bool.{true}
use mathlib.Core.List.{List, [], ◌∷◌, map}
use mathlib.Core.Path.{◌≡◌, refl, sym, ap, subst, subst₂, ◌∙◌}
use lib.Dec.{leb}
use lib.ListN.{length, take, length-append, length-drop, length-replicate}
use borrow.Author.Tests.{le-leb, leb-true}
use Rattle.std.specs.Prelude.{Ok}
use Rattle.definition.specs.Basic.{Bytes}
use Rattle.definition.specs.Limit.{session_size, code_size, table_size}
use Rattle.definition.specs.Number
use Rattle.definition.specs.Shape.{shape}
use Rattle.definition.specs.Bytecode.{Image, image_bytes}
use Rattle.definition.specs.Session.{six, field_count, Session, fresh, session_bytes}
use Rattle.definition.specs.Decode.{Decoded, decoded, malformed, read_session}
use Rattle.definition.specs.Compile.{Outcome, Step, enough, compile}
use Rattle.definition.specs.Call.{Lent, Called, Made, cleared, request, answered, in_session, call, not_made, begins, made}
use Rattle.definition.specs.Series.{Call, session_after, session_made, lent, AllAlike, shapes, Same, Indistinguishable}
use Rattle.definition.specs.Answer.{Answer}
use Rattle.definition.proofs.Basic.{chosen, pick_true, both_left, both_right}
use Rattle.definition.proofs.Sessions.{session_length}
use Rattle.definition.proofs.Steps.{begun-valid, compile-fits}
use Rattle.definition.proofs.Series.{long_over, Holds, CallIs, call_does, starts_fresh, start_holds}
use Rattle.compiler.specs.Promise.{MadeBy}
use Rattle.compiler.proofs.Conditions.{compile_condition_3}
use Rattle.series.specs.Row.{row_calls, row_gives, last_of, started, EquallyLent, RunsRow, EndsAlike, RowsAlike}
use Rattle.series.proofs.Row.{Carries, carried, carries_after}

-- zeroing keeps a length
cleared-length : (n : ℕ) (b : List ℕ) → n ≤ length b → length (cleared n b) ≡ length b
cleared-length n b h = simp (length-append, length-replicate, length-drop) (omega arith)

module _ (t : Bytes) (l : Lent) where
  -- a call leaves output and work areas as long
  record Areas (x : Called) : Type 0 where
    output : length x.lent.output ≡ length l.output
    code : length x.lent.code ≡ length l.code
    table : length x.lent.table ≡ length l.table

  module _ (big : enough (request l t) ≡ true) where
    code-cleared : length (cleared code_size l.code) ≡ length l.code
    code-cleared = cleared-length code_size l.code (leb-true code_size (length l.code) (both_left (leb code_size (length l.code)) _ big))

    table-cleared : length (cleared table_size l.table) ≡ length l.table
    table-cleared =
        let e = both_right (leb code_size (length l.code)) _ big in
        cleared-length table_size l.table (leb-true table_size (length l.table) (both_left (leb table_size (length l.table)) _ e))

    answered_areas : (z : Session) (o : Outcome) → ((m : Image) → o ≡ Outcome.accepted m → length (image_bytes m) ≤ length l.output) → Areas (answered l z o)
    answered_areas z (Outcome.accepted m) f = record { output = long_over (image_bytes m) l.output (f m refl); code = code-cleared; table = table-cleared }
    answered_areas z (Outcome.refused r) f = record { output = refl; code = code-cleared; table = table-cleared }

    in_areas : (d : Decoded Session) → Areas (in_session l t d)
    in_areas (decoded z n) = answered_areas (compile z (request l t)).session (compile z (request l t)).outcome (compile-fits z (request l t))
    in_areas (malformed p) = record { output = refl; code = code-cleared; table = table-cleared }

  call_areas : Areas (call t l)
  unfolding call
  call_areas = chosen Areas (enough (request l t)) (λ e. in_areas e (read_session (take session_size l.session))) (λ _. record { output = refl; code = refl; table = refl })

-- a call in a series' session: the session after it, and what it leaves of lengths
record Goes (t s : Bytes) (l : Lent) : Type 0 where
  session : Session
  holds : Holds (session_after s (call t l).lent.session) session
  equal : EquallyLent (call t l).lent l

goes : (t s : Bytes) (z : Session) → Holds s z → (l : Lent) → Carries s l.session → Goes t s l
goes t s z h l k =
    let d = subst (λ (m : Lent). CallIs (call t m) s (length l.session) (compile z (request m t)).outcome (compile z (request m t)).session) same (call_does s z h c) in
    let a = call_areas t l in
    record { session = (compile z (request l t)).session; holds = d.holds; equal = record { session = d.long; output = a.output; code = a.code; table = a.table } }
  where
    c : Call
    c = record { tree = t; session = l.session; output = l.output; code = l.code; table = l.table }

    same : lent s c ≡ l
    same = λ i. record { session = carried s l.session k i; output = l.output; code = l.code; table = l.table }

-- the calls of two rows of equal shapes, lent equally much, are alike
row-alike : (ts us : List Bytes) → map shape ts ≡ map shape us → (l m : Lent) → EquallyLent l m → (s : Bytes) (z : Session) → Holds s z → Carries s l.session
    → (s' : Bytes) (z' : Session) → Holds s' z' → Carries s' m.session → AllAlike (row_calls ts l) (row_calls us m)
row-alike [] [] e l m q s z h k s' z' h' k' = AllAlike.none
row-alike [] (u ∷ us) e l m q s z h k s' z' h' k' = let w : ◌≡◌ {A = ℕ} 0 1 = cc in absurd (omega arith)
row-alike (t ∷ ts) [] e l m q s z h k s' z' h' k' = let w : ◌≡◌ {A = ℕ} 0 1 = cc in absurd (omega arith)
row-alike (t ∷ ts) (u ∷ us) e l m q s z h k s' z' h' k' =
    let g = goes t s z h l k in
    let f = goes u s' z' h' m k' in
    let first : shape t ≡ shape u = cc in
    let rest : map shape ts ≡ map shape us = cc in
    AllAlike.more (record { tree = first; session = q.session; output = q.output; code = q.code; table = q.table })
    (row-alike ts us rest (call t l).lent (call u m).lent
    (record { session = g.equal.session ∙ q.session ∙ sym f.equal.session; output = g.equal.output ∙ q.output ∙ sym f.equal.output; code = g.equal.code ∙ q.code ∙ sym f.equal.code; table = g.equal.table ∙ q.table ∙ sym f.equal.table })
    _ g.session g.holds (carries_after s (call t l).lent.session) _ f.session f.holds (carries_after s' (call u m).lent.session))

-- making a session keeps a length
made-length : (s : Bytes) → length (made s).session ≡ length s
unfolding made
made-length s =
    chosen (λ (x : Made). length x.session ≡ length s) (leb session_size (length s))
    (λ e. let r = leb-true session_size (length s) e in let n = session_length fresh (begun-valid six tt) in long_over (session_bytes fresh) s (omega arith)) (λ _. refl)

-- making one in a buffer with room for it
made_answers : (s : Bytes) → session_size ≤ length s → (made s).answer ≡ Ok session_size
unfolding made
made_answers s h = ap (λ (m : Made). m.answer) (pick_true (begins six s) (not_made Number.short_buffer s) (le-leb session_size (length s) h))

-- a buffer with room for a session has one made in it
by_call : (s : Bytes) → session_size ≤ length s → MadeBy (made s).session six
by_call s h = MadeBy.fresh s {r = (made s).answer} (record { answer = refl; session = refl }) (made_answers s h)

-- the end of two rows that have a call, or that have none
ends-step : {compared : Type 0} {p : Step} {ps : List Step} {x y : Called} {xs ys : List Called} → Same compared p x y → Indistinguishable compared ps xs ys
    → EndsAlike compared (p ∷ ps) (last_of x xs) (last_of y ys)
ends-step s Indistinguishable.done = EndsAlike.last s
ends-step s (Indistinguishable.step t rest) = EndsAlike.before (ends-step t rest)

ends-alike : {compared : Type 0} {ps : List Step} {x y : Called} {xs ys : List Called} → EndsAlike compared [] x y → Indistinguishable compared ps xs ys
    → EndsAlike compared ps (last_of x xs) (last_of y ys)
ends-alike e Indistinguishable.done = e
ends-alike e (Indistinguishable.step s rest) = ends-step s rest

-- two sessions just made
empty-alike : {compared : Type 0} (l m : Lent) → session_size ≤ length l.session → session_size ≤ length m.session → EndsAlike compared [] (started l) (started m)
empty-alike l m h k =
    EndsAlike.empty (made_answers l.session h) (made_answers m.session k) ((start_holds (starts_fresh l.session h)).bytes ∙ sym (start_holds (starts_fresh m.session k)).bytes)

-- Condition 3 of two rows that were run: their trees have equal shapes, and they were lent equally much. Neither their calls, one by one,
-- nor what the runs answered and left can be told apart
pub row_condition_3 : (ts us : List Bytes) → map shape ts ≡ map shape us → (l m : Lent) → EquallyLent l m → session_size ≤ length l.session → {r q : Answer} {l' m' : Lent}
    → RunsRow ts l r l' → RunsRow us m q m'
    → RowsAlike (field_count six ≡ field_count six) (shapes six (row_calls ts (started l).lent)) (row_gives ts (started l).lent) (row_gives us (started m).lent) (record { answer = r; lent = l' }) (record { answer = q; lent = m' })
row_condition_3 ts us e l m k h x y =
    record {
      steps = steps;
      ends = subst₂ (EndsAlike (field_count six ≡ field_count six) (shapes six (row_calls ts (started l).lent))) (sym x.last) (sym y.last) (ends-alike (empty-alike l m h room) steps);
    }
  where
    room : session_size ≤ length m.session
    room = omega (arith, k.session)

    equal : EquallyLent (started l).lent (started m).lent
    equal = record { session = made-length l.session ∙ k.session ∙ sym (made-length m.session); output = k.output; code = k.code; table = k.table }

    alike : AllAlike (row_calls ts (started l).lent) (row_calls us (started m).lent)
    alike =
        row-alike ts us e (started l).lent (started m).lent equal (session_made l.session) fresh (start_holds (starts_fresh l.session h)) (record { front = λ _. refl })
        (session_made m.session) fresh (start_holds (starts_fresh m.session room)) (record { front = λ _. refl })

    steps : Indistinguishable (field_count six ≡ field_count six) (shapes six (row_calls ts (started l).lent)) (row_gives ts (started l).lent) (row_gives us (started m).lent)
    steps = compile_condition_3 (by_call l.session h) (by_call m.session room) refl (row_calls ts (started l).lent) (row_calls us (started m).lent) alike _ _ x.ran y.ran
