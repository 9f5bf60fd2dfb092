-- Condition 1 of the exported calls that are given a session: an answer; or a numbered refusal with its place, session, output and records
-- as they were, and the work areas zeroed, untouched where a session or a work area is too short.
use Prim.Native.Nat.{ℕ, ◌*◌, ◌/◌, ◌%◌, ◌≤◌, ◌<◌}
use native.Mathlib.Omega.{arith}
use mathlib.Core.Bool.{Bool, true, false}
use mathlib.Core.List.{List, [], ◌∷◌, ◌++◌}
use mathlib.Core.Logic.{◌↔◌}
use mathlib.Core.Path.{◌≡◌, refl, sym, ap, subst, subst₂, ◌∙◌}
use lib.Dec.{T, leb, eqb}
use lib.ListN.{length, take, drop, length-replicate}
use lib.Seq.{drop-append_seam}
use borrow.Author.Tests.{leb-true, leb-false, eqb-true}
use Rattle.std.specs.Prelude.{Ok, Err}
use Rattle.definition.specs.Basic.{Bytes, pick, both}
use Rattle.definition.specs.Limit.{session_size, code_size, table_size, image_limit}
use Rattle.definition.specs.Number
use Rattle.definition.specs.Number.{refusal, number_of, numbers_of, is_one_of, short_buffer, few_records, make_numbers, word_numbers, call_numbers, lent_numbers}
use Rattle.definition.specs.Session.{Words, six, begun, session_bytes}
use Rattle.definition.specs.Decode.{Decoded, decoded, malformed, read_handed, read_session}
use Rattle.definition.specs.Compile.{enough}
use Rattle.definition.specs.Output.{over}
use Rattle.definition.specs.Call.{Lent, ended, request, call, made, begins, not_made, begins_with, made_words}
use Rattle.definition.specs.Valid.{All, AreBytes, ValidWords}
use Rattle.definition.specs.declared.reason.Refusal.{Refusal}
use Rattle.definition.specs.Answer.{Answer}
use Rattle.definition.proofs.Basic.{both_left, both_right}
use Rattle.definition.proofs.Numbers.{each, of_each, among}
use Rattle.definition.proofs.Places.{Within, call_within_tree}
use Rattle.definition.proofs.Sessions.{session_length, write_handed, handed-valid}
use Rattle.definition.proofs.Steps.{begun-valid}
use Rattle.compiler.specs.Promise.{Compiles, Ended as EndedPlain, Cleared}
use Rattle.compiler.proofs.Conditions.{compile_condition_1, compile_condition_2}
use Rattle.records.specs.Call.{Recorded, unrecorded, in_session_records, call_records}
use Rattle.records.specs.declared.Record.{Record}
use Rattle.records.proofs.Logged.{CallAgrees, call_agrees}
use Rattle.names.specs.Rows.{rows_of}
use Rattle.names.specs.Promise.{call_names, blanks, named as namedRows}
use Rattle.exported.specs.Packed.{half_bound, high, of_halves, Packs, MakesPacked, WordsPacked, CompilesPacked}
use Rattle.exported.specs.Framed.{Pairs}
use Rattle.exported.proofs.Fits.{told}
use Rattle.exported.specs.Named.{names_answer, NamesPacked}
use Rattle.promises.specs.Ends.{buffer, AsItWas, Written, Zeroed, TooShort, Ended, Ends, session, compiled, areas, named, tree_reasons, compile_numbers, names_numbers}
use Rattle.promises.specs.Ended.{Behind}
use Rattle.promises.proofs.Ended.{behind-rows}
use Rattle.promises.proofs.Number13.{no_call_is_13}
use Rattle.promises.proofs.Endings.{EndsAs, packed_ends, not_one, no_buffer}

-- a session buffer that is long enough
session_long : {s s' : Bytes} → session_size ≤ length s → TooShort (session s s' 0 ++ []) → ⊥
session_long l (TooShort.here h) = omega arith
session_long l (TooShort.later s) = no_buffer s

-- a session that is made over the front of a buffer of its size
begun_ends : (numbers : List ℕ) (w : Words) → ValidWords w → (s : Bytes) → session_size ≤ length s
    → EndsAs numbers 0 (session s (begins w s).session) [] (begins w s).answer
begun_ends numbers w v s h =
    let new = session_bytes (begun w) in
    Ended.answered refl (λ t. session_long h t) (All.more (record { room = h; behind = ap (λ n. drop n (over new s)) (sym (session_length (begun w) (begun-valid w v))) ∙ drop-append_seam new (drop (length new) s) ∙ ap (λ n. drop n s) (session_length (begun w) (begun-valid w v)) }) All.none) All.none

-- 1
short_ends : (numbers : List ℕ) → T (is_one_of numbers (number_of short_buffer)) → (s : Bytes) → length s < session_size
    → EndsAs numbers 0 (session s s) [] (Err (refusal short_buffer 0))
short_ends numbers t s h = Ended.short t refl refl (TooShort.here h) (All.more (record { same = refl }) All.none)

made_ends : (s : Bytes) → EndsAs make_numbers 0 (session s (made s).session) [] (made s).answer
unfolding made
made_ends s = go (leb session_size (length s)) refl
  where
    go : (b : Bool) → leb session_size (length s) ≡ b
        → EndsAs make_numbers 0 (session s (pick b (begins six s) (not_made short_buffer s)).session) [] (pick b (begins six s) (not_made short_buffer s)).answer
    go true e = begun_ends make_numbers six tt s (leb-true session_size (length s) e)
    go false e = short_ends make_numbers tt s (leb-false session_size (length s) e)

-- `monkey_make_session`
pub ends_make_session : {s s' : Bytes} {r : ℕ} → MakesPacked s r s' → Ends make_numbers 0 (session s s') [] r
ends_make_session {s} k =
    packed_ends k.answer (subst (λ x. EndsAs make_numbers 0 (session s x) [] (made s).answer) (sym k.session) (made_ends s))

words_ends : (s names : Bytes) → AreBytes names
    → EndsAs word_numbers 0 (session s (made_words s names).session) [] (made_words s names).answer
unfolding made_words
words_ends s names a = go (leb session_size (length s)) refl
  where
    handed : (d : Decoded Words) → read_handed names ≡ d → session_size ≤ length s
        → EndsAs word_numbers 0 (session s (begins_with d s).session) [] (begins_with d s).answer
    handed (decoded w n) e h = begun_ends word_numbers w (handed-valid (write_handed names a e)) s h
    handed (malformed p) e h = Ended.refused tt (λ e. omega arith) (λ t. session_long h t) (omega arith) (All.more (record { same = refl }) All.none) All.none

    go : (b : Bool) → leb session_size (length s) ≡ b
        → EndsAs word_numbers 0 (session s (pick b (begins_with (read_handed names) s) (not_made short_buffer s)).session) [] (pick b (begins_with (read_handed names) s) (not_made short_buffer s)).answer
    go true e = handed (read_handed names) refl (leb-true session_size (length s) e)
    go false e = short_ends word_numbers tt s (leb-false session_size (length s) e)

-- `monkey_make_session_words`
pub ends_make_session_words : {s names s' : Bytes} {r : ℕ} → AreBytes names → WordsPacked s names r s'
    → Ends word_numbers 0 (session s s') [] r
ends_make_session_words {s} {names} a k =
    packed_ends k.answer (subst (λ x. EndsAs word_numbers 0 (session s x) [] (made_words s names).answer) (sym k.session) (words_ends s names a))

-- the numbers of a compile call that is lent enough
abbrev numbers_left : List ℕ
numbers_left = numbers_of tree_reasons

-- a number that is not 13, of a list, is in one that has the list's others
but_13 : (xs ys : List ℕ) → T (each (λ x. pick (eqb x (number_of Number.code)) true (is_one_of ys x)) xs) → (n : ℕ) → T (is_one_of xs n)
    → (n ≡ number_of Number.code → ⊥) → T (is_one_of ys n)
but_13 xs ys h n t m =
    go (eqb n (number_of Number.code)) refl (of_each (λ x. pick (eqb x (number_of Number.code)) true (is_one_of ys x)) xs h n t)
  where
    go : (b : Bool) → eqb n (number_of Number.code) ≡ b → T (pick b true (is_one_of ys n)) → T (is_one_of ys n)
    go true e u = absurd (m (eqb-true n (number_of Number.code) e))
    go false e u = u

-- a refusal with the number 13 is of 13's reason
named_13 : (q : Refusal) → number_of q.reason ≡ number_of Number.code → ◌≡◌ {A = Answer} (Err q) (Err (refusal Number.code q.place))
named_13 q e = sym (told (Err q)).back ∙ ap (λ n. of_halves n q.place) e

-- How a compile call ends: with room for everything, or with 1
data Ending (tree : Bytes) (l : Lent) : Answer → Lent → Type 0 where
  answered : {n : ℕ} {l' : Lent} → enough (request l tree) ≡ true → n ≤ length l.output → drop n l'.output ≡ drop n l.output
      → drop session_size l'.session ≡ drop session_size l.session → Cleared l l' → Ending tree l (Ok n) l'
  refused : {q : Refusal} {l' : Lent} → enough (request l tree) ≡ true → T (is_one_of numbers_left (number_of q.reason))
      → q.place ≤ length tree → l'.session ≡ l.session → l'.output ≡ l.output → Cleared l l' → Ending tree l (Err q) l'
  short : {q : Refusal} {l' : Lent} → enough (request l tree) ≡ false → (number_of q.reason) ≡ number_of short_buffer → q.place ≡ 0 → l' ≡ l
      → Ending tree l (Err q) l'

call-ending : (tree : Bytes) (l : Lent) → AreBytes (take session_size l.session) → Ending tree l (call tree l).answer (call tree l).lent
call-ending tree l a =
    let kept : Compiles tree l (call tree l).answer (call tree l).lent = record { answer = refl; lent = refl } in
    go (call tree l).answer (call tree l).lent (enough (request l tree)) refl (compile_condition_2 tree l (call tree l).answer (call tree l).lent a kept).short (no_call_is_13 tree l) (compile_condition_1 tree l (call tree l).answer (call tree l).lent a kept) (call_within_tree tree l a)
  where
    go : (x : Answer) (l' : Lent) (b : Bool) → enough (request l tree) ≡ b
        → (enough (request l tree) ≡ false) ↔ (x ≡ Err (refusal short_buffer 0)) → ((p : ℕ) → x ≡ Err (refusal Number.code p) → ⊥)
        → EndedPlain l x l' → Within image_limit call_numbers (length tree) x → Ending tree l x l'
    go (Ok n) l' true e s m (EndedPlain.answered r o d c) w = Ending.answered e r o d c
    go (Ok n) l' false e s m (EndedPlain.answered r o d c) w = let f = s.0 e in let z : ◌≡◌ {A = ℕ} 0 1 = cc in absurd (omega arith)
    go (Err q) l' true e s m (EndedPlain.refused t d o c) (Within.refused b) =
        Ending.refused e (but_13 lent_numbers numbers_left tt (number_of q.reason) t (λ i. m q.place (named_13 q i))) b.place d o c
    go (Err q) l' false e s m (EndedPlain.refused t d o c) w =
        absurd (not_one lent_numbers tt (number_of q.reason) t (let f = s.0 e in let z : q ≡ refusal short_buffer 0 = cc in ap (λ (q : Refusal). (number_of q.reason)) z))
    go (Err q) l' b e s m (EndedPlain.short n p k) w = Ending.short (s.1 (sym (told (Err q)).back ∙ (λ i. of_halves (n i) (p i)))) n p k

-- so every buffer has its size
module _ (tree : Bytes) (l l' : Lent) where
  record Sizes : Type 0 where
    code : code_size ≤ length l.code
    table : table_size ≤ length l.table
    session : session_size ≤ length l.session

  sizes : enough (request l tree) ≡ true → Sizes
  sizes e =
      let f = both_right (leb code_size (length l.code)) _ e in
      record {
        code = leb-true code_size (length l.code) (both_left (leb code_size (length l.code)) _ e);
        table = leb-true table_size (length l.table) (both_left (leb table_size (length l.table)) _ f);
        session = leb-true session_size (length l.session) (both_right (leb table_size (length l.table)) _ f);
      }

  -- or one of them has not
  lacks : enough (request l tree) ≡ false → (n : ℕ) → TooShort (compiled l l' n ++ areas l l')
  lacks e n = go (leb code_size (length l.code)) refl (leb table_size (length l.table)) refl (leb session_size (length l.session)) refl e
    where
      go : (a : Bool) → leb code_size (length l.code) ≡ a → (b : Bool) → leb table_size (length l.table) ≡ b → (c : Bool)
          → leb session_size (length l.session) ≡ c → both a (both b c) ≡ false → TooShort (compiled l l' n ++ areas l l')
      go a f b g false h e = TooShort.later (TooShort.here (leb-false session_size (length l.session) h))
      go false f b g true h e = TooShort.later (TooShort.later (TooShort.here (leb-false code_size (length l.code) f)))
      go true f false g true h e =
          TooShort.later (TooShort.later (TooShort.later (TooShort.here (leb-false table_size (length l.table) g))))
      go true f true g true h e = let z : ◌≡◌ {A = ℕ} 0 1 = cc in absurd (omega arith)

  -- none is too short then
  all_long : enough (request l tree) ≡ true → TooShort (compiled l l' 0 ++ areas l l') → ⊥
  all_long e (TooShort.here h) = omega arith
  all_long e (TooShort.later (TooShort.here h)) = omega (arith, (sizes e).session)
  all_long e (TooShort.later (TooShort.later (TooShort.here h))) = omega (arith, (sizes e).code)
  all_long e (TooShort.later (TooShort.later (TooShort.later (TooShort.here h)))) = omega (arith, (sizes e).table)
  all_long e (TooShort.later (TooShort.later (TooShort.later (TooShort.later s)))) = no_buffer s

  -- with numbers for records neither
  named_long : {xs ys : List ℕ} → enough (request l tree) ≡ true → TooShort (named l l' xs ys 0 ++ areas l l') → ⊥
  named_long e (TooShort.here h) = omega arith
  named_long e (TooShort.later s) = all_long e s

  -- the work areas are zeroed
  zeroed : enough (request l tree) ≡ true → Cleared l l' → All Zeroed (areas l l')
  zeroed e c =
      All.more (record { room = (sizes e).code; zeros = c.code }) (All.more (record { room = (sizes e).table; zeros = c.table }) All.none)

  -- output and session as they were, and all four
  two_kept : (n : ℕ) → l'.output ≡ l.output → l'.session ≡ l.session → All AsItWas (compiled l l' n)
  two_kept n o s = All.more (record { same = o }) (All.more (record { same = s }) All.none)

  all_kept : (n : ℕ) → l' ≡ l → All AsItWas (compiled l l' n ++ areas l l')
  all_kept n e =
      All.more (record { same = ap (λ (l : Lent). l.output) e })
      (All.more (record { same = ap (λ (l : Lent). l.session) e })
      (All.more (record { same = ap (λ (l : Lent). l.code) e })
      (All.more (record { same = ap (λ (l : Lent). l.table) e }) All.none)))

  -- output and session written
  two_written : {n : ℕ} → enough (request l tree) ≡ true → n ≤ length l.output → drop n l'.output ≡ drop n l.output
      → drop session_size l'.session ≡ drop session_size l.session → All Written (compiled l l' n)
  two_written e h o s = All.more (record { room = h; behind = o }) (All.more (record { room = (sizes e).session; behind = s }) All.none)

-- `monkey_compile`
pub ends_compile : {tree : Bytes} {l l' : Lent} {r : ℕ} → AreBytes (take session_size l.session) → CompilesPacked tree l r l'
    → Ends compile_numbers (length tree) (compiled l l') (areas l l') r
ends_compile {tree} {l} {l'} a k =
    packed_ends k.answer (subst (λ x. EndsAs compile_numbers (length tree) (compiled l x) (areas l x) (call tree l).answer) (sym k.lent) (go (call tree l).answer (call tree l).lent (call-ending tree l a)))
  where
    go : (x : Answer) (l' : Lent) → Ending tree l x l' → EndsAs compile_numbers (length tree) (compiled l l') (areas l l') x
    go _ l' (Ending.answered e h o s c) = Ended.answered refl (λ t. all_long tree l l' e t) (two_written tree l l' e h o s) (zeroed tree l l' e c)
    go _ l' (Ending.refused {q} e t p s o c) =
        Ended.refused (among numbers_left compile_numbers tt (number_of q.reason) t) (not_one numbers_left tt (number_of q.reason) t) (λ t. all_long tree l l' e t) p (two_kept tree l l' q.place o s) (zeroed tree l l' e c)
    go _ l' (Ending.short {q} e n p k) =
        Ended.short (subst (λ n. T (is_one_of compile_numbers n)) (sym n) tt) n p (lacks tree l l' e 0) (all_kept tree l l' q.place k)

-- a buffer that is too short comes before the records
records_short : (tree : Bytes) (l : Lent) (rs : List Record) → enough (request l tree) ≡ false
    → (call_records tree l rs).called.answer ≡ Err (refusal short_buffer 0)
unfolding call_records
records_short tree l rs e = ap (λ b. (pick b (in_session_records l rs tree (read_session (take session_size l.session))) (unrecorded rs (record { answer = Err (refusal short_buffer 0); lent = l }))).called.answer) e

-- `monkey_compile_names`
pub ends_compile_names : {tree : Bytes} {l l' : Lent} {xs xs' : List ℕ} {r : ℕ} → AreBytes (take session_size l.session)
    → NamesPacked tree l xs r l' xs'
    → Ends names_numbers (length tree) (named l l' xs xs') (areas l l') r
unfolding call_names
ends_compile_names {tree} {l} {l'} {xs} {xs'} {r} a k =
    let e = go (call_agrees tree l (blanks (length xs / 4))) (call-ending tree l a) (records_short tree l (blanks (length xs / 4))) (behind-rows xs (length-replicate (length xs / 4) _) (call_agrees tree l (blanks (length xs / 4)))) k.answer k.parts in
    subst₂ (λ x ys. Ends names_numbers (length tree) (named l x xs ys) (areas l x) r) (sym k.lent) (sym k.rows) e
  where
    by : (x : Answer) (l₁ : Lent) (n : ℕ) (ys : List ℕ) → Ending tree l x l₁ → Behind 4 xs (record { answer = x; lent = l₁ }) n ys → Packs (names_answer x n) r → ((j : ℕ) → x ≡ Ok j → Pairs n j (r % half_bound))
        → Ends names_numbers (length tree) (named l l₁ xs ys) (areas l l₁) r
    by (Ok j) l₁ n ys (Ending.answered e h o s c) b k p =
        let d = p j refl in
        let w : All Written (buffer (4 * n) xs ys ∷ compiled l l₁ j) = All.more (record { room = b.room; behind = b.stays }) (two_written tree l l₁ e h o s) in
        Ended.answered k.number (λ t. named_long tree l l₁ e t) (subst₂ (λ i j. All Written (buffer (4 * i) xs ys ∷ compiled l l₁ j)) (sym d.first) (sym d.second) w) (zeroed tree l l₁ e c)
    by (Err q) l₁ n ys (Ending.refused e t p s o c) b k _ =
        let m : T (is_one_of names_numbers (number_of q.reason)) = among numbers_left names_numbers tt (number_of q.reason) t in
        Ended.refused (subst (λ n. T (is_one_of names_numbers n)) (sym k.number) m) (λ f. not_one numbers_left tt (number_of q.reason) t (sym k.number ∙ f)) (λ t. named_long tree l l₁ e t) (subst (λ v. v ≤ length tree) (sym k.value) p)
        (All.more (record { same = (b.refused q refl).1 }) (two_kept tree l l₁ _ o s)) (zeroed tree l l₁ e c)
    by (Err q) l₁ n ys (Ending.short e f p g) b k _ =
        Ended.short (subst (λ n. T (is_one_of names_numbers n)) (sym (k.number ∙ f)) tt) (k.number ∙ f) (k.value ∙ p) (TooShort.later (lacks tree l l₁ e 0)) (All.more (record { same = (b.refused q refl).1 }) (all_kept tree l l₁ _ g))

    go : {x : Recorded} → CallAgrees tree l (blanks (length xs / 4)) x (call tree l) → Ending tree l (call tree l).answer (call tree l).lent
        → (enough (request l tree) ≡ false → x.called.answer ≡ Err (refusal short_buffer 0))
        → Behind 4 xs x.called x.count (namedRows xs x).rows
        → Packs (names_answer x.called.answer x.count) r → ((j : ℕ) → x.called.answer ≡ Ok j → Pairs x.count j (r % half_bound))
        → Ends names_numbers (length tree) (named l x.called.lent xs (namedRows xs x).rows) (areas l x.called.lent) r
    go (CallAgrees.refused q e) h n b k p = by (call tree l).answer (call tree l).lent 0 _ h b k p
    go (CallAgrees.accepted new e _ _) h n b k p = by (call tree l).answer (call tree l).lent (length new) _ h b k p
    go (CallAgrees.few f) h n b k p = many (enough (request l tree)) refl
      where
        many : (x : Bool) → enough (request l tree) ≡ x
            → Ends names_numbers (length tree) (named l (ended l.session l.output l) xs (rows_of [] ++ xs)) (areas l (ended l.session l.output l)) r
        many true e =
            Ended.refused (subst (λ n. T (is_one_of names_numbers n)) (sym k.number) tt) (λ f. let z : number_of few_records ≡ number_of short_buffer = sym k.number ∙ f in omega arith) (λ t. named_long tree l (ended l.session l.output l) e t) (omega (arith, k.value))
            (All.more (record { same = (b.refused _ refl).1 }) (two_kept tree l (ended l.session l.output l) _ refl refl)) (zeroed tree l (ended l.session l.output l) e (record { code = refl; table = refl }))
        many false e = let z = n e in let i : ◌≡◌ {A = ℕ} (number_of few_records) (number_of short_buffer) = ap (λ a. high a) z in absurd (omega arith)
