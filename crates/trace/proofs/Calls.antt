-- A call with records beside plain calls: refused alike, or by its walk's end.
use Prim.Native.Nat.{ℕ}
use native.Mathlib.Omega.{arith}
use mathlib.Core.Bool.{true, false, not}
use mathlib.Core.List.{List, []}
use mathlib.Core.Path.{◌≡◌, refl, sym, ap, subst, ◌∙◌}
use lib.ListN.{length, take}
use lib.Dec.{T, eqb}
use Rattle.definition.specs.Basic.{Bytes}
use Rattle.definition.specs.Limit.{session_size, code_size, table_size}
use Rattle.definition.specs.Number
use Rattle.definition.specs.Number.{refusal, is_one_of, tree_numbers, walk_numbers, number_of}
use Rattle.definition.specs.Syntax.{Stmts}
use Rattle.definition.specs.Tree.{Parsed, read_tree}
use Rattle.definition.specs.Walk.{Res, walk_stmts}
use Rattle.definition.specs.Compiler.{State, machine}
use Rattle.definition.specs.Session.{six, Session, word_list}
use Rattle.definition.specs.Decode.{Decoded, decoded, malformed, read_session}
use Rattle.definition.specs.Compile.{Outcome, Step, start, turned_down, finish, translate, enough}
use Rattle.definition.specs.Call.{Lent, cleared, refused_call, answered, in_session, request, call}
use Rattle.definition.specs.declared.reason.Refusal.{Refusal}
use Rattle.std.specs.Prelude.{Err}
use Rattle.definition.proofs.Basic.{pick_true}
use Rattle.definition.proofs.Numbers.{each, of_each}
use Rattle.definition.proofs.ReadPlaces.{PlacedParsed, read-places}
use Rattle.definition.proofs.WalkPlaces.{Refuses, refuses_stmts, machine_local}
use Rattle.compiler.proofs.Whole.{call-enough, compile_is}
use Rattle.records.specs.Records.{Logged, logged, logging, Traced, untraced, finish_records, translate_records, compile_records}
use Rattle.records.specs.Naming.{Names, names, names_of, naming}
use Rattle.records.specs.Call.{unrecorded, recorded, over_records, in_session_records, call_records}
use Rattle.records.specs.declared.Record.{Record}
use Rattle.records.proofs.Track.{Tracked}
use Rattle.records.proofs.Logged.{Erased, walk_erased}
use Rattle.records.proofs.Naming.{NamedAs, walk_named}

-- the same lent, with another output
abbrev pub with_output : Bytes → Lent → Lent
with_output o l = record { session = l.session; output = o; code = l.code; table = l.table }

-- How a call ends once its buffers are large enough: a refusal that is not 15, whatever the output and the records; or the walk's end
pub data Seen (tree : Bytes) (l : Lent) : Type 0 where
  refused : (r : Refusal) → (number_of r.reason ≡ number_of Number.output_short → ⊥) → ((o : Bytes) → call tree (with_output o l) ≡ refused_call r (with_output o l)) → ((rs : List Record) → call_records tree l rs ≡ unrecorded rs (refused_call r l)) → Seen tree l
  walked : (z : Session) (m : ℕ) (b : Stmts) (k : ℕ) (s : Logged) → read_session (take session_size l.session) ≡ decoded z m → read_tree tree ≡ Parsed.parsed b k
      → walk_stmts naming b (names (word_list z.words) [] z.globals []) ≡ Res.on tt (names_of s) → walk_stmts machine b (start z) ≡ Res.on tt s.state
      → ((o : Bytes) → call tree (with_output o l) ≡ answered (with_output o l) (finish (length o) z (Res.on tt s.state)).session (finish (length o) z (Res.on tt s.state)).outcome)
      → ((rs : List Record) → call_records tree l rs ≡ recorded l rs (finish_records (length rs) (length l.output) z (Res.on tt s))) → Seen tree l

-- numbers of a list without 15
other_number : (xs : List ℕ) → T (each (λ k. not (eqb k (number_of Number.output_short))) xs) → (n : ℕ) → T (is_one_of xs n) → n ≡ number_of Number.output_short → ⊥
other_number xs h n t e = subst (λ k. T (not (eqb k (number_of Number.output_short)))) e (of_each (λ k. not (eqb k (number_of Number.output_short))) xs h n t)

-- a tree's refusals
tree-number : {bound : ℕ} {p : Parsed Stmts} → PlacedParsed bound p → (r : Refusal) → p ≡ Parsed.refused r → number_of r.reason ≡ number_of Number.output_short → ⊥
tree-number (PlacedParsed.parsed h) r e = let z : ◌≡◌ {A = ℕ} 0 1 = cc in absurd (omega arith)
tree-number (PlacedParsed.refused n q h k) r e = let same : refusal n q ≡ r = cc in subst (λ (x : Refusal). number_of x.reason ≡ number_of Number.output_short → ⊥) same (other_number tree_numbers tt (number_of n) h)

-- a walk's refusals
walk-number : {bound : ℕ} {p : Parsed Stmts} → PlacedParsed bound p → (b : Stmts) (n : ℕ) → p ≡ Parsed.parsed b n → (z : Session) (r : Refusal) (s : State) → walk_stmts machine b (start z) ≡ Res.stop r s → number_of r.reason ≡ number_of Number.output_short → ⊥
walk-number {bound} (PlacedParsed.parsed {b = b₁} h) b n e z r s q =
    let same : b₁ ≡ b = cc in
    stopped (subst (λ x. Refuses bound (walk_stmts machine x (start z))) same (refuses_stmts (machine_local bound) b₁ h (start z))) q
  where
    stopped : {x : Res State (Unit {0})} → Refuses bound x → x ≡ Res.stop r s → number_of r.reason ≡ number_of Number.output_short → ⊥
    stopped (Refuses.on) q = let z : ◌≡◌ {A = ℕ} 0 1 = cc in absurd (omega arith)
    stopped (Refuses.stop {r = r₁} w) q = let same : r₁ ≡ r = cc in subst (λ (x : Refusal). number_of x.reason ≡ number_of Number.output_short → ⊥) same (other_number walk_numbers tt (number_of r₁.reason) w.number)
walk-number (PlacedParsed.refused m q h k) b n e z r s w = let y : ◌≡◌ {A = ℕ} 0 1 = cc in absurd (omega arith)

-- what goes on goes on alike
erased_state : {l : List ℕ} {s : Logged} {t : State} → Erased l s t → t ≡ s.state
erased_state (Erased.erased e) = refl

named_of : {l : List ℕ} {s : Logged} {t : Names} → NamedAs l s t → t ≡ names_of s
named_of NamedAs.named_as = refl

plain-on : {l : List ℕ} {s : Logged} {y : Res State (Unit {0})} → Tracked false (Erased l) (Res.on tt s) y → y ≡ Res.on tt s.state
plain-on (Tracked.on a h) = ap (Res.on tt) (erased_state h)

names-on : {l : List ℕ} {s : Logged} {y : Res Names (Unit {0})} → Tracked true (NamedAs l) (Res.on tt s) y → y ≡ Res.on tt (names_of s)
names-on (Tracked.on a h) = ap (Res.on tt) (named_of h)

plain_stop : {l : List ℕ} {r : Refusal} {s : Logged} {y : Res State (Unit {0})} → Tracked false (Erased l) (Res.stop r s) y → (t : State) × (y ≡ Res.stop r t)
plain_stop (Tracked.stop r {t = t}) = (t, refl)
plain_stop (Tracked.first h) = absurd h

module _ (tree : Bytes) (l : Lent) (big : enough (request l tree) ≡ true) where
  abbrev front : Bytes
  front = take session_size l.session

  -- with records
  pub records_enough : (rs : List Record) → call_records tree l rs ≡ in_session_records l rs tree (read_session front)
  unfolding call_records
  records_enough rs = pick_true (in_session_records l rs tree (read_session front)) (unrecorded rs (record { answer = Err (refusal Number.short_buffer 0); lent = l })) big

  pub compile-records : (room : ℕ) (z : Session) → compile_records room z (request l tree) ≡ translate_records room (length l.output) z (read_tree tree)
  unfolding compile_records
  compile-records room z = pick_true (translate_records room (length l.output) z (read_tree tree)) (untraced (turned_down z (refusal Number.short_buffer 0))) big

  plain : (z : Session) (m : ℕ) (p : Parsed Stmts) → read_session front ≡ decoded z m → read_tree tree ≡ p → (o : Bytes)
      → call tree (with_output o l) ≡ answered (with_output o l) (translate (length o) z p).session (translate (length o) z p).outcome
  plain z m p e t o =
      call-enough tree (with_output o l) big ∙ ap (in_session (with_output o l) tree) e
      ∙ ap (λ (x : Step). answered (with_output o l) x.session x.outcome) (compile_is tree (with_output o l) big z ∙ ap (translate (length o) z) t)

  traced-call : (z : Session) (m : ℕ) (p : Parsed Stmts) → read_session front ≡ decoded z m → read_tree tree ≡ p → (rs : List Record)
      → call_records tree l rs ≡ recorded l rs (translate_records (length rs) (length l.output) z p)
  traced-call z m p e t rs = records_enough rs ∙ ap (in_session_records l rs tree) e ∙ ap (recorded l rs) (compile-records (length rs) z ∙ ap (translate_records (length rs) (length l.output) z) t)

  pub seen : Seen tree l
  seen = session (read_session front) refl
    where
      places : PlacedParsed (length tree) (read_tree tree)
      places = read-places tree (length tree) (λ h. omega arith)

      walks : (z : Session) (m : ℕ) (b : Stmts) (k : ℕ) → read_session front ≡ decoded z m → read_tree tree ≡ Parsed.parsed b k → (x : Res Logged (Unit {0})) → walk_stmts logging b (logged [] (start z)) ≡ x → Seen tree l
      walks z m b k e t (Res.on a s) q =
          let y = plain-on (rw q at (walk_erased b (start z))) in
          let w = names-on (rw q at (walk_named b z)) in
          Seen.walked z m b k s e t w y
          (λ o. plain z m (Parsed.parsed b k) e t o ∙ ap (λ (x : Res State (Unit {0})). answered (with_output o l) (finish (length o) z x).session (finish (length o) z x).outcome) y)
          (λ rs. traced-call z m (Parsed.parsed b k) e t rs ∙ ap (λ x. recorded l rs (finish_records (length rs) (length l.output) z x)) q)
      walks z m b k e t (Res.stop r s) q =
          let y = plain_stop (rw q at (walk_erased b (start z))) in
          Seen.refused r (walk-number places b k t z r y.0 y.1)
          (λ o. plain z m (Parsed.parsed b k) e t o ∙ ap (λ (x : Res State (Unit {0})). answered (with_output o l) (finish (length o) z x).session (finish (length o) z x).outcome) y.1)
          (λ rs. traced-call z m (Parsed.parsed b k) e t rs ∙ ap (λ x. recorded l rs (finish_records (length rs) (length l.output) z x)) q)

      read : (z : Session) (m : ℕ) → read_session front ≡ decoded z m → (p : Parsed Stmts) → read_tree tree ≡ p → Seen tree l
      read z m e (Parsed.parsed b k) t = walks z m b k e t (walk_stmts logging b (logged [] (start z))) refl
      read z m e (Parsed.refused r) t = Seen.refused r (tree-number places r t) (λ o. plain z m (Parsed.refused r) e t o) (λ rs. traced-call z m (Parsed.refused r) e t rs)

      session : (d : Decoded Session) → read_session front ≡ d → Seen tree l
      session (decoded z m) e = read z m e (read_tree tree) refl
      session (malformed p) e = Seen.refused (refusal Number.no_session 0) (λ h. omega arith) (λ o. call-enough tree (with_output o l) big ∙ ap (in_session (with_output o l) tree) e) (λ rs. records_enough rs ∙ ap (in_session_records l rs tree) e)

-- Work areas that are cleared alike give the same call

module _ (tree : Bytes) (l : Lent) (c₁ : Bytes) (t₁ : List ℕ) (lc : length c₁ ≡ length l.code) (lt : length t₁ ≡ length l.table) (kc : cleared code_size c₁ ≡ cleared code_size l.code) (kt : cleared table_size t₁ ≡ cleared table_size l.table) where
  abbrev used : Lent
  used = record { session = l.session; output = l.output; code = c₁; table = t₁ }

  step_same : (x : Step) → answered used x.session x.outcome ≡ answered l x.session x.outcome
  step_same x = go x.session x.outcome
    where
      go : (z : Session) (o : Outcome) → answered used z o ≡ answered l z o
      go z (Outcome.accepted m) = λ i. record { answer = (answered l z (Outcome.accepted m)).answer; lent = record { session = (answered l z (Outcome.accepted m)).lent.session; output = (answered l z (Outcome.accepted m)).lent.output; code = kc i; table = kt i } }
      go z (Outcome.refused r) = λ i. record { answer = Err r; lent = record { session = l.session; output = l.output; code = kc i; table = kt i } }

  same_request : request used tree ≡ request l tree
  same_request = λ i. record { code = lc i; table = lt i; session = length l.session; output = length l.output; tree = tree }

  recorded_same : (rs : List Record) (x : Traced) → recorded used rs x ≡ recorded l rs x
  recorded_same rs x = λ i. record { called = step_same x.step i; count = length x.records; records = over_records x.records rs }

  pub used_records : enough (request l tree) ≡ true → (rs : List Record) → call_records tree used rs ≡ call_records tree l rs
  used_records big rs =
      records_enough tree used (subst (λ c. enough c ≡ true) (sym same_request) big) rs ∙ go (read_session (take session_size l.session)) ∙ sym (records_enough tree l big rs)
    where
      go : (d : Decoded Session) → in_session_records used rs tree d ≡ in_session_records l rs tree d
      go (decoded z n) = ap (λ c. recorded used rs (compile_records (length rs) z c)) same_request ∙ recorded_same rs (compile_records (length rs) z (request l tree))
      go (malformed p) = ap (unrecorded rs) (step_same (turned_down (record { words = six; globals = []; pool = [] }) (refusal Number.no_session 0)))
