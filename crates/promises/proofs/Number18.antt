-- A call with records refuses with 18 exactly when the tree has more Identifiers than there are records and nothing before 18 refuses it.
use Prim.Native.Nat.{ℕ, ◌/◌, ◌<◌}
use native.Mathlib.Omega.{arith}
use mathlib.Core.Bool.{Bool, true, false}
use mathlib.Core.List.{List, [], reverse}
use mathlib.Core.Logic.{◌↔◌}
use mathlib.Core.Path.{◌≡◌, refl, sym, ap, subst, ◌∙◌}
use lib.ListN.{length, take, length-map, length-reverse, length-replicate}
use lib.Dec.{T, leb}
use borrow.Author.Tests.{leb-true, leb-false}
use Rattle.std.specs.Prelude.{Result, Ok, Err}
use Rattle.definition.specs.Basic.{Bytes, pick}
use Rattle.definition.specs.Limit.{session_size}
use Rattle.definition.specs.Number
use Rattle.definition.specs.Number.{refusal, number_of, is_one_of, tree_numbers, walk_number}
use Rattle.definition.specs.Bytecode.{image_bytes}
use Rattle.definition.specs.Walk.{Res}
use Rattle.definition.specs.Compiler.{State}
use Rattle.definition.specs.Tree.{read_tree}
use Rattle.definition.specs.Session.{Session}
use Rattle.definition.specs.Decode.{Decoded, decoded, malformed, read_session}
use Rattle.definition.specs.Compile.{Outcome, Step, Request, start, image_of, session_of, turned_down, finish, translate, enough, compile}
use Rattle.definition.specs.Call.{Lent, answered, request}
use Rattle.definition.specs.Valid.{AreBytes, ValidSession}
use Rattle.definition.specs.declared.reason.Refusal.{Refusal}
use Rattle.definition.specs.declared.reason.Reason.{Reason}
use Rattle.definition.specs.Answer.{Answer}
use Rattle.definition.proofs.Basic.{pick_true}
use Rattle.definition.proofs.Limits.{ValidState, walk_limits}
use Rattle.definition.proofs.Sessions.{write_session}
use Rattle.definition.proofs.Simulation.{Ends}
use Rattle.definition.proofs.Steps.{by_reading, start-valid}
use Rattle.compiler.proofs.Whole.{long_front}
use Rattle.records.specs.Records.{Logged, identifiers_in, identifiers, Traced, untraced, traced, finish_records, translate_records, compile_records}
use Rattle.records.specs.Call.{Recorded, in_session_records, call_records}
use Rattle.records.specs.declared.Record.{Record}
use Rattle.records.proofs.Track.{Tracked}
use Rattle.records.proofs.Logged.{Erased, WentThrough, walk_erased}
use Rattle.trace.specs.declared.CallTrace.{CallTrace}
use Rattle.trace.specs.Promise.{answer_of}
use Rattle.names.specs.Promise.{blanks, call_names, Names, Records}
use Rattle.promises.specs.Refusals.{TooFew}
use Rattle.promises.proofs.Exact.{when_short, when_enough}

-- an outcome that is refused with 18
abbrev Is18 : Outcome → Type 0
Is18 o = o ≡ Outcome.refused (refusal Number.few_records 0)

-- another refusal
other_number : {r : Refusal} {n : Reason} → Outcome.refused r ≡ Outcome.refused (refusal n 0) → number_of r.reason ≡ number_of n
other_number {r} {n} e = let z : r ≡ refusal n 0 = cc in ap (λ (r : Refusal). number_of r.reason) z

-- The definition

module _ (room output : ℕ) (z : Session) where
  -- what the walk's end gives, beside the plain one
  abbrev Iff18 : List ℕ → Traced → Step → Type 0
  Iff18 ids t x = Is18 t.step.outcome ↔ (WentThrough z x × (room < length ids))

  -- the walk went through
  went : (s : State) (c : Bool) → WentThrough z (pick c (record { outcome = Outcome.accepted (image_of s); session = session_of s }) (turned_down z (refusal Number.output_short 0)))
  went s true = WentThrough.accepted
  went s false = WentThrough.short

  -- by the number of records, and the output
  ended : (s : Logged) (ids : List ℕ) → length ids ≡ length s.records
      → Iff18 ids (finish_records room output z (Res.on tt s)) (finish output z (Res.on tt s.state))
  ended s ids many = go (leb (length s.records) room) refl (leb (length (image_bytes (image_of s.state))) output)
    where
      go : (b : Bool) → leb (length s.records) room ≡ b → (c : Bool)
          → Iff18 ids
          (pick b (traced s.records (pick c (record { outcome = Outcome.accepted (image_of s.state); session = session_of s.state }) (turned_down z (refusal Number.output_short 0)))) (untraced (turned_down z (refusal Number.few_records 0))))
          (pick c (record { outcome = Outcome.accepted (image_of s.state); session = session_of s.state }) (turned_down z (refusal Number.output_short 0)))
      go true l true = (λ e. let w : ◌≡◌ {A = ℕ} 0 1 = cc in absurd (omega arith), λ h. let k = leb-true (length s.records) room l in let m = h.1 in absurd (omega arith))
      go true l false =
          (λ e. let w = other_number e in absurd (omega arith), λ h. let k = leb-true (length s.records) room l in let m = h.1 in absurd (omega arith))
      go false l c = (λ e. (went s.state c, (let k = leb-false (length s.records) room l in omega arith)), λ h. refl)

  -- a refusal before 18
  before : (ids : List ℕ) (r : Refusal) → (number_of r.reason ≡ number_of Number.few_records → ⊥)
      → (number_of r.reason ≡ number_of Number.output_short → ⊥) → Iff18 ids (untraced (turned_down z r)) (turned_down z r)
  before ids r a b = (λ e. absurd (a (other_number e)), λ h. absurd (b (short h.0 refl)))
    where
      short : {x : Step} {q : Refusal} → WentThrough z x → x.outcome ≡ Outcome.refused q
          → number_of q.reason ≡ number_of Number.output_short
      short WentThrough.accepted e = let w : ◌≡◌ {A = ℕ} 0 1 = cc in absurd (omega arith)
      short WentThrough.short e = other_number (sym e)

  -- the walk's end
  walked : {ids : List ℕ} {x : Res Logged (Unit {0})} {y : Res State (Unit {0})} → Tracked false (Erased ids) x y
      → Ends (λ (_ : Unit {0}). ValidState) y
      → Iff18 (reverse ids) (finish_records room output z x) (finish output z y)
  walked {ids} (Tracked.on a (Erased.erased {s} e)) w =
      ended s (reverse ids) (length-reverse ids ∙ ap length (sym e) ∙ length-map s.records (λ (r : Record). r.offset))
  walked {ids} (Tracked.stop r) (Ends.stop _ _ w) =
      before (reverse ids) r (λ e. subst (λ n. T (walk_number n)) e w) (λ e. subst (λ n. T (walk_number n)) e w)
  walked (Tracked.first h) w = absurd h

  -- a tree
  read : ValidSession z → (tree : Bytes)
      → Iff18 (identifiers tree) (translate_records room output z (read_tree tree)) (translate output z (read_tree tree))
  read v tree =
      by_reading (λ p (_ : Unit {0}). Iff18 (identifiers_in p) (translate_records room output z p) (translate output z p)) (λ _. tt)
      (λ b n w. walked (walk_erased b (start z)) (walk_limits b w (start-valid z v)))
      (λ r t. before [] r (λ e. subst (λ n. T (is_one_of tree_numbers n)) e t) (λ e. subst (λ n. T (is_one_of tree_numbers n)) e t)) tree

-- a call in a session, lent enough
in-session : (room : ℕ) (z : Session) → ValidSession z → (c : Request) → enough c ≡ true
    → Is18 (compile_records room z c).step.outcome ↔ (WentThrough z (compile z c) × (room < length (identifiers c.tree)))
unfolding compile_records compile
in-session room z v c big =
    let r = read room c.output z v c.tree in
    let f : compile_records room z c ≡ translate_records room c.output z (read_tree c.tree) = pick_true _ _ big in
    let g : compile z c ≡ translate c.output z (read_tree c.tree) = pick_true _ _ big in (
      λ e. let k = r.0 (sym (ap (λ (t : Traced). t.step.outcome) f) ∙ e) in (subst (WentThrough z) (sym g) k.0, k.1),
      λ h. ap (λ (t : Traced). t.step.outcome) f ∙ r.1 (subst (WentThrough z) g h.0, h.1),
    )

-- The call

module _ (tree : Bytes) (l : Lent) (rs : List Record) (a : AreBytes (take session_size l.session)) where
  -- an answer of 18 is the outcome's
  answer_18 : (z : Session) (o : Outcome) → (answered l z o).answer ≡ Err (refusal Number.few_records 0) → Is18 o
  answer_18 z (Outcome.accepted m) e = let w : ◌≡◌ {A = ℕ} 0 1 = cc in absurd (omega arith)
  answer_18 z (Outcome.refused r) e = let q : r ≡ refusal Number.few_records 0 = cc in ap Outcome.refused q

  -- a refusal with another number
  not_18 : {n : Reason} → (number_of n ≡ number_of Number.few_records → ⊥) → ◌≡◌ {A = Answer} (Err (refusal n 0)) (Err (refusal Number.few_records 0)) → ⊥
  not_18 {n} h e = let q : refusal n 0 ≡ refusal Number.few_records 0 = cc in h (ap (λ (r : Refusal). number_of r.reason) q)

  -- refused with 18
  found : (b : Bool) → enough (request l tree) ≡ b → (d : Decoded Session) → read_session (take session_size l.session) ≡ d
      → (call_records tree l rs).called.answer ≡ Err (refusal Number.few_records 0) → TooFew tree (length rs) l
  found false big d e i = absurd (not_18 (λ h. omega arith) (sym (ap (λ (x : Recorded). x.called.answer) (when_short tree l rs big)) ∙ i))
  found true big (malformed p) e i =
      absurd (not_18 (λ h. omega arith) (sym (ap (λ (x : Recorded). x.called.answer) (when_enough tree l rs big ∙ ap (in_session_records l rs tree) e)) ∙ i))
  found true big (decoded z n) e i =
      let v = (write_session (take session_size l.session) a (long_front tree l big) e).sound in
      let t = compile_records (length rs) z (request l tree) in
      let o = answer_18 t.step.session t.step.outcome (sym (ap (λ (x : Recorded). x.called.answer) (when_enough tree l rs big ∙ ap (in_session_records l rs tree) e)) ∙ i) in
      let k = (in-session (length rs) z v (request l tree) big).0 o in
      record { long = big; session = z; end = n; reads = e; through = k.0; more = k.1 }

  -- and so it is
  refused : TooFew tree (length rs) l → (call_records tree l rs).called.answer ≡ Err (refusal Number.few_records 0)
  refused f =
      let z = f.session in
      let v = (write_session (take session_size l.session) a (long_front tree l f.long) f.reads).sound in
      let t = compile_records (length rs) z (request l tree) in
      let o = (in-session (length rs) z v (request l tree) f.long).1 (f.through, f.more) in
      ap (λ (x : Recorded). x.called.answer) (when_enough tree l rs f.long ∙ ap (in_session_records l rs tree) f.reads) ∙ ap (λ o. (answered l t.step.session o).answer) o

  -- of the definition's call
  pub call_18 : ((call_records tree l rs).called.answer ≡ Err (refusal Number.few_records 0)) ↔ TooFew tree (length rs) l
  call_18 = (λ i. found (enough (request l tree)) refl (read_session (take session_size l.session)) refl i, λ f. refused f)

-- what is answered as a refusal is one
as_answered : (r : Result CallTrace Refusal) {q : Refusal} → answer_of r ≡ Err q → r ≡ Err q
as_answered (Ok t) e = let z : ◌≡◌ {A = ℕ} 0 1 = cc in absurd (omega arith)
as_answered (Err z) e = let same : z ≡ _ = cc in ap Err same

-- Number 18, of any call that keeps the promise of `compile_with_records`
pub number_18 : {tree : Bytes} {l l' : Lent} {rs rs' : List Record} {r : Result CallTrace Refusal} → AreBytes (take session_size l.session)
    → Records tree l rs r l' rs'
    → (r ≡ Err (refusal Number.few_records 0)) ↔ TooFew tree (length rs) l
number_18 {tree} {l} {rs =
    rs} {r = r} a p = let k = call_18 tree l rs a in (λ e. k.0 (sym p.answer ∙ ap answer_of e), λ f. as_answered r (p.answer ∙ k.1 f))

-- the numbers lent are a fourth as many records
pub names_18 : (tree : Bytes) (l : Lent) (xs : List ℕ) → AreBytes (take session_size l.session)
    → ((call_names tree l xs).called.answer ≡ Err (refusal Number.few_records 0)) ↔ TooFew tree (length xs / 4) l
unfolding call_names
names_18 tree l xs a =
    subst (λ room. ((call_records tree l (blanks (length xs / 4))).called.answer ≡ Err (refusal Number.few_records 0)) ↔ TooFew tree room l) (length-replicate (length xs / 4) _)
    (call_18 tree l (blanks (length xs / 4)) a)

-- and of `compile_names`
pub number_18_names : {tree : Bytes} {l l' : Lent} {xs xs' : List ℕ} {r : Result CallTrace Refusal} → AreBytes (take session_size l.session)
    → Names tree l xs r l' xs'
    → (r ≡ Err (refusal Number.few_records 0)) ↔ TooFew tree (length xs / 4) l
number_18_names {tree} {l} {xs =
    xs} {r = r} a p = let k = names_18 tree l xs a in (λ e. k.0 (sym p.answer ∙ ap answer_of e), λ f. as_answered r (p.answer ∙ k.1 f))
