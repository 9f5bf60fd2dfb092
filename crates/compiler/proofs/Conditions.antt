-- The three conditions, about any calls that keep the promise of `compile`.
use Prim.Native.Nat.{ℕ, ◌≤◌}
use native.Mathlib.Omega.{arith}
use mathlib.Core.Bool.{Bool, true, false}
use mathlib.Core.List.{List, ◌∷◌}
use mathlib.Core.Path.{◌≡◌, refl, sym, ap, subst, subst₂, ◌∙◌}
use lib.ListN.{length, take, drop}
use lib.Seq.{drop-append_seam, drop_at}
use Rattle.definition.specs.Basic.{Bytes}
use Rattle.definition.specs.Limit.{session_size}
use Rattle.definition.specs.Number
use Rattle.definition.specs.Number.{refusal, translate_numbers, lent_numbers, number_of}
use Rattle.definition.specs.Bytecode.{Image, image_bytes}
use Rattle.definition.specs.Session.{Words, word_list, field_count, Session, session_bytes}
use Rattle.definition.specs.Decode.{Decoded, decoded, malformed, read_session}
use Rattle.definition.specs.Compile.{Outcome, Step, enough, compile}
use Rattle.definition.specs.Call.{Lent, Called, answered, in_session, request, call}
use Rattle.definition.specs.Series.{Call, session_after, Start, calls, AllAlike, shapes, Indistinguishable}
use Rattle.definition.specs.declared.reason.Refusal.{Refusal}
use Rattle.definition.specs.Answer.{Answer}
use Rattle.std.specs.Prelude.{Err}
use Rattle.definition.specs.Valid.{AreBytes}
use Rattle.definition.proofs.Numbers.{among}
use Rattle.definition.proofs.Sessions.{write_session, session_length}
use Rattle.definition.proofs.Steps.{CallNumber, translate-valid, compile-valid, compile-fits}
use Rattle.definition.proofs.Series.{condition_3}
use Rattle.compiler.proofs.Whole.{compile_is, call-enough, call_short, long_front}
use Rattle.compiler.specs.Promise.{Compiles, MadeBy, Ended, Ran, Wrote, ExactIn, Exact}
use Rattle.definition.specs.declared.reason.Reason.{Reason}

-- Condition 3

-- a series that ran is the definition's
pub ran-calls : {s : Bytes} {cs : List Call} {xs : List Called} → Ran s cs xs → xs ≡ calls s cs
ran-calls Ran.none = refl
ran-calls (Ran.more {s} {c} {r} {l'} {cs} p q) = λ i. record { answer = p.answer i; lent = p.lent i } ∷ (ran-calls q ∙ ap (λ (l : Lent). calls (session_after s l.session) cs) p.lent) i

-- a buffer in which a session was made has the session that a series starts from
pub made-start : {s : Bytes} {w : Words} → MadeBy s w → Start (take session_size s) w
made-start (MadeBy.fresh a m e) = Start.fresh a (sym m.answer ∙ e) (ap (take session_size) m.session)
made-start (MadeBy.worded a names b m e h) = Start.worded a names b (sym m.answer ∙ e) h (ap (take session_size) m.session)

-- Two series of compile calls, each from a session made in a buffer of its own by either call, the lists of words equal, whose lent lengths are equal and
-- whose trees have equal shapes, call by call, can't be told apart but by the literals' bytes; sessions are compared where both start with equally many fields
pub compile_condition_3 : {a b : Bytes} {u v : Words} → MadeBy a u → MadeBy b v → word_list u ≡ word_list v → (cs ds : List Call) → AllAlike cs ds → (xs ys : List Called)
    → Ran (take session_size a) cs xs → Ran (take session_size b) ds ys → Indistinguishable (field_count u ≡ field_count v) (shapes u cs) xs ys
compile_condition_3 {u = u} {v} m n e cs ds alike xs ys x y =
    subst₂ (Indistinguishable (field_count u ≡ field_count v) (shapes u cs)) (sym (ran-calls x)) (sym (ran-calls y)) (condition_3 (made-start m) (made-start n) e cs ds alike)

-- Condition 2

module _ (tree : Bytes) (l : Lent) (z : Session) (n : ℕ) (big : enough (request l tree) ≡ true) (reads : read_session (take session_size l.session) ≡ decoded z n) where
  abbrev next : Step
  next = compile z (request l tree)

  call_in : call tree l ≡ answered l next.session next.outcome
  call_in = call-enough tree l big ∙ ap (in_session l tree) reads

  exact : (o : Outcome) → next.outcome ≡ o → (r : Answer) (l' : Lent) → r ≡ (answered l next.session o).answer → l' ≡ (answered l next.session o).lent → ExactIn tree z l r l'
  exact (Outcome.accepted m) e r l' a b =
      record {
        accepted = λ k h. let same : m ≡ k = cc in
            subst (λ k. Wrote k next.session l r l') same (record { length = a; output = ap (λ (x : Lent). x.output) b; session = ap (λ (x : Lent). x.session) b });
        refused = λ q. (λ h. let w : ◌≡◌ {A = ℕ} 0 1 = cc in absurd (omega arith), λ h. let w : ◌≡◌ {A = ℕ} 0 1 = cc in absurd (omega arith));
      }
  exact (Outcome.refused q) e r l' a b =
      record { accepted = λ k h. let w : ◌≡◌ {A = ℕ} 0 1 = cc in absurd (omega arith); refused = λ p. (λ h. let same : q ≡ p = cc in a ∙ ap Err same, λ h. let same : q ≡ p = cc in e ∙ ap Outcome.refused same) }

  -- in a session: image and session are the definition's, and a tree is refused exactly when the definition refuses it
  exact_in : (r : Answer) (l' : Lent) → Compiles tree l r l' → ExactIn tree z l r l'
  exact_in r l' p = exact next.outcome refl r l' (p.answer ∙ ap (λ (x : Called). x.answer) call_in) (p.lent ∙ ap (λ (x : Called). x.lent) call_in)

  -- and with none of the numbers 1 and 2
  in_number : AreBytes (take session_size l.session) → (r : Answer) → r ≡ (call tree l).answer → (q : Refusal) → r ≡ Err q → CallNumber (number_of q.reason)
  in_number bytes r a q h =
      let v = (write_session (take session_size l.session) bytes (long_front tree l big) reads).sound in
      go next.outcome (λ q e. (translate-valid (length l.output) z v tree).number q (sym (ap (λ (x : Step). x.outcome) (compile_is tree l big z)) ∙ e)) (sym h ∙ a ∙ ap (λ (x : Called). x.answer) call_in)
    where
      go : (o : Outcome) → ((r : Refusal) → o ≡ Outcome.refused r → CallNumber (number_of r.reason)) → Err q ≡ (answered l next.session o).answer → CallNumber (number_of q.reason)
      go (Outcome.accepted m) k e = let w : ◌≡◌ {A = ℕ} 0 1 = cc in absurd (omega arith)
      go (Outcome.refused p) k e = let same : p ≡ q = cc in k q (ap Outcome.refused same)

-- two refusals of different numbers
other_number : {r : Answer} (n m : Reason) → (number_of n ≡ number_of m → ⊥) → r ≡ Err (refusal n 0) → r ≡ Err (refusal m 0) → ⊥
other_number n m h p q = let same : refusal n 0 ≡ refusal m 0 = cc in h (ap (λ (x : Refusal). number_of x.reason) same)

-- Every call on bytes: 1 and 2 exactly where document 01 says so, and else what the definition gives
pub compile_condition_2 : (tree : Bytes) (l : Lent) (r : Answer) (l' : Lent) → AreBytes (take session_size l.session) → Compiles tree l r l' → Exact tree l r l'
compile_condition_2 tree l r l' bytes p = go (enough (request l tree)) refl (read_session (take session_size l.session)) refl
  where
    within : (z : Session) (n : ℕ) → enough (request l tree) ≡ true → read_session (take session_size l.session) ≡ decoded z n → ExactIn tree z l r l'
    within z n big reads = exact_in tree l z n big reads r l' p

    -- which is answered, by the two tests
    go : (b : Bool) → enough (request l tree) ≡ b → (d : Decoded Session) → read_session (take session_size l.session) ≡ d → Exact tree l r l'
    go false e d s =
        let is : r ≡ Err (refusal Number.short_buffer 0) = p.answer ∙ ap (λ (x : Called). x.answer) (call_short tree l e) in
        record { short = (λ _. is, λ _. e); broken = (λ n. let f = n.lent in let w : ◌≡◌ {A = ℕ} 0 1 = cc in absurd (omega arith), λ q. absurd (other_number Number.short_buffer Number.no_session (λ h. omega arith) is q)); within = within }
    go true e (malformed k) s =
        let is : r ≡ Err (refusal Number.no_session 0) = p.answer ∙ ap (λ (x : Called). x.answer) (call-enough tree l e ∙ ap (in_session l tree) s) in
        record { short = (λ f. let w : ◌≡◌ {A = ℕ} 0 1 = cc in absurd (omega arith), λ q. absurd (other_number Number.short_buffer Number.no_session (λ h. omega arith) q is)); broken = (λ _. is, λ _. record { lent = e; place = k; reads = s }); within = within }
    go true e (decoded z n) s =
        let known = in_number tree l z n e s bytes r p.answer in
        record {
          short = (λ f. let w : ◌≡◌ {A = ℕ} 0 1 = cc in absurd (omega arith), λ q. absurd (known (refusal Number.short_buffer 0) q));
          broken = (λ b. let f = b.reads in let w : ◌≡◌ {A = ℕ} 0 1 = cc in absurd (omega arith), λ q. absurd (known (refusal Number.no_session 0) q));
          within = within;
        }

-- Condition 1

-- how a call past numbers 1 and 2 ends, by its outcome
ends : (l : Lent) (o : Outcome) → ((m : Image) → o ≡ Outcome.accepted m → length (image_bytes m) ≤ length l.output) → ((r : Refusal) → o ≡ Outcome.refused r → CallNumber (number_of r.reason))
    → (z : Session) → length (session_bytes z) ≡ session_size → Ended l (answered l z o).answer (answered l z o).lent
ends l (Outcome.accepted m) f k z s =
    Ended.answered (f m refl) (drop-append_seam (image_bytes m) _) (drop_at (session_bytes z) _ session_size s ∙ ap (λ n. drop n l.session) s) (record { code = refl; table = refl })
ends l (Outcome.refused r) f k z s = Ended.refused {r = r} (among translate_numbers lent_numbers tt (number_of r.reason) (k r refl)) refl refl (record { code = refl; table = refl })

-- Every call on bytes: an answer, or a numbered refusal with its place that leaves session and output as they were
pub compile_condition_1 : (tree : Bytes) (l : Lent) (r : Answer) (l' : Lent) → AreBytes (take session_size l.session) → Compiles tree l r l' → Ended l r l'
compile_condition_1 tree l r l' a p = subst₂ (Ended l) (sym p.answer) (sym p.lent) (go (enough (request l tree)) refl)
  where
    within : (d : Decoded Session) → read_session (take session_size l.session) ≡ d → enough (request l tree) ≡ true → Ended l (in_session l tree d).answer (in_session l tree d).lent
    within (decoded z n) e big =
        let v = (write_session (take session_size l.session) a (long_front tree l big) e).sound in
        let t = translate-valid (length l.output) z v tree in
        let c = compile-valid z v (request l tree) in
        ends l (compile z (request l tree)).outcome (compile-fits z (request l tree)) (λ q h. t.number q (sym (ap (λ (x : Step). x.outcome) (compile_is tree l big z)) ∙ h)) (compile z (request l tree)).session (session_length _ c.session)
    within (malformed n) e big = Ended.refused {r = refusal Number.no_session 0} tt refl refl (record { code = refl; table = refl })

    go : (b : Bool) → enough (request l tree) ≡ b → Ended l (call tree l).answer (call tree l).lent
    go true e = subst (λ (x : Called). Ended l x.answer x.lent) (sym (call-enough tree l e)) (within (read_session (take session_size l.session)) refl e)
    go false e = subst (λ (x : Called). Ended l x.answer x.lent) (sym (call_short tree l e)) (Ended.short refl refl refl)
