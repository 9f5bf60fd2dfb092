-- From the functions that a call with records is made of to its promise.
use Prim.Native.Nat.{ℕ, ◌+◌, ◌≤◌, ◌<◌}
use native.Mathlib.Omega.{arith}
use mathlib.Core.Bool.{true, false}
use mathlib.Core.List.{List, [], ◌∷◌, ◌++◌, reverse}
use mathlib.Core.Path.{◌≡◌, refl, sym, ap, subst, ◌∙◌}
use lib.ListN.{length, take, drop, replicate, length-append, length-replicate, length-reverse}
use lib.Dec.{leb}
use Rattle.std.proofs.Common.{append-nil}
use Rattle.std.proofs.Math.Seq.{take-length}
use Rattle.std.proofs.Math.ListN.{drop_of_length-le}
use borrow.Author.Tests.{le-leb}
use Rattle.definition.specs.Basic.{Bytes, both}
use Rattle.definition.specs.Limit.{session_size, code_size, table_size}
use Rattle.definition.specs.Number
use Rattle.definition.specs.Number.{refusal, number_of}
use Rattle.definition.specs.Tree.{read_tree}
use Rattle.definition.specs.Compile.{enough}
use Rattle.definition.specs.Call.{Lent, Called, cleared, request, call}
use Rattle.definition.specs.Valid.{AreBytes}
use Rattle.definition.specs.declared.reason.Refusal.{Refusal}
use Rattle.definition.specs.Answer.{Answer}
use Rattle.std.specs.Prelude.{Result, Ok, Err}
use Rattle.std.specs.Result.{IsErrAnd}
use Rattle.definition.proofs.Basic.{both_intro, pick_false, passed_on}
use Rattle.field.specs.Layout.{after}
use Rattle.tree.specs.Check.{Good, verdict}
use Rattle.walk.proofs.Tree.{tree_short}
use Rattle.compiler.specs.Promise.{Compiles}
use Rattle.compiler.specs.Stage.{lent_of, Long}
use Rattle.compiler.proofs.Lent.{front_length}
use Rattle.records.specs.Call.{Recorded, unrecorded, over_records, call_records}
use Rattle.records.specs.declared.Record.{Record}
use Rattle.trace.specs.Log.{log_of}
use Rattle.trace.specs.Pass.{PassesTree}
use Rattle.trace.specs.Promise.{few_of, LooksAhead, HasOlder, Used, Traces}
use Rattle.trace.specs.declared.CallTrace.{CallTrace}
use Rattle.trace.specs.declared.Outlook.{Outlook}
use Rattle.trace.proofs.Ahead.{log_length}
use Rattle.trace.proofs.Calls.{with_output, seen, used_records}
use Rattle.trace.proofs.Accepts.{untraced-call, few_call, enough-refused, counted, AcceptedBy, accepted_by, cleared_twice, has-older, second_logs}

-- Lent memory of just these sizes

-- all of a list that is so long
pub take_all : {n : ℕ} (l : List ℕ) → length l ≡ n → take n l ≡ l
take_all l h = rw (sym h) (take-length l)

pub drop_all : {n : ℕ} (l : List ℕ) → length l ≡ n → drop n l ≡ []
drop_all l h = drop_of_length-le l (omega arith)

-- zeros over all of it
pub cleared_all : {n : ℕ} (l : List ℕ) {x : List ℕ} → length l ≡ n → x ≡ replicate (length l) 0 → x ≡ cleared n l
cleared_all {n} l h e = e ∙ ap (λ k. replicate k 0) h ∙ sym (append-nil (replicate n 0)) ∙ ap (λ z. replicate n 0 ++ z) (sym (drop_all l h))

pub all_long : {e c : Bytes} {t : List ℕ} → length e ≡ session_size → length c ≡ code_size → length t ≡ table_size → Long e c t
all_long h k l = record { session = omega arith; code = omega arith; table = omega arith }

pub all_used : {n : ℕ} {a a' : List ℕ} → length a ≡ n → length a' ≡ n → Used n a a'
all_used {n} {a} {a'} h k = record { size = k ∙ sym h; clears = ap (λ r. replicate n 0 ++ r) (drop_all a' k ∙ sym (drop_all a h)) }

pub long_big : (tree o : Bytes) {e c : Bytes} {t : List ℕ} → Long e c t → enough (request (lent_of e o c t) tree) ≡ true
long_big tree o {e} {c} {t} h = both_intro (le-leb code_size (length c) h.code) (both_intro (le-leb table_size (length t) h.table) (le-leb session_size (length e) h.session))

cleared-length : (n : ℕ) (a : List ℕ) → n ≤ length (cleared n a)
cleared-length n a = omega (arith, length-append (replicate n 0) (drop n a), length-replicate {A = ℕ} n 0)

-- Few records

no_bytes : (xs ys : Bytes) → length xs ≡ 0 → xs ++ ys ≡ ys
no_bytes [] ys h = refl
no_bytes (x ∷ xs) ys h = absurd (omega arith)

pub few_traces : {tree e o c : Bytes} {t : List ℕ} {e' o₀ c' : Bytes} {t' : List ℕ} {a : Answer} {r : Refusal} → Long e c t → Compiles tree (lent_of e [] c t) a (lent_of e' o₀ c' t') → length o₀ ≡ 0 → Err r ≡ few_of a
    → (k : Outlook) → LooksAhead tree (take session_size e) k → (room : ℕ) → room < k.count → Traces tree (lent_of e o c t) room (Err r) (lent_of e' (o₀ ++ o) c' t')
few_traces {tree} {e} {o} {c} {t} {e'} {o₀} {c'} {t'} {a} {r} long x z d k look room h =
    let l = lent_of e o c t in
    rw (no_bytes o₀ o z)
    (untraced-call (λ rs j. few_call tree l look (seen tree l (long_big tree o long)) room h rs j ∙ (λ i. unrecorded rs (record { answer = (ap few_of (sym x.answer) ∙ sym d) i; lent = with_output o (sym x.lent i) }))))

-- Enough records

module _ {tree e o c : Bytes} {t : List ℕ} {e₁ o₁ c₁ : Bytes} {t₁ : List ℕ} {a : Answer} (long : Long e c t) (x : Compiles tree (lent_of e o c t) a (lent_of e₁ o₁ c₁ t₁)) where
  abbrev l : Lent
  l = lent_of e o c t

  pub refused_traces : {r : Result CallTrace Refusal} {q : Refusal} → a ≡ Err q → IsErrAnd r (λ y. y ≡ q) → (k : Outlook) → LooksAhead tree (take session_size e) k → (room : ℕ) → k.count ≤ room → Traces tree l room r (lent_of e₁ o₁ c₁ t₁)
  refused_traces {q = q} f u k look room h =
      rw (passed_on u)
      (untraced-call (λ rs j. enough-refused tree l look room h (seen tree l (long_big tree o long)) q (sym x.answer ∙ f) rs j ∙ (λ i. unrecorded rs (record { answer = (sym x.answer ∙ f) i; lent = sym x.lent i }))))

  module _ {n : ℕ} (f : a ≡ Ok n) (bytes : AreBytes (take session_size e)) where
    accepted : AcceptedBy tree l
    accepted = accepted_by tree l (long_big tree o long) (seen tree l (long_big tree o long)) n (sym x.answer ∙ f)

    front : length (take session_size e) ≡ session_size
    front = sym (front_length session_size e long.session)

    session_is : e₁ ≡ (call tree l).lent.session
    session_is = ap (λ (y : Lent). y.session) x.lent

    pub accepted_good : verdict (read_tree tree) ≡ Good
    accepted_good = ap verdict accepted.tree_reads

    pub accepted_has : {names : ℕ} (k : Outlook) → LooksAhead tree (take session_size e) k → k.names ≡ names → HasOlder (take session_size e₁) names
    accepted_has k look q = subst (HasOlder (take session_size e₁)) q (has-older accepted bytes front session_is look)

    pub accepted_traces : {names m : ℕ} {c₂ : Bytes} {t₂ t₃ : List ℕ} (k : Outlook) → LooksAhead tree (take session_size e) k → k.names ≡ names
        → PassesTree tree (take session_size e₁) (after (take session_size e₁) 0 + 3) (after (take session_size e₁) 0 + 3 + names) c₂ m → Used code_size c₁ c₂ → Used table_size t₁ t₂ → t₃ ≡ cleared table_size t₂
        → (k' : Outlook) → LooksAhead tree (take session_size e) k' → (room : ℕ) → k'.count ≤ room → Traces tree l room (Ok (record { length = n; count = m })) (lent_of e₁ o₁ c₂ t₃)
    accepted_traces {names} {m} {c₂} {t₂} {t₃} k look q p uc ut et k' look' room h =
        let y = accepted in
        let logs : log_of c₂ m ≡ y.state.records = second_logs y bytes front session_is look (subst (λ i. PassesTree tree (take session_size e₁) (after (take session_size e₁) 0 + 3) (after (take session_size e₁) 0 + 3 + i) c₂ m) (sym q) p) in
        let many : m ≡ length y.state.records = sym (log_length c₂ m) ∙ ap length logs in
        let few : length y.state.records ≤ room = omega (arith, accepted_few k' look') in
        let is : (rs : List Record) → length rs ≡ room → call_records tree l rs ≡ record { called = call tree l; count = length (reverse y.state.records); records = over_records (reverse y.state.records) rs } = λ rs j. y.recorded rs (omega arith) in
        let cleared-code : cleared code_size c₂ ≡ (call tree l).lent.code = uc.clears ∙ ap (λ (z : Lent). cleared code_size z.code) x.lent ∙ ap (λ (z : Called). cleared code_size z.lent.code) y.called ∙ cleared_twice code_size c ∙ sym (ap (λ (z : Called). z.lent.code) y.called) in
        let cleared-table : t₃ ≡ (call tree l).lent.table = et ∙ ut.clears ∙ ap (λ (z : Lent). cleared table_size z.table) x.lent ∙ ap (λ (z : Called). cleared table_size z.lent.table) y.called ∙ cleared_twice table_size t ∙ sym (ap (λ (z : Called). z.lent.table) y.called) in
        record {
          answer = λ rs j. sym f ∙ x.answer ∙ sym (ap (λ (z : Recorded). z.called.answer) (is rs j));
          count = λ rs j. many ∙ sym (length-reverse y.state.records) ∙ sym (ap (λ (z : Recorded). z.count) (is rs j));
          session = λ rs j. session_is ∙ sym (ap (λ (z : Recorded). z.called.lent.session) (is rs j));
          output = λ rs j. ap (λ (z : Lent). z.output) x.lent ∙ sym (ap (λ (z : Recorded). z.called.lent.output) (is rs j));
          code = λ rs j. cleared-code ∙ sym (ap (λ (z : Recorded). z.called.lent.code) (is rs j));
          table = λ rs j. cleared-table ∙ sym (ap (λ (z : Recorded). z.called.lent.table) (is rs j));
          records = λ rs j. ap (λ z. over_records (reverse z) rs) logs ∙ sym (ap (λ (z : Recorded). z.records) (is rs j));
          within = omega arith;
          long = omega (arith, size);
          fits = omega (arith, size, p.fits, tree_short (y.body, record { end = y.last; reads = y.tree_reads }));
          few = omega (arith, p.fits, tree_short (y.body, record { end = y.last; reads = y.tree_reads }));
        }
      where
        size : code_size ≤ length c₂
        size = omega (arith, uc.size, ap (λ (z : Lent). length z.code) x.lent, ap (λ (z : Called). length z.lent.code) accepted.called, cleared-length code_size c)

        accepted_few : (k : Outlook) → LooksAhead tree (take session_size e) k → length accepted.state.records ≡ k.count
        accepted_few k look = sym (counted accepted.state accepted.session accepted.body accepted.walks (look.count accepted.session accepted.end accepted.body accepted.last accepted.session_reads accepted.tree_reads))

-- The whole

pub used_traces : {tree e o c c₁ : Bytes} {t t₁ : List ℕ} {room : ℕ} {r : Result CallTrace Refusal} {l' : Lent} → Long e c t → Used code_size c c₁ → Used table_size t t₁ → Traces tree (lent_of e o c₁ t₁) room r l' → Traces tree (lent_of e o c t) room r l'
used_traces {tree} {e} {o} {c} {c₁} {t} {t₁} long uc ut x =
    let s : (rs : List Record) → call_records tree (lent_of e o c₁ t₁) rs ≡ call_records tree (lent_of e o c t) rs = used_records tree (lent_of e o c t) c₁ t₁ uc.size ut.size uc.clears ut.clears (long_big tree o long) in
    record {
      answer = λ rs j. x.answer rs j ∙ ap (λ (z : Recorded). z.called.answer) (s rs);
      count = λ rs j. x.count rs j ∙ ap (λ (z : Recorded). z.count) (s rs);
      session = λ rs j. x.session rs j ∙ ap (λ (z : Recorded). z.called.lent.session) (s rs);
      output = λ rs j. x.output rs j ∙ ap (λ (z : Recorded). z.called.lent.output) (s rs);
      code = λ rs j. x.code rs j ∙ ap (λ (z : Recorded). z.called.lent.code) (s rs);
      table = λ rs j. x.table rs j ∙ ap (λ (z : Recorded). z.called.lent.table) (s rs);
      records = λ rs j. x.records rs j ∙ ap (λ (z : Recorded). z.records) (s rs);
      within = x.within;
      long = x.long;
      fits = x.fits;
      few = x.few;
    }

pub used_long : {e c c₁ : Bytes} {t t₁ : List ℕ} → Long e c t → Used code_size c c₁ → Used table_size t t₁ → Long e c₁ t₁
used_long h uc ut = record { session = h.session; code = omega (arith, h.code, uc.size); table = omega (arith, h.table, ut.size) }

-- buffers that are too short
pub short_traces : {tree e o c : Bytes} {t : List ℕ} {room : ℕ} → both (leb code_size (length c)) (both (leb table_size (length t)) (leb session_size (length e))) ≡ false
    → Traces tree (lent_of e o c t) room (Err (refusal Number.short_buffer 0)) (lent_of e o c t)
unfolding call_records
short_traces {tree} {e} {o} {c} {t} h =
    let l = lent_of e o c t in
    untraced-call (λ rs j. pick_false _ (unrecorded rs (record { answer = Err (refusal Number.short_buffer 0); lent = l })) h)

-- and what is lent has come back
pub short_back : {tree e o c : Bytes} {t : List ℕ} {room : ℕ} {l : Lent} → both (leb code_size (length c)) (both (leb table_size (length t)) (leb session_size (length e))) ≡ false
    → lent_of e o c t ≡ l → Traces tree (lent_of e o c t) room (Err (refusal Number.short_buffer 0)) l
short_back {tree} {e} {o} {c} {t} {room} h q = subst (λ l. Traces tree (lent_of e o c t) room (Err (refusal Number.short_buffer 0)) l) q (short_traces h)
