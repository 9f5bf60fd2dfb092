-- The answer of a compile call with records fits an answer's halves, and the low half is count and length.
use Prim.Native.Nat.{ℕ, ◌*◌, ◌/◌, ◌%◌, ◌≤◌, ◌<◌}
use native.Mathlib.Omega.{arith}
use mathlib.Core.Path.{◌≡◌, refl, sym, subst, ap, ◌∙◌}
use mathlib.Core.List.{List}
use lib.Dec.{eqb}
use lib.ListN.{length, take}
use Rattle.definition.specs.Basic.{Bytes, pick}
use Rattle.definition.specs.Limit.{session_size, code_size, tree_limit, image_limit}
use Rattle.definition.specs.Valid.{AreBytes}
use Rattle.definition.specs.Call.{Lent, Called}
use Rattle.definition.specs.Answer.{Answer}
use Rattle.std.specs.Prelude.{Result, Ok, Err}
use Rattle.definition.proofs.Places.{Within}
use Rattle.definition.proofs.Basic.{pick_false}
use Rattle.definition.proofs.Numbers.{below}
use Rattle.records.specs.Call.{Recorded, records_numbers}
use Rattle.records.proofs.Logged.{CallAgrees, call_agrees, records_within_limit}
use Rattle.definition.specs.declared.reason.Refusal.{Refusal}
use Rattle.trace.specs.declared.CallTrace.{CallTrace}
use Rattle.trace.specs.Promise.{answer_of, count_of}
use Rattle.names.specs.Promise.{call_names, blanks, Names}
use Rattle.exported.specs.Packed.{half_bound, of_halves, Fits, Packs}
use Rattle.exported.specs.Framed.{quarter_bound, Pairs}
use Rattle.exported.specs.Named.{names_answer, names_unpacked, count_unpacked, NamesPacked}
use Rattle.exported.proofs.Fits.{numbered, refusal-told}
use Rattle.exported.proofs.Framed.{pairs}
use Rattle.exported.proofs.Mapped.{IsMapped, Says, says}
use Rattle.definition.specs.Number.{number_of}

-- the call's answer is within the plain call's bounds
within : (tree : Bytes) (l : Lent) (xs : List ℕ) → AreBytes (take session_size l.session) → Within image_limit records_numbers tree_limit (call_names tree l xs).called.answer
unfolding call_names
within tree l xs a = records_within_limit tree l (blanks (length xs / 4)) a

-- so it fits, with a small count
answer_fits : {a : Answer} (n : ℕ) → Within image_limit records_numbers tree_limit a → 4 * n ≤ code_size → Fits (names_answer a n)
answer_fits n (Within.wrote h) f = record { number = omega arith; value = omega arith }
answer_fits n (Within.refused {r = r} b) f = record { number = below records_numbers half_bound tt (number_of r.reason) b.number; value = omega (arith, b.place) }

names-fits : (tree : Bytes) (l : Lent) (xs : List ℕ) → AreBytes (take session_size l.session) → 4 * (call_names tree l xs).count ≤ code_size → Fits (names_answer (call_names tree l xs).called.answer (call_names tree l xs).count)
names-fits tree l xs a f = answer_fits (call_names tree l xs).count (within tree l xs a) f

-- the two numbers of an accepted call
names-pairs : (tree : Bytes) (l : Lent) (xs : List ℕ) → AreBytes (take session_size l.session) → {v : ℕ} → Packs (names_answer (call_names tree l xs).called.answer (call_names tree l xs).count) v → (n : ℕ) → (call_names tree l xs).called.answer ≡ Ok n
    → Pairs (call_names tree l xs).count n (v % half_bound)
names-pairs tree l xs a {v} p n e =
    let packed = subst (λ x. Packs (names_answer x (call_names tree l xs).count) v) e p in
    pairs (short (subst (Within image_limit records_numbers tree_limit) e (within tree l xs a))) packed.value
  where
    short : Within image_limit records_numbers tree_limit (Ok n) → n < 65536
    short (Within.wrote h) = omega arith

-- a refused call has counted no record
none_counted : (tree : Bytes) (l : Lent) (xs : List ℕ) (q : Refusal) → (call_names tree l xs).called.answer ≡ Err q → (call_names tree l xs).count ≡ 0
unfolding call_names
none_counted tree l xs q e = go (call_agrees tree l (blanks (length xs / 4))) e
  where
    go : {x : Recorded} {y : Called} → CallAgrees tree l (blanks (length xs / 4)) x y → x.called.answer ≡ Err q → x.count ≡ 0
    go (CallAgrees.refused r _) e = refl
    go (CallAgrees.accepted {c} {n} new a _ _) e = let z : ◌≡◌ {A = ℕ} 0 1 = cc in absurd (omega arith)
    go (CallAgrees.few _) e = refl

-- answer and count are had from their number
record Back (a : Answer) (n v : ℕ) : Type 0 where
  answer : names_unpacked v ≡ a
  count : count_unpacked v ≡ n

-- they are, where a refusal has counted none
back : (a : Answer) (n : ℕ) {v : ℕ} → ((k : ℕ) → a ≡ Ok k → Pairs n k (v % half_bound)) → ((q : Refusal) → a ≡ Err q → n ≡ 0) → Packs (names_answer a n) v → Back a n v
back (Ok k) n {v} pairs none p =
    let d = pairs k refl in
    record {
      answer = (λ i. of_halves (p.number i) (pick (eqb (p.number i) 0) (v % half_bound % quarter_bound) (v % half_bound))) ∙ ap Ok d.second;
      count = (λ i. pick (eqb (p.number i) 0) (v % half_bound / quarter_bound) 0) ∙ d.first;
    }
back (Err q) n {v} pairs none p =
    let z = numbered q.reason in
    record {
      answer = (λ i. of_halves (p.number i) (pick (eqb (p.number i) 0) (v % half_bound % quarter_bound) (v % half_bound)))
          ∙ ap (of_halves (number_of q.reason)) (pick_false (v % half_bound % quarter_bound) (v % half_bound) z ∙ p.value)
          ∙ refusal-told q.reason q.place;
      count = (λ i. pick (eqb (p.number i) 0) (v % half_bound / quarter_bound) 0) ∙ pick_false (v % half_bound / quarter_bound) 0 z ∙ sym (none q refl);
    }

-- records and length, and what is said of their number
abbrev named : CallTrace → ℕ × ℕ
named t = (t.count, t.length)

module _ {tree : Bytes} {l l' : Lent} {xs xs' : List ℕ} {r : Result CallTrace Refusal} (a : AreBytes (take session_size l.session)) (h : Names tree l xs r l' xs') where
  pub names_said : {P : CallTrace → ℕ × ℕ → Type 0} {m : Result (ℕ × ℕ) Refusal} → ((x : CallTrace) (y : ℕ × ℕ) → P x y → y ≡ named x) → IsMapped P r m → Says (names_answer (call_names tree l xs).called.answer (call_names tree l xs).count) m
  names_said g c = says named (λ r. names_answer (answer_of r) (count_of r)) (λ _. refl) (λ _. refl) g c (λ i. names_answer (h.answer i) (h.count i)) (names-fits tree l xs a (subst (λ n. 4 * n ≤ code_size) h.count h.few))

  pub packs_names : {v : ℕ} → Packs (names_answer (call_names tree l xs).called.answer (call_names tree l xs).count) v → NamesPacked tree l xs v l' xs'
  packs_names p =
      let b = back (call_names tree l xs).called.answer (call_names tree l xs).count (names-pairs tree l xs a p) (none_counted tree l xs) p in
      record { answer = p; parts = names-pairs tree l xs a p; back = b.answer; counted = b.count; lent = h.lent; rows = h.rows }
