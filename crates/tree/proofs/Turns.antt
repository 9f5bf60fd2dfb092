-- What is wanted of a tag's first four children comes again with each four.
use Prim.Native.Nat.{ℕ, zero, suc, ◌+◌, ◌%◌, ◌≤◌, ◌<◌}
use mathlib.Core.List.{List}
use lib.ListN.{get_or}
use native.Mathlib.Omega.{arith}
use mathlib.Core.Bool.{Bool, true, false, not}
use mathlib.Core.Path.{◌≡◌, refl, sym, ap, ◌∙◌}
use lib.Dec.{eqb, leb}
use borrow.Author.Tests.{eqb-true, ne_eqb, eq-eqb, le-leb, leb-true}
use Rattle.std.specs.Prelude.{Option}
use Rattle.definition.specs.Basic.{both}
use Rattle.definition.specs.Tag.{tag_call, tag_hash}
use Rattle.definition.proofs.Basic.{both_true}
use Rattle.tree.specs.Grammar.{Kind, Statement, Block, Expression, Name, Params, Operator, Nothing, either, child_kind, least_of, enough_of}
use Rattle.tree.specs.Kinds.{may_end, marked, wanted, kinds_of}
use Rattle.tree.specs.declared.grammar.Wanted.{Wanted}
use Rattle.tree.proofs.Table.{all_below, passes}

-- a kind as a number, and back
number : Kind → ℕ
number Statement = 0
number Block = 1
number Expression = 2
number Params = 3
number Operator = 4
number Nothing = 5
number (Name least) = suc (suc (suc (suc (suc (suc least)))))

kind_of : ℕ → Kind
kind_of zero = Statement
kind_of (suc zero) = Block
kind_of (suc (suc zero)) = Expression
kind_of (suc (suc (suc zero))) = Params
kind_of (suc (suc (suc (suc zero)))) = Operator
kind_of (suc (suc (suc (suc (suc zero))))) = Nothing
kind_of (suc (suc (suc (suc (suc (suc n)))))) = Name n

there_and_back : (k : Kind) → kind_of (number k) ≡ k
unfolding number kind_of
there_and_back Statement = refl
there_and_back Block = refl
there_and_back Expression = refl
there_and_back Params = refl
there_and_back Operator = refl
there_and_back Nothing = refl
there_and_back (Name least) = refl

alike : Kind → Kind → Bool
alike a b = eqb (number a) (number b)

alike_is : (a b : Kind) → alike a b ≡ true → a ≡ b
unfolding alike
alike_is a b e = sym (there_and_back a) ∙ ap kind_of (eqb-true (number a) (number b) e) ∙ there_and_back b

alike_not : (a b : Kind) → (a ≡ b → ⊥) → alike a b ≡ false
unfolding alike
alike_not a b n = ne_eqb (number a) (number b) (λ e. n (sym (there_and_back a) ∙ ap kind_of e ∙ there_and_back b))

-- where a fourth child may stand, all are of one kind, and none must be there but a call's first and a key's value
repeats_right : ℕ → Bool
repeats_right t = either (alike (child_kind t 3) Nothing) (both (all_below 3 (λ k. alike (child_kind t k) (child_kind t 3))) (either (eqb t tag_call) (eqb (least_of t) 0)))

-- where no child may stand, there are enough
enough_right : ℕ → Bool
enough_right t = both (all_below 3 (λ k. either (not (alike (child_kind t k) Nothing)) (enough_of t k))) (either (not (alike (child_kind t 3) Nothing)) (both (leb (least_of t) 3) (not (eqb t tag_hash))))

-- that holds of each tag, computed
repeats-right : all_below 256 repeats_right ≡ true
unfolding repeats_right alike number
repeats-right = refl

enough-right : all_below 256 enough_right ≡ true
unfolding enough_right alike number
enough-right = refl

-- what it says of a tag
record Repeats (t : ℕ) : Type 0 where
  same : (k : ℕ) → k < 3 → child_kind t k ≡ child_kind t 3
  none : either (eqb t tag_call) (eqb (least_of t) 0) ≡ true

repeats : (t : ℕ) → t < 256 → (child_kind t 3 ≡ Nothing → ⊥) → Repeats t
unfolding repeats_right
repeats t h some =
    let tests = both_true _ _ (rw (alike_not (child_kind t 3) Nothing some) at (passes 256 repeats_right t repeats-right h)) in
    record { same = λ k l. alike_is (child_kind t k) (child_kind t 3) (passes 3 (λ k. alike (child_kind t k) (child_kind t 3)) k tests.0 l); none = tests.1 }

-- all children are of one kind
kind_same : {t : ℕ} → Repeats t → (k : ℕ) → child_kind t k ≡ child_kind t 3
kind_same r zero = r.same 0 (omega arith)
kind_same r (suc zero) = r.same 1 (omega arith)
kind_same r (suc (suc zero)) = r.same 2 (omega arith)
kind_same r (suc (suc (suc k))) = refl

-- and the content may end before one as before the fourth after it
end_same : {t : ℕ} → Repeats t → (k : ℕ) → may_end t (suc (suc (suc (suc k)))) ≡ may_end t k
end_same {t} r k = by (eqb t tag_call) r.none
  where
    by : (b : Bool) → either b (eqb (least_of t) 0) ≡ true → either b (enough_of t (suc (suc (suc (suc k))))) ≡ either b (enough_of t k)
    by true e = refl
    by false e =
        let m : suc (suc (suc (suc k))) % 2 ≡ k % 2 = omega arith in
        rw (eqb-true (least_of t) 0 e, le-leb 0 (suc (suc (suc (suc k)))) (omega arith), le-leb 0 k (omega arith), m)

-- so what is wanted comes again
wanted_again : {t : ℕ} → Repeats t → (k : ℕ) → wanted t k ≡ wanted t (suc (suc (suc (suc k))))
unfolding wanted
wanted_again {t} r k = λ i. marked (sym (end_same r k) i) (kind_same r k i)

-- the first four, and what comes again, where a fourth child may stand if there are four already
first_wanted : (t k : ℕ) (d : Option Wanted) → t < 256 → (4 ≤ k → child_kind t 3 ≡ Nothing → ⊥) → get_or (kinds_of t) (k % 4) d ≡ wanted t k
unfolding kinds_of
first_wanted t zero d h some = refl
first_wanted t (suc zero) d h some = refl
first_wanted t (suc (suc zero)) d h some = refl
first_wanted t (suc (suc (suc zero))) d h some = refl
first_wanted t (suc (suc (suc (suc k)))) d h some =
    let m : suc (suc (suc (suc k))) % 4 ≡ k % 4 = omega arith in
    ap (λ n. get_or (kinds_of t) n d) m
    ∙ first_wanted t k d h (λ _. some (omega arith))
    ∙ wanted_again (repeats t h (some (omega arith))) k

-- what is wanted of a tag's children, after k of them
pub record Turned (t k : ℕ) (kinds : List (Option Wanted)) : Type 0 where
  pub small : t < 256
  pub is : kinds ≡ kinds_of t
  pub some : 4 ≤ k → child_kind t 3 ≡ Nothing → ⊥

-- after one more
pub turned_again : {t k : ℕ} {kinds : List (Option Wanted)} → Turned t k kinds → (child_kind t k ≡ Nothing → ⊥) → Turned t (k + 1) kinds
turned_again {t} {k} r some = record { small = r.small; is = r.is; some = λ l. fourth k (omega arith) some }
  where
    fourth : (j : ℕ) → 3 ≤ j → (child_kind t j ≡ Nothing → ⊥) → child_kind t 3 ≡ Nothing → ⊥
    fourth zero l n = absurd (omega arith)
    fourth (suc zero) l n = absurd (omega arith)
    fourth (suc (suc zero)) l n = absurd (omega arith)
    fourth (suc (suc (suc j))) l n = n

-- what the next child must be, and whether the content may end before it
pub turned_first : {t k : ℕ} {kinds : List (Option Wanted)} (d : Option Wanted) → Turned t k kinds → get_or kinds (k % 4) d ≡ marked (may_end t k) (child_kind t k)
unfolding wanted
turned_first {t} {k} d r = ap (λ l. get_or l (k % 4) d) r.is ∙ first_wanted t k d r.small r.some

-- where no child may stand, there are enough
pub enough_there : (t k : ℕ) → t < 256 → child_kind t k ≡ Nothing → enough_of t k ≡ true
unfolding enough_right alike
enough_there t k h e = go k e
  where
    tests : (all_below 3 (λ k. either (not (alike (child_kind t k) Nothing)) (enough_of t k)) ≡ true) × (either (not (alike (child_kind t 3) Nothing)) (both (leb (least_of t) 3) (not (eqb t tag_hash))) ≡ true)
    tests = both_true _ _ (passes 256 enough_right t enough-right h)

    yes : {a b : Kind} {x : Bool} → a ≡ b → either (not (alike a b)) x ≡ true → x ≡ true
    yes {a} {b} p q = rw (eq-eqb (number a) (number b) (ap number p)) at q

    first : (j : ℕ) → j < 3 → child_kind t j ≡ Nothing → enough_of t j ≡ true
    first j l e = yes e (passes 3 (λ k. either (not (alike (child_kind t k) Nothing)) (enough_of t k)) j tests.0 l)

    go : (j : ℕ) → child_kind t j ≡ Nothing → enough_of t j ≡ true
    go zero e = first 0 (omega arith) e
    go (suc zero) e = first 1 (omega arith) e
    go (suc (suc zero)) e = first 2 (omega arith) e
    go (suc (suc (suc j))) e =
        let p = both_true (leb (least_of t) 3) _ (yes e tests.1) in
        rw (le-leb (least_of t) (suc (suc (suc j))) (omega (arith, leb-true (least_of t) 3 p.0)), p.1)
