-- The steps of the code's check of children.
use Prim.Native.Nat.{ℕ, zero, suc, ◌+◌, ◌-◌, ◌/◌, ◌%◌, ◌≤◌}
use native.Mathlib.Omega.{arith}
use mathlib.Core.Bool.{Bool, true, false, not}
use mathlib.Core.Path.{◌≡◌, refl, sym, ap, ◌∙◌}
use lib.Dec.{leb, eqb}
use borrow.Author.Tests.{leb-true, le-leb, eqb-true, ne_eqb}
use Rattle.definition.specs.Basic.{pick}
use Rattle.definition.specs.Tag.{tag_call}
use Rattle.definition.specs.Field.{fits, head}
use Rattle.definition.specs.declared.reason.Refusal.{Refusal}
use Rattle.definition.proofs.Basic.{both_true}
use Rattle.tree.specs.Grammar.{Kind, either, is_leaf, child_kind, enough_of}
use Rattle.tree.specs.Kinds.{may_end}
use Rattle.tree.specs.declared.grammar.Wanted.{Wanted}
use mathlib.Core.List.{List}
use lib.ListN.{get_or}
use Rattle.tree.specs.Check.{Checked, Good, and_then, bad_tree, too_deep, outcome_of, next, good_field, ended, check_children, check_inside, check_field, check_all}
use Rattle.std.specs.Prelude.{Option, Err}
use Rattle.tree.proofs.Checking.{children_ended, children_more}
use Rattle.tree.proofs.Turns.{Turned, turned_again, turned_first, enough_there}
use Rattle.tree.proofs.Numbered.{ends_of, kind_ends, good_of, numbered, good_some}

-- what the opposite of a test says
pub denied : {b : Bool} → not b ≡ true → b ≡ false
denied {b = true} e = cc
denied {b = false} e = refl

pub allowed : {b : Bool} → not b ≡ false → b ≡ true
allowed {b = true} e = refl
allowed {b = false} e = cc

-- a number that is not 0 is a refusal's
refusal-of : (n : ℕ) → (n ≡ 0 → ⊥) → (r : Refusal) × (outcome_of n ≡ Err r)
refusal-of n some = rw (ne_eqb n 0 some) (by (eqb (n % 2) 1))
  where
    by : (b : Bool) → (r : Refusal) × (pick b (bad_tree (n / 2)) (too_deep (n / 2 - 1)) ≡ Err r)
    by true = (_, refl)
    by false = (_, refl)

module _ (byte : ℕ → ℕ) where
  -- a good field is whole
  good_fits : (kind : Kind) (at end : ℕ) → good_field byte kind at end ≡ true → next byte at ≤ end
  good_fits kind at end g = leb-true (next byte at) end (both_true (leb (at + 3) end) (leb (next byte at) end) (both_true (fits at end (head byte at)) _ g).0).1

  module _ (levels : ℕ) (kind : Kind) (at end : ℕ) where
    -- its tag, length or own bytes are wrong
    field_bad : good_field byte kind at end ≡ false → bad_tree at ≡ check_field byte levels kind at end
    unfolding check_field
    field_bad g = sym (ap (λ b. pick b (check_inside byte levels at) (bad_tree at)) g)

    -- what is inside a good one
    field-inside : good_field byte kind at end ≡ true → check_inside byte levels at ≡ check_field byte levels kind at end
    unfolding check_field
    field-inside g = sym (ap (λ b. pick b (check_inside byte levels at) (bad_tree at)) g)

    -- it is too deep
    field_deep : good_field byte kind at end ≡ true → levels ≡ 0 → too_deep at ≡ check_field byte levels kind at end
    unfolding check_inside
    field_deep g z = sym (ap (λ l. check_inside byte l at) z) ∙ field-inside g

    -- it has no children
    field_leaf : good_field byte kind at end ≡ true → (levels ≡ 0 → ⊥) → is_leaf (byte at) ≡ true → Good ≡ check_field byte levels kind at end
    unfolding check_inside
    field_leaf g nz leaf = by levels refl ∙ field-inside g
      where
        by : (l : ℕ) → levels ≡ l → Good ≡ check_inside byte l at
        by zero e = absurd (nz e)
        by (suc l) e = rw leaf

    -- its children
    field_children : good_field byte kind at end ≡ true → (levels ≡ 0 → ⊥) → is_leaf (byte at) ≡ false
        → check_children byte (λ kind₁ at₁ end₁. check_field byte (levels - 1) kind₁ at₁ end₁) (byte at) at (next byte at - (at + 3)) 0 (at + 3) (next byte at) ≡ check_field byte levels kind at end
    unfolding check_inside check_field
    field_children g nz leaf = by levels refl ∙ field-inside g
      where
        by : (l : ℕ) → levels ≡ l → check_children byte (λ kind₁ at₁ end₁. check_field byte (l - 1) kind₁ at₁ end₁) (byte at) at (next byte at - (at + 3)) 0 (at + 3) (next byte at) ≡ check_inside byte l at
        by zero e = absurd (nz e)
        by (suc l) e =
            let l₁ : suc l - 1 ≡ l = omega arith in
            let n : next byte at - (at + 3) ≡ (head byte at).len = omega arith in
            rw (leaf, l₁, n)

-- the check of the children from child k on, which stands at `at`
abbrev pub from : (ℕ → ℕ) → ℕ → ℕ → ℕ → ℕ → ℕ → Checked
from byte levels parent end k at = check_children byte (λ kind at₁ end₁. check_field byte levels kind at₁ end₁) (byte parent) parent (end - (parent + 3) - k) k at end

-- after some children the loop stands at `at`, the kinds are those of the next, and what is left decides
pub record Left (byte : ℕ → ℕ) (levels parent end at k : ℕ) (kinds : List (Option Wanted)) : Type 0 where
  pub start : parent + 3 + k ≤ at
  pub finish : at ≤ end
  pub turned : Turned (byte parent) k kinds
  pub called : byte parent ≡ tag_call → at ≡ end → 1 ≤ k
  pub decides : check_all byte levels parent end ≡ from byte levels parent end k at

-- a call without callee
pub left_none : (byte : ℕ → ℕ) (levels parent end : ℕ) → byte parent ≡ tag_call → parent + 3 ≡ end → bad_tree parent ≡ check_all byte levels parent end
left_none byte levels parent end t e = sym (rw (e, t) (children_ended byte (λ kind at₁ end₁. check_field byte levels kind at₁ end₁) tag_call parent end (end - end) 0))

module _ {byte : ℕ → ℕ} {levels parent end : ℕ} where
  module _ {at k : ℕ} {kinds : List (Option Wanted)} (d : Option Wanted) (l : Left byte levels parent end at k kinds) where
    -- what the next child must be
    abbrev kind : Kind
    kind = child_kind (byte parent) k

    -- at the end
    left_ended : at ≡ end → ended (byte parent) parent k ≡ check_all byte levels parent end
    left_ended e = sym (l.decides ∙ rw e (children_ended byte (λ kind₁ at₁ end₁. check_field byte levels kind₁ at₁ end₁) (byte parent) parent end (end - (parent + 3) - k) k))

    -- whether there are enough
    left_enough_of : at ≡ end → ends_of (get_or kinds (k % 4) d) ≡ enough_of (byte parent) k
    left_enough_of e = rw (turned_first d l.turned, kind_ends (may_end (byte parent) k) kind (λ n. may (eqb (byte parent) tag_call) (enough_there (byte parent) k l.turned.small n))) (by (eqb (byte parent) tag_call) refl)
      where
        may : (b : Bool) → enough_of (byte parent) k ≡ true → either b (enough_of (byte parent) k) ≡ true
        may true e = refl
        may false e = e

        by : (b : Bool) → eqb (byte parent) tag_call ≡ b → either b (enough_of (byte parent) k) ≡ enough_of (byte parent) k
        by true q = let t = eqb-true (byte parent) tag_call q in rw (t, le-leb 1 k (l.called t e))
        by false q = refl

    -- there, a child is missing
    pub left_missing : at ≡ end → ends_of (get_or kinds (k % 4) d) ≡ false → bad_tree parent ≡ check_all byte levels parent end
    left_missing e b = sym (ap (λ b. pick b Good (bad_tree parent)) (sym (left_enough_of e) ∙ b)) ∙ left_ended e

    -- or none is
    pub left_enough : at ≡ end → ends_of (get_or kinds (k % 4) d) ≡ true → Good ≡ check_all byte levels parent end
    left_enough e b = sym (ap (λ b. pick b Good (bad_tree parent)) (sym (left_enough_of e) ∙ b)) ∙ left_ended e

    -- the test of a field is that of the kind
    left_good : good_of byte (get_or kinds (k % 4) d) at end ≡ good_field byte kind at end
    left_good = ap (λ n. good_of byte n at end) (turned_first d l.turned) ∙ numbered byte (may_end (byte parent) k) kind at end

    -- a good field is whole
    pub left_fits : good_of byte (get_or kinds (k % 4) d) at end ≡ true → next byte at ≤ end
    left_fits g = good_fits byte kind at end (sym left_good ∙ g)

    module _ (n : at ≡ end → ⊥) where
      -- the child at `at`, and those after it
      child_then : check_all byte levels parent end ≡ and_then (check_field byte levels kind at end) (from byte levels parent end (k + 1) (next byte at))
      child_then =
          let e : end - (parent + 3) - k ≡ suc (end - (parent + 3) - (k + 1)) = omega (arith, l.start, l.finish) in
          l.decides ∙ rw e (children_more byte (λ kind₁ at₁ end₁. check_field byte levels kind₁ at₁ end₁) (byte parent) parent end (end - (parent + 3) - (k + 1)) k at n)

      -- it is refused
      child-refused : {r : Refusal} → Err r ≡ check_field byte levels kind at end → Err r ≡ check_all byte levels parent end
      child-refused e = sym (child_then ∙ ap (λ d. and_then d (from byte levels parent end (k + 1) (next byte at))) (sym e))

      -- its tag, length or own bytes are wrong
      pub left_bad : good_of byte (get_or kinds (k % 4) d) at end ≡ false → bad_tree at ≡ check_all byte levels parent end
      left_bad g = child-refused (field_bad byte levels kind at end (sym left_good ∙ g))

      -- it is too deep
      pub left_deep : good_of byte (get_or kinds (k % 4) d) at end ≡ true → levels ≡ 0 → too_deep at ≡ check_all byte levels parent end
      left_deep g z = child-refused (field_deep byte levels kind at end (sym left_good ∙ g) z)

      module _ (g : good_of byte (get_or kinds (k % 4) d) at end ≡ true) (nz : levels ≡ 0 → ⊥) where
        -- something is wrong inside
        pub left_found : {found : ℕ} → is_leaf (byte at) ≡ false → outcome_of found ≡ check_all byte (levels - 1) at (next byte at) → (found ≡ 0 → ⊥) → outcome_of found ≡ check_all byte levels parent end
        left_found {found} leaf e some = let r = refusal-of found some in r.1 ∙ child-refused (sym r.1 ∙ e ∙ field_children byte levels kind at end (sym left_good ∙ g) nz leaf)

        -- it is good
        left_next : Good ≡ check_field byte levels kind at end → Left byte levels parent end (next byte at) (k + 1) kinds
        left_next e =
            record {
              start = omega (arith, l.start);
              finish = left_fits g;
              turned = turned_again l.turned (good_some byte kind at end (sym left_good ∙ g));
              called = λ _ _. omega arith;
              decides = child_then ∙ ap (λ d. and_then d (from byte levels parent end (k + 1) (next byte at))) (sym e);
            }

        -- it has no children
        pub left_leaf : is_leaf (byte at) ≡ true → Left byte levels parent end (next byte at) (k + 1) kinds
        left_leaf leaf = left_next (field_leaf byte levels kind at end (sym left_good ∙ g) nz leaf)

        -- its children are good
        pub left_children : is_leaf (byte at) ≡ false → outcome_of 0 ≡ check_all byte (levels - 1) at (next byte at) → Left byte levels parent end (next byte at) (k + 1) kinds
        left_children leaf e = left_next (e ∙ field_children byte levels kind at end (sym left_good ∙ g) nz leaf)
