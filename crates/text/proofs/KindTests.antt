-- Tests of kinds, from what is known of them.
use Prim.Native.Nat.{ℕ, zero, suc, ◌+◌, ◌≤◌, ◌<◌}
use native.Mathlib.Omega.{arith}
use mathlib.Core.Bool.{Bool, true, false}
use mathlib.Core.Path.{◌≡◌, refl}
use lib.Dec.{ltb, eqb}
use borrow.Author.Tests.{ne_eqb, lt-ltb, le-leb, lt-leb}
use Rattle.definition.specs.Basic.{both}
use Rattle.definition.specs.Tag.{tag_infix, tag_expr_stmt}
use Rattle.definition.proofs.Basic.{chosen}
use Rattle.text.specs.Kind.{let_word, return_word, a_name, open_paren, minus, plus, else_word, close_paren, close_brace, comma, ended, if_word, fn_word}
use Rattle.text.specs.Grammar.{Infix}
use Rattle.text.specs.Scan.{either}
use Rattle.text.specs.Shape.{tight_of, closes_group, ends_at, closing, separating, ending, is_list, operator_of, continued_tag, statement_tag}

-- both, with one that fails
pub both_no : (a : Bool) {b : Bool} → b ≡ false → both a b ≡ false
both_no true e = e
both_no false e = refl

-- a token that is no `)` closes no group
pub not_closes : (opened k : ℕ) → eqb k close_paren ≡ false → closes_group opened k ≡ false
unfolding closes_group
not_closes opened k e = both_no (ltb 0 opened) e

-- a `)` closes one that is open
pub closes_one : (opened : ℕ) → 0 < opened → closes_group opened close_paren ≡ true
unfolding closes_group
closes_one opened h = rw (lt-ltb 0 opened h) refl

-- and so there was one
pub closed_one : (opened k : ℕ) → closes_group opened k ≡ true → 0 < opened
unfolding closes_group
closed_one zero k h = let z : ◌≡◌ {A = Bool} false true = h in let y : ◌≡◌ {A = ℕ} 0 1 = cc in absurd (omega arith)
closed_one (suc n) k h = omega arith

-- an expression ends at what is not tighter, and goes on at what is
pub loose_ends : (least k : ℕ) → tight_of k ≤ least → ends_at 0 least k ≡ true
unfolding ends_at
loose_ends least k h = rw (le-leb (tight_of k) least h) (go (eqb (tight_of k) 0))
  where
    go : (b : Bool) → either b true ≡ true
    go true = refl
    go false = refl

pub tight_goes : (opened least k : ℕ) → 0 < tight_of k → (opened ≡ 0 → least < tight_of k) → ends_at opened least k ≡ false
unfolding ends_at
tight_goes zero least k h f = rw (ne_eqb (tight_of k) 0 (λ e. omega arith), lt-leb (tight_of k) least (f refl)) refl
tight_goes (suc n) least k h f = rw (ne_eqb (tight_of k) 0 (λ e. omega arith), ne_eqb (suc n) 0 (λ e. omega arith)) refl

-- the text's end ends it
pub end_ends : (opened least k : ℕ) → k ≡ ended → ends_at opened least k ≡ true
unfolding ends_at tight_of
end_ends opened least k e = rw e refl

-- what begins a statement at once does not continue an expression
pub early_loose : (k : ℕ) → k < open_paren → tight_of k ≡ 0
unfolding tight_of
early_loose k h = rw (lt-ltb k open_paren h) refl

-- what an infix operator is
pub record InfixKind (m k o : ℕ) : Type 0 where
  pub tight : tight_of k + m ≡ 5
  pub some : 0 < tight_of k
  pub operator : operator_of k ≡ o
  pub tag : continued_tag k ≡ tag_infix
  pub no_if : eqb k if_word ≡ false
  pub no_fn : eqb k fn_word ≡ false
  pub no_list : is_list k ≡ false
  pub no_else : eqb k else_word ≡ false
  pub no_close : eqb k close_paren ≡ false

pub infix_kind : {m k o : ℕ} → Infix m k o → InfixKind m k o
unfolding tight_of operator_of continued_tag is_list
infix_kind Infix.times = record { tight = refl; some = omega arith; operator = refl; tag = refl; no_if = refl; no_fn = refl; no_list = refl; no_else = refl; no_close = refl }
infix_kind Infix.over = record { tight = refl; some = omega arith; operator = refl; tag = refl; no_if = refl; no_fn = refl; no_list = refl; no_else = refl; no_close = refl }
infix_kind Infix.add = record { tight = refl; some = omega arith; operator = refl; tag = refl; no_if = refl; no_fn = refl; no_list = refl; no_else = refl; no_close = refl }
infix_kind Infix.subtract = record { tight = refl; some = omega arith; operator = refl; tag = refl; no_if = refl; no_fn = refl; no_list = refl; no_else = refl; no_close = refl }
infix_kind Infix.less_than = record { tight = refl; some = omega arith; operator = refl; tag = refl; no_if = refl; no_fn = refl; no_list = refl; no_else = refl; no_close = refl }
infix_kind Infix.more_than = record { tight = refl; some = omega arith; operator = refl; tag = refl; no_if = refl; no_fn = refl; no_list = refl; no_else = refl; no_close = refl }
infix_kind Infix.equals = record { tight = refl; some = omega arith; operator = refl; tag = refl; no_if = refl; no_fn = refl; no_list = refl; no_else = refl; no_close = refl }
infix_kind Infix.differs = record { tight = refl; some = omega arith; operator = refl; tag = refl; no_if = refl; no_fn = refl; no_list = refl; no_else = refl; no_close = refl }

-- what begins an expression closes and separates nothing, and is neither let nor return
pub begins_open : (k : ℕ) → k < plus → closing k ≡ false
unfolding closing
begins_open k h = rw (lt-leb close_paren k (omega arith), ne_eqb k ended (λ e. omega arith)) refl

pub begins_first : (k : ℕ) → k < plus → separating k ≡ false
unfolding separating
begins_first k h = rw (lt-leb comma k (omega arith)) refl

pub begins-statement : (k : ℕ) → k < plus → ending k ≡ false
unfolding ending
begins-statement k h = rw (ne_eqb k close_brace (λ e. omega arith), ne_eqb k ended (λ e. omega arith)) refl

pub begins-expression : (k : ℕ) → a_name ≤ k → statement_tag k ≡ tag_expr_stmt
unfolding statement_tag
begins-expression k h = rw (ne_eqb k let_word (λ e. omega arith), ne_eqb k return_word (λ e. omega arith)) refl

-- none is tighter than a call
pub tight_most : (k : ℕ) → tight_of k ≤ 6
unfolding tight_of
tight_most k = chosen P (ltb k open_paren) (λ _. omega arith) (λ _. chosen P (ltb k minus) (λ _. omega arith) (λ _. chosen P (ltb k 15) (λ _. omega arith) (λ _. chosen P (ltb k 17) (λ _. omega arith) (λ _. chosen P (ltb k 19) (λ _. omega arith) (λ _. chosen P (ltb k else_word) (λ _. omega arith) (λ _. omega arith))))))
  where
    P : ℕ → Type 0
    P m = m ≤ 6
