-- The tests of a field that is wanted are those of the kind.
use Prim.Native.Nat.{ℕ, ◌+◌, ◌≤◌}
use native.Mathlib.Omega.{arith}
use mathlib.Core.Bool.{Bool, true, false}
use mathlib.Core.Path.{◌≡◌, refl, sym, ap, ◌∙◌}
use lib.Dec.{leb, eqb}
use borrow.Author.Tests.{leb-true, le-leb, lt-leb, eqb-true, eqb-false, ne_eqb}
use Rattle.definition.specs.Basic.{both}
use Rattle.definition.specs.Limit.{name_limit}
use Rattle.definition.specs.Tag.{tag_expr_stmt, tag_block, tag_return, tag_identifier, tag_integer, tag_boolean, tag_macro, tag_name, tag_params, tag_operator}
use Rattle.definition.specs.Field.{fits, head}
use Rattle.definition.specs.Tree.{expr_len}
use Rattle.definition.proofs.Basic.{both_true}
use Rattle.tree.specs.Grammar.{Kind, Statement, Block, Expression, Name, Params, Operator, Nothing, good_head, good_own}
use Rattle.tree.specs.Kinds.{marked, good_tag, good_content}
use Rattle.tree.specs.declared.grammar.Wanted.{Wanted}
use Rattle.tree.specs.Check.{good_field}
use Rattle.std.specs.Prelude.{Option, Some, None}

-- a test after another need only be right where that one holds
under : {x y : Bool} (b : Bool) → (b ≡ true → x ≡ y) → both b x ≡ both b y
under true h = h refl
under false h = refl

-- tests in a row: three; one that always holds at the end; one that never does
both_assoc : (a b d : Bool) → both (both a b) d ≡ both a (both b d)
both_assoc true b d = refl
both_assoc false b d = refl

both_id : (b : Bool) → b ≡ both b true
both_id true = refl
both_id false = refl

both_no : (b : Bool) → both b false ≡ false
both_no true = refl
both_no false = refl

-- no other tag has own bytes that are tested
pub own_other : (t first : ℕ) → (t ≡ tag_boolean → ⊥) → (t ≡ tag_operator → ⊥) → good_own t first ≡ true
own_other t first b o = rw (ne_eqb t tag_boolean b, ne_eqb t tag_operator o)

-- a tag from one to another
within : (low t high : ℕ) → both (leb low t) (leb t high) ≡ true → (low ≤ t) × (t ≤ high)
within low t high e = let b = both_true (leb low t) (leb t high) e in (leb-true low t b.0, leb-true t high b.1)

-- one tag alone
one_tag : (u t : ℕ) → both (leb u t) (leb t u) ≡ eqb t u
one_tag u t = by (eqb t u) refl
  where
    up : (b : Bool) → leb u t ≡ b → (t ≡ u → ⊥) → both b (leb t u) ≡ false
    up true e n = let l = leb-true u t e in lt-leb t u (omega arith)
    up false e n = refl

    by : (b : Bool) → eqb t u ≡ b → both (leb u t) (leb t u) ≡ b
    by true e = let q = eqb-true t u e in rw (le-leb u t (omega arith), le-leb t u (omega arith))
    by false e = up (leb u t) refl (eqb-false t u e)

-- whether the content may end before what is wanted
abbrev pub ends_of : Option Wanted → Bool
ends_of (Some w) = w.ends
ends_of None = true

-- of a field of a kind, where one may stand
pub kind_ends : (e : Bool) (kind : Kind) → (kind ≡ Nothing → e ≡ true) → ends_of (marked e kind) ≡ e
kind_ends e Statement n = refl
kind_ends e Block n = refl
kind_ends e Expression n = refl
kind_ends e (Name least) n = refl
kind_ends e Params n = refl
kind_ends e Operator n = refl
kind_ends e Nothing n = sym (n refl)

-- the tests of a tag and of the content behind it
abbrev good_by : Option Wanted → ℕ → ℕ → ℕ → Bool
good_by (Some w) t len first = both (good_tag w t) (good_content w t len first)
good_by None t len first = false

-- and of a whole field
abbrev pub good_of : (ℕ → ℕ) → Option Wanted → ℕ → ℕ → Bool
good_of byte w at end = both (fits at end (head byte at)) (good_by w (byte at) (head byte at).len (byte (at + 3)))

pub good_none : (byte : ℕ → ℕ) {w : Option Wanted} (at end : ℕ) → w ≡ None → good_of byte w at end ≡ false
good_none byte at end e = ap (λ w. good_of byte w at end) e ∙ both_no (fits at end (head byte at))

-- a field without tested bytes
plain-content : (w : Wanted) (t len first : ℕ) → (t ≡ tag_identifier → ⊥) → (t ≡ tag_integer → ⊥) → (t ≡ tag_boolean → ⊥) → (t ≡ tag_name → ⊥) → (t ≡ tag_operator → ⊥) → good_content w t len first ≡ true
plain-content w t len first a b d f g = rw (ne_eqb t tag_identifier a, ne_eqb t tag_integer b, ne_eqb t tag_boolean d, ne_eqb t tag_name f, ne_eqb t tag_operator g)

module _ (e : Bool) (t len first : ℕ) where
  -- what is wanted of a kind that may stand
  abbrev m : Kind → Wanted
  m kind = the (marked e kind)
    where
      the : Option Wanted → Wanted
      the (Some w) = w
      the None = record { low = 0; high = 0; least = 0; ends = e }

  -- the tests by the kind
  abbrev tests : Kind → Bool
  tests kind = both (good_head kind (record { tag = t; len = len })) (good_own t first)

  -- a kind of one tag, with a test of the length
  one : (w : Wanted) (u : ℕ) (long : Bool) → good_tag w t ≡ both (leb u t) (leb t u) → (t ≡ u → good_content w t len first ≡ both long (good_own t first))
      → both (good_tag w t) (good_content w t len first) ≡ both (both (eqb t u) long) (good_own t first)
  one w u long tag content = rw (tag, one_tag u t, both_assoc (eqb t u) long (good_own t first)) (under (eqb t u) (λ q. content (eqb-true t u q)))

  -- a statement
  statement : both (good_tag (m Statement) t) (good_content (m Statement) t len first) ≡ tests Statement
  statement =
      (under (both (leb tag_expr_stmt t) (leb t tag_return)) (λ q.
      let tag = within tag_expr_stmt t tag_return q in
      plain-content (m Statement) t len first (λ z. omega arith) (λ z. omega arith) (λ z. omega arith) (λ z. omega arith) (λ z. omega arith)
      ∙ sym (own_other t first (λ z. omega arith) (λ z. omega arith))))

  -- an expression
  expression : both (good_tag (m Expression) t) (good_content (m Expression) t len first) ≡ tests Expression
  expression =
      rw (both_assoc (both (leb tag_identifier t) (leb t tag_macro)) (expr_len (record { tag = t; len = len })) (good_own t first))
      (under (both (leb tag_identifier t) (leb t tag_macro)) (λ q.
      by (within tag_identifier t tag_macro q) (eqb t tag_identifier) (eqb t tag_integer) (eqb t tag_boolean) refl refl refl))
    where
      by : (tag_identifier ≤ t) × (t ≤ tag_macro) → (a b d : Bool) → eqb t tag_identifier ≡ a → eqb t tag_integer ≡ b → eqb t tag_boolean ≡ d
          → good_content (m Expression) t len first ≡ both (expr_len (record { tag = t; len = len })) (good_own t first)
      by tag true b d a₁ b₁ d₁ = rw (eqb-true t tag_identifier a₁) (both_id _)
      by tag false true d a₁ b₁ d₁ = rw (eqb-true t tag_integer b₁) (both_id _)
      by tag false false true a₁ b₁ d₁ = rw (eqb-true t tag_boolean d₁) (ap (both (eqb len 1)) (both_id (leb first 1)))
      by tag false false false a₁ b₁ d₁ =
          let no = eqb-false t tag_boolean d₁ in
          rw (a₁, b₁, d₁, ne_eqb t tag_name (λ z. omega arith), ne_eqb t tag_operator (λ z. omega arith))

  -- each kind
  each : (kind : Kind) → good_by (marked e kind) t len first ≡ tests kind
  each Statement = statement
  each Block = one (m Block) tag_block true refl (λ q. rw q) ∙ ap (λ b. both b (good_own t first)) (sym (both_id (eqb t tag_block)))
  each Expression = expression
  each (Name least) =
      one (m (Name least)) tag_name (both (leb least len) (leb len name_limit)) refl
      (λ q. rw q (both_id _))
  each Params = one (m Params) tag_params true refl (λ q. rw q) ∙ ap (λ b. both b (good_own t first)) (sym (both_id (eqb t tag_params)))
  each Operator = one (m Operator) tag_operator (eqb len 1) refl (λ q. rw q)
  each Nothing = refl

-- a whole field of a kind
pub numbered : (byte : ℕ → ℕ) (e : Bool) (kind : Kind) (at end : ℕ) → good_of byte (marked e kind) at end ≡ good_field byte kind at end
numbered byte e kind at end = ap (both (fits at end (head byte at))) (each e (byte at) (head byte at).len (byte (at + 3)) kind)

-- it is not nothing
pub good_some : (byte : ℕ → ℕ) (kind : Kind) (at end : ℕ) → good_field byte kind at end ≡ true → kind ≡ Nothing → ⊥
good_some byte kind at end g z =
    let n : false ≡ true = sym (both_no (fits at end (head byte at))) ∙ rw z at g in
    cc
