-- Where loops go on, there is text left.
use Prim.Native.Nat.{ℕ, ◌≤◌, ◌<◌}
use native.Mathlib.Omega.{arith}
use mathlib.Core.Bool.{Bool, true, false}
use mathlib.Core.Path.{◌≡◌, refl}
use lib.Dec.{eqb, ltb}
use borrow.Author.Tests.{eqb-true, ltb-true, ltb-false}
use Rattle.definition.specs.Basic.{Bytes, pick}
use Rattle.definition.proofs.Basic.{both_true}
use Rattle.text.specs.Kind.{close_paren, ended, number_of}
use Rattle.text.specs.Shape.{closes_group, ends_at, closing, ending}
use Rattle.text.specs.Parts.{end_of, Sees, Bounds, Spares}
use Rattle.text.specs.declared.part.Part.{Part}
use Rattle.text.specs.declared.scan.Token as piece
use Rattle.text.proofs.KindTests.{end_ends}
use Rattle.text.proofs.RowAt.{sees_more, sees_ahead}
use Rattle.text.proofs.Operands.{no_both_ways}

-- an item begins where the loop stands or behind the token
pub item_on : (b : Bool) {end at from : ℕ} → at ≤ end → from ≡ pick b end at → (at ≤ from) × (from ≤ end)
item_on true h e = (omega arith, omega arith)
item_on false h e = (omega arith, omega arith)

closing_end : (k : ℕ) → k ≡ ended → closing k ≡ true
unfolding closing
closing_end k e = rw e refl

ending_end : (k : ℕ) → k ≡ ended → ending k ≡ true
unfolding ending
ending_end k e = rw e refl

-- an item, a statement, an operator, a `)`
pub item-ahead : {text : Bytes} {at : ℕ} {t : piece.Token} → Sees text at t → at ≤ end_of text → closing (number_of t.kind) ≡ false → at < t.end
item-ahead {t = t} s h e = sees_ahead s h (λ k. no_both_ways (closing_end (number_of t.kind) k) e)

pub statement-ahead : {text : Bytes} {at : ℕ} {t : piece.Token} → Sees text at t → at ≤ end_of text → ending (number_of t.kind) ≡ false → at < end_of text
statement-ahead {t = t} s h e = sees_more s h (λ k. no_both_ways (ending_end (number_of t.kind) k) e)

pub operator-ahead : (opened least : ℕ) {text : Bytes} {at : ℕ} {t : piece.Token} → Sees text at t → at ≤ end_of text → ends_at opened least (number_of t.kind) ≡ false → at < t.end
operator-ahead opened least {t = t} s h e = sees_ahead s h (λ k. no_both_ways (end_ends opened least (number_of t.kind) k) e)

pub group_ahead : (opened : ℕ) {text : Bytes} {at : ℕ} {t : piece.Token} → Sees text at t → at ≤ end_of text → closes_group opened (number_of t.kind) ≡ true → at < t.end
unfolding closes_group
group_ahead opened {t = t} s h e = sees_ahead s h (λ k. let z = eqb-true (number_of t.kind) close_paren (both_true (ltb 0 opened) (eqb (number_of t.kind) close_paren) e).1 in omega arith)

-- an expression passes some text if there is any
pub expression-on : {text : Bytes} {at from end to left : ℕ} {old out : Bytes} {p : Part} → Bounds text from to 0 left old out p → Spares text from to p → (at ≤ from) × (from ≤ end) → at < end → end ≤ end_of text → at < p.at
expression-on {text} {at} {from} {end} {to} {left} {old} {out} {p} b v i e w = go (ltb from (end_of text)) refl
  where
    go : (x : Bool) → ltb from (end_of text) ≡ x → at < p.at
    go true h = omega (arith, v (ltb-true from (end_of text) h), b.behind, i.0)
    go false h = omega (arith, ltb-false from (end_of text) h, b.onward, i.1)
