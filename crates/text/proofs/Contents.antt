-- The contents of tokens, and the fields made of them.
use Prim.Native.Nat.{ℕ, ◌+◌, ◌-◌, ◌≤◌}
use native.Mathlib.Omega.{arith}
use mathlib.Core.List.{[], ◌∷◌}
use mathlib.Core.Path.{◌≡◌, refl, sym, ap, ◌∙◌}
use lib.ListN.{length}
use lib.Seq.{sets}
use borrow.Author.Tests.{ne_eqb, le-leb}
use Rattle.definition.specs.Basic.{Bytes, byte_at}
use Rattle.definition.specs.Field.{field, bytes}
use Rattle.session.proofs.Stores.{sets_before}
use Rattle.text.specs.Kind.{an_integer, a_string, true_word, false_word, number_of}
use Rattle.text.specs.Scan.{value, eight, integer_limit}
use Rattle.text.specs.Seen.{within_limit}
use Rattle.std.specs.Prelude.{Some}
use Rattle.session.specs.Write.{heading}
use Rattle.text.specs.Parts.{content_of, Sees}
use Rattle.text.specs.declared.scan.Token as piece

module _ (text : Bytes) (t : piece.Token) where
  pub content_integer : number_of t.kind ≡ an_integer → value 0 (bytes (byte_at text) t.start (t.end - t.start)) ≤ integer_limit → (v : ℕ) → Some v ≡ within_limit (value 0 (bytes (byte_at text) t.start (t.end - t.start))) → content_of text t ≡ eight v
  unfolding content_of
  content_integer e h v f = let i = value 0 (bytes (byte_at text) t.start (t.end - t.start)) in let g : within_limit i ≡ Some i = rw (le-leb i integer_limit h) refl in let j : i ≡ v = cc in rw e (ap eight j)

  pub content_string : number_of t.kind ≡ a_string → content_of text t ≡ bytes (byte_at text) (t.start + 1) (t.end - 1 - (t.start + 1))
  unfolding content_of
  content_string e = rw e refl

  pub content_true : number_of t.kind ≡ true_word → content_of text t ≡ 1 ∷ []
  unfolding content_of
  content_true e = rw e refl

  pub content_false : number_of t.kind ≡ false_word → content_of text t ≡ 0 ∷ []
  unfolding content_of
  content_false e = rw e refl

  pub content-bytes : (number_of t.kind ≡ an_integer → ⊥) → (number_of t.kind ≡ a_string → ⊥) → (number_of t.kind ≡ true_word → ⊥) → (number_of t.kind ≡ false_word → ⊥) → content_of text t ≡ bytes (byte_at text) t.start (t.end - t.start)
  unfolding content_of
  content-bytes a b c d = rw (ne_eqb (number_of t.kind) an_integer a, ne_eqb (number_of t.kind) a_string b, ne_eqb (number_of t.kind) true_word c, ne_eqb (number_of t.kind) false_word d) refl

  -- put
  pub put_done : (to : ℕ) (old : Bytes) {content : Bytes} {r : ℕ} {out : Bytes} → content_of text t ≡ content → r ≡ to + length content → out ≡ sets old to content → length content ≤ 8 + (t.end - t.start) → record { behind : r ≡ to + length (content_of text t); stored : out ≡ sets old to (content_of text t); most : length (content_of text t) ≤ 8 + (t.end - t.start) }
  put_done to old {content} {r} {out} e a b c = record { behind = a ∙ ap (λ x. to + length x) (sym e); stored = b ∙ ap (sets old to) (sym e); most = omega (arith, ap length e) }

-- a head in front of a content
pub field_stored : (tag : ℕ) (content : Bytes) (to : ℕ) (old : Bytes) {end : ℕ} {mid out : Bytes} → mid ≡ sets old (to + 3) content → end ≡ to + 3 + length content → out ≡ sets mid to (heading tag (end - to - 3)) → out ≡ sets old to (field tag content)
field_stored tag content to old {end} {mid} {out} a e b =
    let n : end - to - 3 ≡ length content = omega arith in
    b ∙ (λ i. sets (a i) to (heading tag (n i))) ∙ sets_before old to {j = to + 3} (heading tag (length content)) content refl

-- a token ends behind where it was looked for
pub sees_on : {text : Bytes} {at : ℕ} {t : piece.Token} → Sees text at t → at ≤ t.end
sees_on s = omega (arith, s.from, s.order)
