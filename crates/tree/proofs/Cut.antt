-- The tests of a field's content may be of the part of the tree that is its content, since a first byte only matters where there is one.
use Prim.Native.Nat.{ℕ, ◌+◌, ◌-◌, ◌≤◌}
use mathlib.Core.Path.{◌≡◌, ◌∙◌, ap, refl}
use mathlib.Core.Bool.{Bool, true, false}
use native.Mathlib.Omega.{arith}
use lib.Dec.{eqb, leb}
use lib.ListN.{length, take, drop, length-drop}
use borrow.Author.Tests.{eqb-true}
use Rattle.std.specs.Prelude.{Some}
use Rattle.std.proofs.lemmas.List.{get_or-drop, get_or-take, length-take-le}
use Rattle.definition.specs.Basic.{Bytes, byte_at, both}
use Rattle.field.proofs.Before.{stands}
use Rattle.field.specs.Layout.{len_before}
use Rattle.tree.specs.Check.{good_wanted}
use Rattle.tree.specs.Kinds.{good_byte, good_content, good_tag}
use Rattle.tree.specs.declared.grammar.Wanted.{Wanted}

-- two bytes that are the same where the content is one byte
first_of : (n x y most : ℕ) → (n ≡ 1 → x ≡ y) → good_byte n x most ≡ good_byte n y most
first_of n x y most h = go (eqb n 1) (eqb-true n 1)
  where
    go : (b : Bool) → (b ≡ true → n ≡ 1) → both b (leb x most) ≡ both b (leb y most)
    go true e = ap (λ z. leb z most) (h (e refl))
    go false e = refl

module _ (tree : Bytes) (at end : ℕ) (w : Wanted) (inside : end ≤ length tree) where
  -- so many bytes behind the head, as the code cuts them
  abbrev part : ℕ → Bytes
  part n = take (at + 3 + n - (at + 3)) (drop (at + 3) tree)

  -- the test of the part is the test at its offset
  cut : (n t : ℕ) → at + 3 + n ≤ end → good_content w t (length (part n)) (byte_at (part n) 0) ≡ good_content w t n (byte_at tree (at + 3))
  cut n t h =
      rw (long, first_of n (byte_at (part n) 0) (byte_at tree (at + 3)) 1 same, first_of n (byte_at (part n) 0) (byte_at tree (at + 3)) 9 same) refl
    where
      long : length (part n) ≡ n
      long = length-take-le _ (drop (at + 3) tree) (omega (arith, length-drop (at + 3) tree)) ∙ omega arith

      same : n ≡ 1 → byte_at (part n) 0 ≡ byte_at tree (at + 3)
      same q = get_or-take _ (drop (at + 3) tree) 0 0 (omega (arith, q)) ∙ get_or-drop (at + 3) tree 0 0 ∙ ap (byte_at tree) (omega arith)

  -- a whole field of a tag that is wanted is good where the part is
  pub cut_wanted : {n : ℕ} → Some n ≡ len_before tree at end → good_tag w (byte_at tree at) ≡ true → good_content w (byte_at tree at) (length (part n)) (byte_at (part n) 0) ≡ good_wanted (byte_at tree) w at end
  cut_wanted {n} e g =
      let s = stands tree at end e in
      rw (s.fits, g, ← s.is) (cut n (byte_at tree at) s.within)
