-- A part of a list that is lent and comes back, as bytes stored in the whole.
use Prim.Native.Nat.{ℕ, ◌+◌, ◌≤◌}
use native.Mathlib.Omega.{arith}
use mathlib.Core.List.{◌++◌, append_assoc}
use mathlib.Core.Path.{◌≡◌, sym, ap, ◌∙◌}
use lib.ListN.{length, take, drop, replicate, length-drop, length-replicate}
use lib.Seq.{sets, sets-eq, drop-drop, length-take-le}
use borrow.Rule.Slice.PartMut.{put_mid}
use Rattle.definition.specs.Basic.{Bytes}

-- `k` elements from `i` on
module _ (l : Bytes) (i k : ℕ) (h : i + k ≤ length l) where
  part_length : length (take k (drop i l)) ≡ k
  part_length = length-take-le k (drop i l) (omega (arith, length-drop i l))

  -- they come back as `xs`
  part-stored : (xs : Bytes) → length xs ≡ k → put_mid i k l xs ≡ sets l i xs
  part-stored xs e =
      ap (λ m. take i l ++ (xs ++ m)) (drop-drop k i l ∙ ap (λ n. drop (i + n) l) (sym e))
      ∙ sym (append_assoc (take i l) xs (drop (i + length xs) l))
      ∙ sym (sets-eq xs l i (omega arith))

  -- they come back zeroed
  pub part_zeroed : {last : Bytes} → last ≡ replicate (length (take k (drop i l))) 0 → put_mid i k l last ≡ sets l i (replicate k 0)
  part_zeroed e = ap (put_mid i k l) (e ∙ ap (λ n. replicate n 0) part_length) ∙ part-stored (replicate k 0) (length-replicate k 0)

  -- they come back as a copy
  pub part_copied : (xs : Bytes) {last : Bytes} → length xs ≡ k → last ≡ xs → put_mid i k l last ≡ sets l i xs
  part_copied xs s e = ap (put_mid i k l) e ∙ part-stored xs s
