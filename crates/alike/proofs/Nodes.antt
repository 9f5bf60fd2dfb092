-- What alike scripts denote: nodes that differ in the contents of literals alone. Their bytes are alike, field by field.
use Prim.Native.Nat.{ℕ, suc, ◌+◌, ◌/◌, ◌%◌, ◌≤◌}
use native.Mathlib.Omega.{arith}
use mathlib.Core.Bool.{Bool, true, false}
use mathlib.Core.List.{◌∷◌, ◌++◌, append_assoc, append-nil}
use mathlib.Core.Path.{◌≡◌, refl, sym, ap, subst, subst₂, ◌∙◌}
use lib.ListN.{length, length-append}
use lib.Dec.{eqb}
use Rattle.definition.specs.Basic.{Bytes, pick}
use Rattle.definition.specs.Limit.{tree_limit}
use Rattle.definition.specs.Tag.{tag_function, tag_name}
use Rattle.definition.proofs.Bytes.{two_bytes}
use Rattle.tree.specs.Grammar.{is_leaf}
use Rattle.shape.specs.Fields.{is_literal}
use Rattle.shape.specs.Alike.{AlikeFields}
use Rattle.definition.specs.Node
use Rattle.definition.specs.Node.{Node, leaf, node, Nodes, ◌then◌, written, written_all, larger, levels, levels_all}
use Rattle.text.specs.Named.{renamed, named}

mutual
  pub data LikeNode : Node → Node → Type 0 where
    same : (t : ℕ) (c : Bytes) → is_leaf t ≡ true → is_literal t ≡ false → LikeNode (leaf t c) (leaf t c)
    literal : (t : ℕ) (b c : Bytes) → is_literal t ≡ true → length b ≡ length c → LikeNode (leaf t b) (leaf t c)
    inside : {xs ys : Nodes} (t : ℕ) → is_leaf t ≡ false → LikeNodes xs ys → LikeNode (node t xs) (node t ys)

  pub data LikeNodes : Nodes → Nodes → Type 0 where
    none : LikeNodes Node.none Node.none
    another : {x y : Node} {xs ys : Nodes} → LikeNode x y → LikeNodes xs ys → LikeNodes (x then xs) (y then ys)

-- one
pub like_one : {x y : Node} → LikeNode x y → LikeNodes (x then Node.none) (y then Node.none)
like_one l = LikeNodes.another l LikeNodes.none

-- a function takes a name
pub like_named : (n : Bytes) {x y : Node} → LikeNode x y → LikeNode (named n x) (named n y)
like_named n (LikeNode.same t c e k) = LikeNode.same t c e k
like_named n (LikeNode.literal t b c k h) = LikeNode.literal t b c k h
like_named n (LikeNode.inside {xs} {ys} t e l) = go (eqb t tag_function)
  where
    again : {xs ys : Nodes} → LikeNodes xs ys → LikeNodes (renamed n xs) (renamed n ys)
    again LikeNodes.none = LikeNodes.none
    again (LikeNodes.another _ ls) = LikeNodes.another (LikeNode.same tag_name n refl refl) ls

    go : (b : Bool) → LikeNode (pick b (node t (renamed n xs)) (node t xs)) (pick b (node t (renamed n ys)) (node t ys))
    go true = LikeNode.inside t e (again l)
    go false = LikeNode.inside t e l

mutual
  unfolding written

  -- they are equally long
  pub like_length : {x y : Node} → LikeNode x y → length (written x) ≡ length (written y)
  like_length (LikeNode.same t c _ _) = refl
  like_length (LikeNode.literal t b c _ h) = ap (λ n. suc (suc (suc n))) h
  like_length (LikeNode.inside t _ l) = ap (λ n. suc (suc (suc n))) (like_lengths l)

  pub like_lengths : {xs ys : Nodes} → LikeNodes xs ys → length (written_all xs) ≡ length (written_all ys)
  like_lengths LikeNodes.none = refl
  like_lengths (LikeNodes.another {x} {y} {xs} {ys} l ls) =
      length-append (written x) (written_all xs) ∙ (λ i. like_length l i + like_lengths ls i)
      ∙ sym (length-append (written y) (written_all ys))

mutual
  unfolding levels

  -- and equally deep
  pub like_levels : {x y : Node} → LikeNode x y → levels x ≡ levels y
  like_levels (LikeNode.same t c _ _) = refl
  like_levels (LikeNode.literal t b c _ h) = refl
  like_levels (LikeNode.inside t _ l) = ap suc (like_levels_all l)

  pub like_levels_all : {xs ys : Nodes} → LikeNodes xs ys → levels_all xs ≡ levels_all ys
  like_levels_all LikeNodes.none = refl
  like_levels_all (LikeNodes.another l ls) = λ i. larger (like_levels l i) (like_levels_all ls i)

mutual
  unfolding written

  -- their bytes, in front of others
  alike-written : {x y : Node} {b c : Bytes} → LikeNode x y → length (written x) ≤ tree_limit → AlikeFields b c
      → AlikeFields (written x ++ b) (written y ++ c)
  alike-written (LikeNode.same t x e k) h f = AlikeFields.kept t _ _ x e k (sym (two_bytes (length x) (omega arith))) f
  alike-written {b = b} {c} (LikeNode.literal t x y k e) h f =
      subst (AlikeFields (t ∷ length x / 256 % 256 ∷ length x % 256 ∷ (x ++ b))) (λ i. t ∷ e i / 256 % 256 ∷ e i % 256 ∷ (y ++ c))
      (AlikeFields.literal t _ _ x y k (sym (two_bytes (length x) (omega arith))) (sym e ∙ sym (two_bytes (length x) (omega arith))) f)
  alike-written {b = b} {c} (LikeNode.inside {xs} {ys} t e l) h f =
      subst (AlikeFields (t ∷ length (written_all xs) / 256 % 256 ∷ length (written_all xs) % 256 ∷ (written_all xs ++ b))) (λ i. t ∷ like_lengths l i / 256 % 256 ∷ like_lengths l i % 256 ∷ (written_all ys ++ c))
      (AlikeFields.inside t _ _ e (alike_all l (omega arith) f))

  alike_all : {xs ys : Nodes} {b c : Bytes} → LikeNodes xs ys → length (written_all xs) ≤ tree_limit → AlikeFields b c
      → AlikeFields (written_all xs ++ b) (written_all ys ++ c)
  alike_all LikeNodes.none h f = f
  alike_all {b = b} {c} (LikeNodes.another {x} {y} {xs} {ys} l ls) h f =
      subst₂ AlikeFields (sym (append_assoc (written x) (written_all xs) b)) (sym (append_assoc (written y) (written_all ys) c))
      (alike-written l (omega (arith, length-append (written x) (written_all xs))) (alike_all ls (omega (arith, length-append (written x) (written_all xs))) f))

-- alone
pub alike-bytes : {x y : Node} → LikeNode x y → length (written x) ≤ tree_limit → AlikeFields (written x) (written y)
alike-bytes {x} {y} l h = subst₂ AlikeFields (append-nil (written x)) (append-nil (written y)) (alike-written l h AlikeFields.ended)
