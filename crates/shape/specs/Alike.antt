-- Trees that are alike: equal except in integer values, true for false, and string bytes of unchanged length.
use Rattle.std.specs.Prelude.{ℕ, ◌+◌, ◌*◌, true, false, [], ◌∷◌, ◌++◌, ◌≡◌, length}
use Rattle.definition.specs.Basic.{Bytes}
use Rattle.tree.specs.Grammar.{is_leaf}
use Rattle.shape.specs.Fields.{is_literal}

-- field by field, from the front: a tag, a length in two bytes, and the content
pub data AlikeFields : Bytes → Bytes → Type 0 where
  ended : AlikeFields [] []
  -- of a field with children the head is the same; its children are the next fields
  inside : {b c : Bytes} (t h l : ℕ) → is_leaf t ≡ false → AlikeFields b c → AlikeFields (t ∷ h ∷ l ∷ b) (t ∷ h ∷ l ∷ c)
  -- of a name or an operator the content too
  kept : {b c : Bytes} (t h l : ℕ) (x : Bytes) → is_leaf t ≡ true → is_literal t ≡ false → length x ≡ h * 256 + l → AlikeFields b c
      → AlikeFields (t ∷ h ∷ l ∷ (x ++ b)) (t ∷ h ∷ l ∷ (x ++ c))
  -- of an integer, a boolean or a string the content may differ, and is as long
  literal : {b c : Bytes} (t h l : ℕ) (x y : Bytes) → is_literal t ≡ true → length x ≡ h * 256 + l → length y ≡ h * 256 + l
      → AlikeFields b c → AlikeFields (t ∷ h ∷ l ∷ (x ++ b)) (t ∷ h ∷ l ∷ (y ++ c))
