-- The bounds of what `write_shape` answers: its numbers are 3, 4 and 15, and length and place are within a tree's.
use Rattle.std.proofs.Common.{ℕ, ◌≡◌, ◌≤◌, Bool, true, false, leb, leb-true, List, [], ◌∷◌, ◌++◌, length, refl, arith}
use Rattle.definition.specs.Basic.{Bytes}
use Rattle.definition.specs.Limit.{tree_limit}
use Rattle.definition.specs.Number.{refusal, output_short, numbers_of, number_of, tree_numbers}
use Rattle.definition.specs.Shape.{shape}
use Rattle.definition.specs.Syntax.{Stmts}
use Rattle.definition.specs.Tree.{Parsed, read_program, read_tree}
use Rattle.definition.proofs.Basic.{chosen}
use Rattle.definition.proofs.Numbers.{among}
use Rattle.definition.proofs.Places.{Within, nowhere}
use Rattle.definition.proofs.ReadPlaces.{PlacedParsed, read-places}
use Rattle.definition.proofs.ReadShape.{length-shape}
use Rattle.shape.specs.Promise.{answer_of}

-- a tree that is read is not too long
pub read_small : (tree : Bytes) {b : Stmts} {n : ℕ} → read_tree tree ≡ Parsed.parsed b n → length tree ≤ tree_limit
unfolding read_tree read_program
read_small tree {b} {n = m} h = go (leb (length tree) tree_limit) refl
  where
    go : (c : Bool) → leb (length tree) tree_limit ≡ c → length tree ≤ tree_limit
    go true e = leb-true _ _ e
    go false e = let z : ◌≡◌ {A = ℕ} 0 1 = cc in absurd (omega arith)

-- the numbers of `write_shape`
abbrev pub shape_numbers : List ℕ
shape_numbers = tree_numbers ++ numbers_of (output_short ∷ [])

pub shape_within : (tree : Bytes) (room : ℕ) → Within tree_limit shape_numbers tree_limit (answer_of (read_tree tree) tree room)
shape_within tree room = go (read-places tree tree_limit (λ h. h)) refl
  where
    go : {o : Parsed Stmts} → PlacedParsed tree_limit o → read_tree tree ≡ o
        → Within tree_limit shape_numbers tree_limit (answer_of o tree room)
    go (PlacedParsed.parsed p) e =
        chosen (Within tree_limit shape_numbers tree_limit) (leb (length (shape tree)) room) (λ _. Within.wrote (omega (arith, length-shape tree, read_small tree e))) (λ _. nowhere tt)
    go (PlacedParsed.refused n p h k) e =
        Within.refused {r = refusal n p} (record { number = among tree_numbers shape_numbers tt (number_of n) h; place = k })
