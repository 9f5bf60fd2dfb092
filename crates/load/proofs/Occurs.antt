-- Every statement, expression and operator that a load may have occurs in the tree of seed 652.
use Rattle.std.proofs.Common.{◌≡◌, ℕ, Bool, true, false, eqb, List, [], ◌∷◌, get_or, refl}
use Rattle.definition.specs.Basic.{Bytes, pick, both}
use Rattle.definition.specs.Tag.{tag_expr_stmt, tag_block, tag_let, tag_return, tag_identifier, tag_prefix, tag_infix, tag_if, tag_function, tag_call, tag_integer, tag_boolean, tag_string, tag_array, tag_index, tag_hash, tag_operator}
use Rattle.definition.specs.Node
use Rattle.definition.specs.Node.{Node, leaf, node, Nodes, ◌then◌}
use Rattle.load.specs.Load.{program, expression}
use Rattle.load.specs.Size.{size}
use Rattle.load.proofs.Parts.{every}

mutual
  -- some field passes a test of its parent's tag, its own tag, and its bytes where it is a leaf
  pub some : (ℕ → ℕ → Bytes → Bool) → ℕ → Node → Bool
  some p above (leaf t c) = p above t c
  some p above (node t xs) = pick (p above t []) true (some_of p t xs)

  pub some_of : (ℕ → ℕ → Bytes → Bool) → ℕ → Nodes → Bool
  some_of p above Node.none = false
  some_of p above (x then xs) = pick (some p above x) true (some_of p above xs)

-- the tags of statements and expressions, but MacroLit
pub tags : List ℕ
tags =
    tag_expr_stmt ∷ tag_block ∷ tag_let ∷ tag_return ∷ tag_identifier ∷ tag_prefix ∷ tag_infix ∷ tag_if ∷ tag_function ∷ tag_call ∷ tag_integer ∷ tag_boolean ∷ tag_string ∷ tag_array ∷ tag_index ∷ tag_hash ∷ []

-- the operators, but Assign
pub operators : List ℕ
operators = 1 ∷ 2 ∷ 3 ∷ 4 ∷ 5 ∷ 6 ∷ 7 ∷ 8 ∷ 9 ∷ []

-- all of them, and a Block as a statement of a Block, occur in a tree
pub has_all : Node → Bool
has_all x =
    both (every (λ t. some (λ a u c. eqb t u) 0 x) tags)
    (both (every (λ o. some (λ a u c. both (eqb u tag_operator) (eqb (get_or c 0 0) o)) 0 x) operators) (some (λ a u c. both (eqb a tag_block) (eqb u tag_block)) 0 x))

pub all_occur : has_all (program 652).value ≡ true
unfolding has_all tags operators some expression size
all_occur = refl
