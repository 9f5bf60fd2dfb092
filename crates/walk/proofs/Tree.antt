-- A whole tree.
use Prim.Native.Nat.{ℕ, ◌≤◌}
use mathlib.Core.Path.{◌≡◌, refl}
use lib.ListN.{length}
use lib.Dec.{leb}
use borrow.Author.Tests.{leb-true}
use Rattle.definition.specs.Basic.{Bytes, byte_at}
use Rattle.definition.specs.Limit.{tree_limit}
use Rattle.definition.specs.Syntax.{Stmts}
use Rattle.definition.specs.Tree.{Read, read_program, read_tree}
use Rattle.definition.specs.Walk.{walk_stmts}
use Rattle.definition.proofs.Gives.{Gives, right, wrong, gives-pick, gives-map, judged-gives}
use Rattle.scope.specs.Machine.{machine}
use Rattle.scope.specs.Walked.{Walked}
use Rattle.step.specs.Memory.{Rest, Walks}
use Rattle.tree.specs.Reads.{Some, ReadsStmts}
use Rattle.tree.proofs.Stands.{tree_stands}
use Rattle.walk.specs.Parts.{ReadsTree}
use Rattle.walk.proofs.Sequence.{walks_as}

-- a tree that was read is short enough
short : (tree : Bytes) → Gives (λ _ _. length tree ≤ tree_limit) (read_program (byte_at tree) (length tree))
unfolding read_program
short tree = gives-pick (leb (length tree) tree_limit) (λ t. gives-map (λ _ _ _. leb-true _ _ t) (any _)) (λ _. wrong)
  where
    any : (x : Read Stmts) → Gives (λ _ _. Unit {0}) x
    any (Read.ok a n d l) = right tt
    any (Read.wrong p d l) = wrong

pub tree_short : {tree : Bytes} → Some (ReadsTree tree) → length tree ≤ tree_limit
unfolding read_tree
tree_short {tree} (b, i) = judged-gives b i.end (short tree) i.reads

module _ {tree : Bytes} {end : ℕ} where
  -- its statements stand there
  pub tree_inside : end ≡ length tree → Some (ReadsTree tree) → Some (ReadsStmts tree 3 end)
  tree_inside q (b, i) = (b, rw q (tree_stands tree b i.end i.reads))

  -- their walk is its walk
  pub tree_walks : {c c₁ : Bytes} {m m₁ : Rest} {w r : Walked} → end ≡ length tree → Walks tree (ReadsStmts tree 3 end) (walk_stmts machine) c c₁ m m₁ w r → Walks tree (ReadsTree tree) (walk_stmts machine) c c₁ m m₁ w r
  tree_walks q = walks_as (λ b i. (b, rw q (tree_stands tree b i.end i.reads), refl))
