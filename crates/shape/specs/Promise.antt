-- What a call of `write_shape` answers and leaves.
use Rattle.std.specs.Prelude.{ℕ, ◌≡◌, length, Err}
use Rattle.definition.specs.Answer.{Answer}
use Rattle.definition.specs.Basic.{Bytes}
use Rattle.definition.specs.Output.{output_answer, output_after}
use Rattle.definition.specs.Shape.{shape}
use Rattle.definition.specs.Syntax.{Stmts}
use Rattle.definition.specs.Tree.{Parsed, read_tree}

-- 3 or 4 as reading the tree says, then 15; else the length of the shape
abbrev pub answer_of : {A : Type 0} → Parsed A → Bytes → ℕ → Answer
answer_of (Parsed.parsed a n) tree room = output_answer (shape tree) room
answer_of (Parsed.refused r) tree room = Err r

-- the output afterwards: the shape at its front, or as it was
abbrev pub output_of : {A : Type 0} → Parsed A → Bytes → Bytes → Bytes
output_of (Parsed.parsed a n) tree out = output_after (shape tree) out
output_of (Parsed.refused r) tree out = out

-- a tree that is read
pub record IsRead (tree : Bytes) : Type 0 where
  pub stmts : Stmts
  pub end : ℕ
  pub reads : read_tree tree ≡ Parsed.parsed stmts end

-- what a caller may rely on
pub record WritesShape (tree before : Bytes) (r : Answer) (out : Bytes) : Type 0 where
  pub answer : r ≡ answer_of (read_tree tree) tree (length before)
  pub output : out ≡ output_of (read_tree tree) tree before
