-- Condition 1 of the exported call that writes a tree's shape: the shape, at the front of the output; or 3, 4 or 15 with its place in the
-- tree, the output as it was.
use Prim.Native.Nat.{ℕ}
use native.Mathlib.Omega.{arith}
use mathlib.Core.List.{[]}
use lib.ListN.{length}
use Rattle.definition.specs.Basic.{Bytes}
use Rattle.definition.specs.Number.{refusal, number_of, tree_numbers}
use Rattle.definition.specs.Shape.{shape}
use Rattle.definition.specs.Syntax.{Stmts}
use Rattle.definition.specs.Tree.{Parsed, read_tree}
use Rattle.definition.proofs.Numbers.{among}
use Rattle.definition.proofs.ReadPlaces.{PlacedParsed, read-places}
use Rattle.shape.specs.Promise.{answer_of, output_of}
use Rattle.shape.proofs.Within.{shape_numbers}
use Rattle.exported.specs.Shaped.{ShapesPacked}
use Rattle.promises.specs.Ends.{Ends, output}
use Rattle.promises.proofs.Endings.{EndsAs, packed_ends, kept, wrote, kept_as}

-- `monkey_write_shape`
pub ends_write_shape : {tree o o' : Bytes} {r : ℕ} → ShapesPacked tree o r o' → Ends shape_numbers (length tree) (output o o') [] r
ends_write_shape {tree} {o} k =
    packed_ends k.answer (kept_as shape_numbers tt (length tree) (answer_of (read_tree tree) tree (length o)) k.output (go (read_tree tree) (read-places tree (length tree) (λ _. omega arith))))
  where
    go : (p : Parsed Stmts) → PlacedParsed (length tree) p
        → EndsAs shape_numbers (length tree) (output o (output_of p tree o)) [] (answer_of p tree (length o))
    go (Parsed.parsed b n) h = wrote shape_numbers tt (length tree) tt (shape tree) o
    go (Parsed.refused _) (PlacedParsed.refused n p t h) =
        kept shape_numbers tt (length tree) (refusal n p) (among tree_numbers shape_numbers tt (number_of n) t) h
