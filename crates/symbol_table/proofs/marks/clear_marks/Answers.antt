-- `symbol_table::marks::clear_marks` meets its contract: what stands before the marks is as it was.
use Prim.Native.Nat.{◌<◌}
use mathlib.Core.Path.{◌≡◌, ◌∙◌}
use native.Mathlib.Omega.{arith}
use lib.ListN.{length, take, get_or-append}
use lib.Seq.{get_or-take, length-take-le}
use Rattle.symbol_table.specs.Layout.{marks_at}
use Rattle.symbol_table.proofs.marks.clear_marks.Goals as goal

pub returns : goal.returns
returns c = λ j h.
    let l : length (take marks_at c.args.part.now) ≡ marks_at = length-take-le marks_at c.args.part.now (omega arith) in
    let b : j < length (take marks_at c.args.part.now) = omega arith in
    let i : j < marks_at = h in
    get_or-append (take marks_at c.args.part.now) _ 0 j b ∙ rw get_or-take
