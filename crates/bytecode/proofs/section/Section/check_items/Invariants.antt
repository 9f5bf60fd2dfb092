-- `bytecode::section::Section::check_items` meets its contract: one item a turn.
use Prim.Native.Nat.{◌-◌}
use Rattle.bytecode.proofs.Counted.{Loop}
use Rattle.bytecode.proofs.Answered.{Answered}
use Rattle.bytecode.proofs.section.Section.check_items.Given as goal

abbrev pub invariant-loop-at : goal.invariant-loop-at
invariant-loop-at g l = Loop (Answered l.self (goal.F-post g l.check)) l.self.span.end l.most l.self.span.start l.at l.count

abbrev pub decreases-loop-at : goal.decreases-loop-at
decreases-loop-at g l = l.self.span.end - l.at
