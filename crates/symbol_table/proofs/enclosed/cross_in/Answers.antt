-- `symbol_table::enclosed::cross_in` meets its contract.
use mathlib.Core.Logic.{inl, inr}
use native.Mathlib.Omega.{arith}
use Rattle.symbol_table.proofs.Crossing.{is_builtin, is_global, is_near, crosses_far, crosses_none, crosses_free}
use Rattle.symbol_table.proofs.enclosed.cross_in.Goals as goal

pub returns-in-Builtin : goal.returns-in-Builtin
returns-in-Builtin c =
    rw c.in_ok-found.was
    (crosses_far _ _ _ _
    (elim c.in-Builtin.is [
      | inl p ↦ is_builtin p.1 c.from.ensures
      | inr p ↦ is_global p.1 c.from.ensures
    ]))

pub returns-then-part-ge-CAPTURES : goal.returns-then-part-ge-CAPTURES
returns-then-part-ge-CAPTURES c = rw c.in_ok-found.was (crosses_none _ _ _ _ (is_near _ c.in_default.not-Builtin c.in_default.not-Global c.from.ensures) (omega arith))

pub returns : goal.returns
returns c =
    rw (c.in_ok-found.was, c.capture_in-code.ensures.value, c.capture_in-code.ensures.part_after)
    (crosses_free _ _ _ _ (is_near _ c.in_default.not-Builtin c.in_default.not-Global c.from.ensures) (omega arith) c.requires.sized c.args.label.within)
