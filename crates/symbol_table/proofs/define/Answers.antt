-- `symbol_table::define` meets its contract.
use Prim.Native.Nat.{◌-◌}
use native.Mathlib.Omega.{arith}
use Rattle.symbol_table.proofs.Keys.{is_name}
use Rattle.symbol_table.proofs.Resolving.{good-globals, good_here}
use Rattle.symbol_table.proofs.Defining.{defined_global, defined_local}
use Rattle.symbol_table.proofs.define.Goals as goal

pub place_global-requires : goal.place_global-requires
place_global-requires c = (c.requires.good.0, rw c.in-Some.ensures.cases.same (good-globals _ _ _ _ c.requires.good.1))

pub returns-then-level-eq0 : goal.returns-then-level-eq0
returns-then-level-eq0 c =
    let s = c in
    defined_global _ _ _ _ _ (is_name s.args.key) _ _ c.if-level-eq0.true
    (c.place_global.ensures.good s.requires.good.0 (rw c.in-Some.ensures.cases.same (good-globals _ _ _ _ s.requires.good.1))).size (rw c.in-Some.ensures.cases.same at c.place_global.ensures)

pub place_at-requires : goal.place_at-requires
place_at-requires c =
    let s = c in
    record {
      part_size_in_bounds = omega arith;
      sized = (good_here _ _ _ _ s.requires.good.1 (s.args.level - 1) (omega arith)).table.sized;
    }

pub returns : goal.returns
returns c = defined_local _ _ _ _ _ (is_name c.args.key) _ _ _ (omega arith) (rw (c.label.ensures.at, c.label.ensures.hash) at c.place_at.ensures)
