-- `heights::chunk::Marks::free` meets its contract: the operands are all tested.
use Rattle.std.proofs.Common.{◌≡◌, ◌+◌, rules, tests}
use Rattle.std.proofs.lemmas.Iterator.{cases_from_all, YieldsList-from_slice}
use Rattle.std.specs.Prelude.{slice_range}
use Rattle.heights.proofs.Laws.{free_all}
use Rattle.heights.proofs.chunk.Marks.free.Goals as goal

pub returns : goal.returns
returns c =
    let a = c.args in
    let part = slice_range a.self.now.levels.now (a.at + 1) (a.at + 1 + a.width) in
    let m = cases_from_all _ _ c.all.result (λ x. x ≡ 0) (λ x. x ≡ 0 → ⊥) c.all.ensures.ran (YieldsList-from_slice part cc) (λ x q k. search (rules, tests)) (λ x q k. search (rules, tests)) in
    free_all a.self.now.levels.now a.at a.width c.requires c.all.result m
