-- `trial::machine::Machine::top_without` meets its contract: the value that is kept there.
use Rattle.std.proofs.Common.{get_or, ap, ◌∙◌, arith}
use Rattle.std.specs.Prelude.{Some as some, unwrap_or}
use Rattle.trial.specs.Value.{null}
use Rattle.trial.specs.Run.{top}
use Rattle.trial.proofs.Memory.{keeps_as, top_kept}
use Rattle.trial.proofs.machine.Machine.top_without.Goals as goal

pub returns : goal.returns
returns c = λ st s.
    let w = c.args.self.now.work.now in
    let k = c.kept.ensures (some (top st)) (keeps_as (ap (λ k. get_or w k 0) (omega arith)) (ap (λ k. get_or w k 0) (omega arith)) (top_kept s (omega (arith, c.requires.0)))) in
    c.unwrap_or.ensures ∙ ap (λ o. unwrap_or o null) k
