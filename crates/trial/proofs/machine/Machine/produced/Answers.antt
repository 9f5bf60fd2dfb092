-- `trial::machine::Machine::produced` meets its contract: by its byte.
use Rattle.std.proofs.Common.{sym, ap, ◌∙◌, arith}
use Rattle.trial.specs.Value.{combined}
use Rattle.trial.specs.Run.{below}
use Rattle.trial.specs.Machine.{product}
use Rattle.trial.proofs.Memory.{below_kept}
use Rattle.trial.proofs.Producing.{known, operator, infix_left, infix_two, infix_action}
use Rattle.trial.proofs.machine.Machine.produced.Goals as goal

pub returns-in_default : goal.returns-in_default
returns-in_default c = λ cs st g p q s.
    let i = c.args.i in
    let o = operator c.requires.1 (λ e. omega arith) (λ e. omega arith) (λ e. omega arith) (λ e. omega arith) (λ e. omega arith) in
    let x = infix_left o (λ e. omega arith) (λ e. omega arith) in
    let t = (known c.requires.1).takes_is i.operand i.captures in
    let a = c.top_without.ensures (below st) (below_kept s (omega (arith, t, infix_two x.1, c.requires.0.enough))) in
    let b = c.top-in_default.ensures st s in
    c.combine.ensures x.0 x.1 ∙ (λ j. combined x.0 (a j) (b j)) ∙ sym (ap (product cs i.operand st g) (infix_action x.1))
