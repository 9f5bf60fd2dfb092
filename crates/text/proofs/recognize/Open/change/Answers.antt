-- `change` meets its contract, by the change.
use native.Mathlib.Omega.{arith}
use mathlib.Core.List.{◌∷◌}
use mathlib.Core.Path.{sym, ap, ◌∙◌}
use Rattle.text.specs.Steps.{context_of, stack_of}
use Rattle.text.proofs.Stacks.{split, pushed}
use Rattle.text.proofs.recognize.Open.change.Goals as goal

pub returns-in-Keep-clause-is : goal.returns-in-Keep-clause-is
returns-in-Keep-clause-is c =
    let a = c.args.self.now in
    rw c.in-Keep.is (sym (split a.contexts a.height))

pub returns-in-Push-clause-is : goal.returns-in-Push-clause-is
returns-in-Push-clause-is c =
    let a = c.args.self.now in
    rw c.in-Push.is (pushed a.contexts a.height c.in-Push.context (omega (arith, c.requires, a.full)) ∙ ap (λ s. context_of c.in-Push.context ∷ s) (sym (split a.contexts a.height)))

pub returns-in-Swap-clause-is : goal.returns-in-Swap-clause-is
returns-in-Swap-clause-is c =
    let a = c.args.self.now in
    rw c.in-Swap.is (pushed a.contexts c.saturating_sub-below.result c.in-Swap.context (omega (arith, c.requires, c.saturating_sub-below.ensures, a.full)) ∙ ap (λ h. context_of c.in-Swap.context ∷ stack_of a.contexts h) c.saturating_sub-below.ensures)
