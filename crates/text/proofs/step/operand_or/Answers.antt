-- `operand_or` meets its contract, by its test.
use mathlib.Core.Bool.{Bool, true, false}
use mathlib.Core.Path.{◌≡◌, sym, ap, ◌∙◌}
use borrow.Author.Rules.{rules}
use Rattle.std.specs.Prelude.{Option, None, Some, MatchOption}
use Rattle.definition.specs.Basic.{pick}
use Rattle.text.specs.Kind.{number_of}
use Rattle.text.specs.Machine.{Stack, Step, stuck, operand_step}
use Rattle.text.specs.Steps.{under, applied}
use Rattle.text.specs.declared.step.Context.{Context}
use Rattle.text.specs.declared.step.Mode.{Mode}
use Rattle.text.specs.declared.step.Mode.TheVariants.{After}
use Rattle.text.specs.declared.step.Change.TheVariants.{Pop}
use Rattle.text.specs.declared.step.Change.{Change}
use Rattle.text.proofs.step.operand_or.Goals as goal

-- one kind of token with its step, or else another step
step_or : (b : Bool) (top : Option Context) (s : Stack) (r q : Option (Mode × Change)) (x : Mode × Change) (y : Step) → pick b (applied top s (Some x)) stuck ≡ applied top s r → MatchOption r (y ≡ applied top s q) (λ z. q ≡ Some z) → pick b (applied top s (Some x)) y ≡ applied top s q
step_or true top s None q x y e m = cc
step_or true top s (Some z) q x y e m = e ∙ ap (applied top s) (sym m)
step_or false top s None q x y e m = m
step_or false top s (Some z) q x y e m = cc

pub returns : goal.returns
returns c = λ top s. step_or _ top s c.only.result c.or_else.result (After, Pop) (operand_step (under top s) (number_of c.args.k)) (c.only.ensures top s) (search rules)
