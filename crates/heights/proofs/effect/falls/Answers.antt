-- `heights::effect::falls` meets its contract: by its byte.
use Rattle.std.proofs.Common.{arith, rules, ap, sym, ◌∙◌}
use Rattle.definition.specs.Effect.{flow_of, falls as follows}
use Rattle.definition.specs.Opcode.{plain}
use Rattle.heights.proofs.Tables.{falls_yes}
use mathlib.Core.Bool.{not}
use Rattle.heights.proofs.effect.falls.Goals.{in_default, in_default-2, in-14, in-14-2}
use Rattle.heights.proofs.effect.falls.Goals as goal

pub returns : goal.returns
returns c =
    elim c.match-matches.branch [
      | in_default w ↦ ap not w.matches-is ∙ falls_yes c.args.op (λ e. omega arith) (λ e. omega arith) (λ e. omega arith)
      | in_default-2 w ↦ ap not w.matches-is ∙ falls_yes c.args.op (λ e. omega arith) (λ e. omega arith) (λ e. omega arith)
      | in-14 w ↦ ap not w.matches-is ∙ ap (λ o. follows (flow_of (plain o))) (sym w.in-14.is)
      | in-14-2 w ↦ ap not w.matches-is ∙ (search rules)
    ]
