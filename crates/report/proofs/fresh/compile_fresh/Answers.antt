-- `compile_fresh` meets its contract: making the session is not refused, and the call is the definition's in it.
use Rattle.std.proofs.Common.{ap, ◌∙◌, replicate}
use Rattle.definition.specs.Limit.{code_size, table_size}
use Rattle.definition.specs.Call.{call, Lent}
use Rattle.compiler.specs.Stage.{lent_of}
use Rattle.report.proofs.fresh.compile_fresh.Goals as goal

pub returns-clause-answer : goal.returns-clause-answer
returns-clause-answer c =
    c.compile.ensures.answer ∙ ap (λ s. (call c.args.tree.now (lent_of s c.args.output.now (replicate code_size 0) (replicate table_size 0))).answer) c.make_session.ensures.session

pub returns-clause-output : goal.returns-clause-output
returns-clause-output c =
    ap (λ (l : Lent). l.output) c.compile.ensures.lent
    ∙ ap (λ s. (call c.args.tree.now (lent_of s c.args.output.now (replicate code_size 0) (replicate table_size 0))).lent.output) c.make_session.ensures.session
