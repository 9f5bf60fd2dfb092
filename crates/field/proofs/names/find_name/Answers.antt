-- `field::names::find_name` meets its contract: what `position` stopped at has the name, and none before it.
use Rattle.std.proofs.Common.{rules, refl}
use Rattle.field.proofs.EachField.{row_fields, callable_whole}
use Rattle.field.proofs.Found.{is_found}
use Rattle.field.proofs.names.find_name.Goals as goal

pub position-requires-clause-can : goal.position-requires-clause-can
position-requires-clause-can c = row_fields c.requires

pub position-requires-clause-callable : goal.position-requires-clause-callable
position-requires-clause-callable c = callable_whole (λ p x q k. search rules) (λ x w. search rules)

pub returns : goal.returns
returns c = is_found c.args.name.now (λ x t q k. search rules) c.position.result (record { bytes = refl; stops = refl }) refl c.position.ensures.ran
