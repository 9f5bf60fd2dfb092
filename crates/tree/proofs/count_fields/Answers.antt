-- `tree::count_fields` meets its contract: going over the fields passes each once.
use Rattle.std.proofs.Common.{refl, length}
use Rattle.field.proofs.EachField.{begins_there, over_new}
use Rattle.tree.proofs.Rows.{drained, in_row, counted}
use Rattle.tree.proofs.count_fields.Goals as goal

pub count-requires-clause-can : goal.count-requires-clause-can
count-requires-clause-can c = in_row c.requires

pub returns : goal.returns
returns c =
    let r = c.count.ensures.ran in
    rw r.2 (counted (length r.0) (record { fields = drained r.0 (over_new refl (begins_there c.args.fields)) r.1 }))
