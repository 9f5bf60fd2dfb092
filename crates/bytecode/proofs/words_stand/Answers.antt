-- `bytecode::words_stand` meets its contract: the fields, and whether a name is repeated.
use Rattle.bytecode.proofs.Words.{handed-row, handed_tested}
use Rattle.bytecode.proofs.words_stand.Goals as goal

pub distinct_names-requires : goal.distinct_names-requires
distinct_names-requires c =
    let e = c.whole.ensures in
    let n = c.new.ensures in
    rw (n.bytes, n.at, n.end) (handed-row c.args.names.now (rw (e.bytes, e.start, e.end) at c.check_name_fields.ensures) c.in-Ok.is)

pub returns-in-Ok : goal.returns-in-Ok
returns-in-Ok c =
    let e = c.whole.ensures in
    let n = c.new.ensures in
    handed_tested c.args.names.now (rw (e.bytes, e.start, e.end) at c.check_name_fields.ensures) c.in-Ok.is (rw (n.bytes, n.at, n.end) at c.distinct_names.ensures)
