-- `bytecode::check_words` meets its contract: by the first byte, the fields, and whether a name is repeated.
use Rattle.field.proofs.First.{first_is}
use Rattle.bytecode.proofs.Words.{own_row, own_good, own_repeated}
use Rattle.bytecode.proofs.check_words.Goals as goal

pub distinct_names-requires : goal.distinct_names-requires
distinct_names-requires c =
    let e = c.whole.ensures in
    let n = c.new.ensures in
    rw (n.bytes, n.at, n.end) (own_row c.args.session.now (first_is _ _ _ c.first.ensures.value c.ne.ensures c.if-ne.false) (rw (e.bytes, e.start, e.end) at c.check_names.ensures) c.in_ok-words.was)

pub returns-then-distinct_names : goal.returns-then-distinct_names
returns-then-distinct_names c =
    let e = c.whole.ensures in
    let n = c.new.ensures in
    own_good c.args.session.now (first_is _ _ _ c.first.ensures.value c.ne.ensures c.if-ne.false) (rw (e.bytes, e.start, e.end) at c.check_names.ensures) c.in_ok-words.was (rw (n.bytes, n.at, n.end) at c.distinct_names.ensures) c.if-distinct_names.true

pub returns : goal.returns
returns c =
    let e = c.whole.ensures in
    let n = c.new.ensures in
    own_repeated c.args.session.now (first_is _ _ _ c.first.ensures.value c.ne.ensures c.if-ne.false) (rw (e.bytes, e.start, e.end) at c.check_names.ensures) c.in_ok-words.was (rw (n.bytes, n.at, n.end) at c.distinct_names.ensures) c.if-distinct_names.false
