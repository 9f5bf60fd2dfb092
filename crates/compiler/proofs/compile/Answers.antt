-- `compile` keeps its promise, whatever it is lent. Assumes nothing.
use native.Mathlib.Omega.{arith}
use mathlib.Core.Path.{refl}
use Rattle.definition.specs.Limit.{session_size, code_size}
use Rattle.compiler.specs.Stage.{lent_of}
use Rattle.compiler.proofs.Lent.{front_bytes, back_whole, passes_long, short_session, short_code, short_table, lent-whole, promise_kept, promise_short}
use Rattle.compiler.proofs.compile.Goals as goal

pub returns-in_default : goal.returns-in_default
returns-in_default c =
    let l = lent_of c.args.session.now c.args.output.now c.args.code.now c.args.table.now in
    rw c.refused.ensures (promise_short c.args.tree.now l (short_session c.args.session.now c.args.code.now c.args.table.now (omega (arith, c.in_default.ensures.cases))) refl)

pub returns-in_default-first_chunk_mut : goal.returns-in_default-first_chunk_mut
returns-in_default-first_chunk_mut c =
    let l = lent_of c.args.session.now c.args.output.now c.args.code.now c.args.table.now in
    rw c.refused-in_default-first_chunk_mut.ensures (promise_short c.args.tree.now l (short_code c.args.session.now c.args.code.now c.args.table.now (omega (arith, c.in_default-first_chunk_mut.ensures.cases))) (λ i. lent_of ((back_whole session_size c.args.session.now c.in-Some.ensures.cases.same) i) c.args.output.now c.args.code.now c.args.table.now))

pub returns-in_default-first_chunk_mut-2 : goal.returns-in_default-first_chunk_mut-2
returns-in_default-first_chunk_mut-2 c =
    let l = lent_of c.args.session.now c.args.output.now c.args.code.now c.args.table.now in
    rw c.refused-in_default-first_chunk_mut-2.ensures (promise_short c.args.tree.now l (short_table c.args.session.now c.args.code.now c.args.table.now (omega (arith, c.in_default-first_chunk_mut-2.ensures.cases)))
    (λ i. lent_of ((back_whole session_size c.args.session.now c.in-Some.ensures.cases.same) i) c.args.output.now ((back_whole code_size c.args.code.now c.in-Some-first_chunk_mut.ensures.cases.same) i) c.args.table.now))

pub returns : goal.returns
returns c =
    let l = lent_of c.args.session.now c.args.output.now c.args.code.now c.args.table.now in
    let same = rw c.in-Some.ensures.cases.same at c.compile_lent.ensures.result in
    promise_kept c.args.tree.now l (passes_long c.args.session.now c.args.code.now c.args.table.now (omega (arith, c.in-Some.ensures.cases.enough)) (omega (arith, c.in-Some-first_chunk_mut.ensures.cases.enough)) (omega (arith, c.in-Some-first_chunk_mut-2.ensures.cases.enough)))
    (front_bytes c.args.session.now session_size (λ i. omega (arith, c.slice_known-1.given i)))
    (lent-whole c.args.tree.now l same c.compile_lent.ensures.code c.compile_lent.ensures.table)

pub room_some-code : goal.room_some-code
room_some-code c = (c.in-Some-first_chunk_mut.is, refl)

pub room_some-table : goal.room_some-table
room_some-table c = (c.in-Some-first_chunk_mut-2.is, refl)

pub room_none-table : goal.room_none-table
room_none-table c = (c.in_default-first_chunk_mut-2.is, refl)
