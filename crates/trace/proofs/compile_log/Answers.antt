-- `compile_log` meets its contract: the call on the first parts, or a buffer that is too short.
use native.Mathlib.Omega.{arith}
use mathlib.Core.Path.{refl, sym}
use Rattle.definition.specs.Limit.{session_size, code_size}
use Rattle.compiler.specs.Stage.{lent_of, Long}
use Rattle.compiler.proofs.Lent.{back_whole, short_session, short_code, short_table}
use Rattle.trace.proofs.Tracing.{short_back}
use Rattle.trace.proofs.Widened.{whole_traces}
use Rattle.trace.proofs.compile_log.Goals as goal

pub returns-in_default : goal.returns-in_default
returns-in_default c =
    rw c.refused.ensures (short_back (short_session c.args.session.now c.args.code.now c.args.table.now (omega (arith, c.in_default.ensures.cases))) refl)

pub returns-in_default-first_chunk_mut : goal.returns-in_default-first_chunk_mut
returns-in_default-first_chunk_mut c =
    rw c.refused-in_default-first_chunk_mut.ensures (short_back (short_code c.args.session.now c.args.code.now c.args.table.now (omega (arith, c.in_default-first_chunk_mut.ensures.cases))) (sym (λ i. lent_of ((back_whole session_size c.args.session.now c.in-Some.ensures.cases.same) i) c.args.output.now c.args.code.now c.args.table.now)))

pub returns-in_default-first_chunk_mut-2 : goal.returns-in_default-first_chunk_mut-2
returns-in_default-first_chunk_mut-2 c =
    rw c.refused-in_default-first_chunk_mut-2.ensures (short_back (short_table c.args.session.now c.args.code.now c.args.table.now (omega (arith, c.in_default-first_chunk_mut-2.ensures.cases)))
    (sym (λ i. lent_of ((back_whole session_size c.args.session.now c.in-Some.ensures.cases.same) i) c.args.output.now ((back_whole code_size c.args.code.now c.in-Some-first_chunk_mut.ensures.cases.same) i) c.args.table.now)))

pub returns : goal.returns
returns c =
    let h : Long c.args.session.now c.args.code.now c.args.table.now =
    record {
      session = omega (arith, c.in-Some.ensures.cases.enough);
      code = omega (arith, c.in-Some-first_chunk_mut.ensures.cases.enough);
      table = omega (arith, c.in-Some-first_chunk_mut-2.ensures.cases.enough);
    } in
    whole_traces h (rw (c.in-Some.ensures.cases.same, c.in-Some-first_chunk_mut.ensures.cases.same, c.in-Some-first_chunk_mut-2.ensures.cases.same) at c.trace_in.ensures.traces) c.trace_in.ensures.sizes.0 c.trace_in.ensures.sizes.1

pub room_some-code : goal.room_some-code
room_some-code c = (c.in-Some-first_chunk_mut.is, refl)

pub room_some-table : goal.room_some-table
room_some-table c = (c.in-Some-first_chunk_mut-2.is, refl)

pub room_none-table : goal.room_none-table
room_none-table c = (c.in_default-first_chunk_mut-2.is, refl)
