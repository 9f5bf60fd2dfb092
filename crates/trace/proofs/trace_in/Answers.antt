-- `trace_in` meets its contract: too few records, refused, or accepted and logged.
use lib.ListN.{take}
use mathlib.Core.Path.{refl, ◌∙◌}
use borrow.Author.Rules.{rules}
use Rattle.definition.specs.Limit.{session_size, code_size, table_size}
use Rattle.definition.specs.Valid.{AreBytes}
use Rattle.trace.specs.Promise.{LooksAhead, HasOlder, Used}
use Rattle.trace.proofs.Tracing.{take_all, cleared_all, all_long, all_used, few_traces, used_long, used_traces, refused_traces, accepted_good, accepted_has, accepted_traces}
use Rattle.trace.proofs.trace_in.Goals as goal

pub returns-then-room-ahead-clause-traces : goal.returns-then-room-ahead-clause-traces
returns-then-room-ahead-clause-traces c =
    let u = c.look_ahead-ahead in
    let whole = take_all c.args.session.now c.told-session in
    let ahead : LooksAhead c.args.tree.now (take session_size c.args.session.now) u.result = rw whole u.ensures in
    let uc : Used code_size c.args.code.now u.new.code = all_used c.told-code (search rules) in
    let ut : Used table_size c.args.table.now u.new.table = all_used c.told-table (search rules) in
    let first = all_long c.told-session c.told-code c.told-table in
    let long = used_long first uc ut in
    let x = c.compile-answer in
    used_traces first uc ut (few_traces long x.ensures x.auto.output c.few.ensures _ ahead _ c.if-room-ahead.true)

pub log_names-count-requires : goal.log_names-count-requires
log_names-count-requires c =
    let u = c.look_ahead-ahead in
    let whole = take_all c.args.session.now c.told-session in
    let ahead : LooksAhead c.args.tree.now (take session_size c.args.session.now) u.result = rw whole u.ensures in
    let uc : Used code_size c.args.code.now u.new.code = all_used c.told-code (search rules) in
    let ut : Used table_size c.args.table.now u.new.table = all_used c.told-table (search rules) in
    let first = all_long c.told-session c.told-code c.told-table in
    let long = used_long first uc ut in
    let bytes : AreBytes (take session_size c.args.session.now) = rw whole (record { below = c.fits-session }) in
    let after = take_all c.compile.new.session (c.compile.auto.session ∙ c.told-session) in
    let older : HasOlder (take session_size c.compile.new.session) c.look_ahead-ahead.result.names = accepted_has long c.compile.ensures c.in_ok-length.was bytes _ ahead refl in
    record {
      has_older = rw after at older;
      tree_value = accepted_good long c.compile.ensures c.in_ok-length.was bytes;
    }

pub returns-in_err-length-clause-traces : goal.returns-in_err-length-clause-traces
returns-in_err-length-clause-traces c =
    let u = c.look_ahead-ahead in
    let whole = take_all c.args.session.now c.told-session in
    let ahead : LooksAhead c.args.tree.now (take session_size c.args.session.now) u.result = rw whole u.ensures in
    let uc : Used code_size c.args.code.now u.new.code = all_used c.told-code (search rules) in
    let ut : Used table_size c.args.table.now u.new.table = all_used c.told-table (search rules) in
    let first = all_long c.told-session c.told-code c.told-table in
    let long = used_long first uc ut in
    used_traces first uc ut (refused_traces long c.compile.ensures c.in_err-length.was c.from_residual.ensures.1 _ ahead _ c.if-room-ahead.false)

pub returns-clause-traces : goal.returns-clause-traces
returns-clause-traces c =
    let u = c.look_ahead-ahead in
    let whole = take_all c.args.session.now c.told-session in
    let ahead : LooksAhead c.args.tree.now (take session_size c.args.session.now) u.result = rw whole u.ensures in
    let uc : Used code_size c.args.code.now u.new.code = all_used c.told-code (search rules) in
    let ut : Used table_size c.args.table.now u.new.table = all_used c.told-table (search rules) in
    let first = all_long c.told-session c.told-code c.told-table in
    let long = used_long first uc ut in
    let bytes : AreBytes (take session_size c.args.session.now) = rw whole (record { below = c.fits-session }) in
    let after = take_all c.compile.new.session (c.compile.auto.session ∙ c.told-session) in
    let l = c.log_names-count in
    let code : Used code_size c.compile.new.code l.new.code = all_used (c.compile.auto.code ∙ uc.size ∙ c.told-code) (search rules) in
    let table : Used table_size c.compile.new.table l.new.table = all_used (c.compile.auto.table ∙ ut.size ∙ c.told-table) (search rules) in
    used_traces first uc ut
    (accepted_traces long c.compile.ensures c.in_ok-length.was bytes _ ahead refl (rw after l.ensures) code table (cleared_all _ (table.size ∙ c.compile.auto.table ∙ ut.size ∙ c.told-table) (c.fill.ensures.after (λ y e. e))) _ ahead _ c.if-room-ahead.false)
