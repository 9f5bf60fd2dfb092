-- The measure is the number of open functions.
use Rattle.std.proofs.Common.{◌≡◌, suc, ◌-◌, arith, sym, ap, ◌∙◌}
use lib.Seq.{length-take-le}
use Rattle.symbol_table.specs.Layout.{base}
use Rattle.symbol_table.specs.Contract.{hit_of}
use Rattle.symbol_table.proofs.Asking.{outside_standing, opened_standing}
use Rattle.symbol_table.proofs.Keys.{is_name}
use Rattle.symbol_table.proofs.Resolving.{good_here, good_around, part-after, resolved_outermost, few_outer, good_kept, known_around, found_here, found_around}
use Rattle.symbol_table.proofs.query.Query.+resolve.Goals as goal

pub resolve_outermost-requires-clause-outside : goal.resolve_outermost-requires-clause-outside
resolve_outermost-requires-clause-outside t c = outside_standing _ c.requires.standing

pub returns-then-level-eq0 : goal.returns-then-level-eq0
returns-then-level-eq0 t c = resolved_outermost _ _ _ _ _ _ c.requires.standing.good _ c.if-level-eq0.true c.resolve_outermost.ensures.crossed c.resolve_outermost.ensures.resolved

pub known_for-outside-requires-clause-opened : goal.known_for-outside-requires-clause-opened
known_for-outside-requires-clause-opened t c = opened_standing _ c.requires.standing (omega arith)

pub look_at-requires-clause-opened : goal.look_at-requires-clause-opened
look_at-requires-clause-opened t c = opened_standing _ c.requires.standing (omega arith)

pub returns-in-Some : goal.returns-in-Some
returns-in-Some t c =
    let look = c.look_at.ensures in
    found_here _ _ _ _ _ c.requires.standing.good (c.args.level - 1) (omega arith) look.inside _ _ _ (ap hit_of (sym c.in-Some.is) ∙ look.entry)

pub resolve-outer-requires : goal.resolve-outer-requires
resolve-outer-requires t c =
    let p = c.requires.standing in
    let l = c.args.level - 1 in
    let e : c.args.level ≡ suc l = omega arith in
    let look = c.look_at in
    let a₁ = look.new.table in
    let good = good_kept _ _ _ _ _ p.good l e look.ensures.inside in
    (omega arith, (record { words = p.words; size = omega (arith, p.size, length-take-le (base l) a₁ (omega (arith, p.size, look.auto.table))); good = good_around _ _ _ _ good l e }, record { code = known_around _ _ _ _ _ p.good l e look.ensures.inside _ _ c.known_for-outside.ensures.code; far = c.known_for-outside.ensures.far }))

pub cross_at-requires-clause-sized : goal.cross_at-requires-clause-sized
cross_at-requires-clause-sized t c =
    let l = c.args.level - 1 in
    let p = c.requires.standing in
    let e : c.args.level ≡ suc l = omega arith in
    let look = c.look_at in
    let a₁ = look.new.table in
    let good = good_kept _ _ _ _ _ p.good l e look.ensures.inside in
    rw (part-after a₁ l _ (c.resolve-outer.auto.table ∙ length-take-le (base l) a₁ (omega (arith, p.size, look.auto.table)))) (good_here _ _ _ _ good l e).table.sized

pub cross_at-requires-clause-few : goal.cross_at-requires-clause-few
cross_at-requires-clause-few t c = few_outer (c.args.level - 1) _ c.resolve-outer.ensures (omega arith)

pub returns : goal.returns
returns t c =
    let l = c.args.level - 1 in
    let p = c.requires.standing in
    let e : c.args.level ≡ suc l = omega arith in
    let look = c.look_at in
    let a₁ = look.new.table in
    found_around _ _ _ a₁ _ p.good l e look.ensures.inside _ _ _ _ _ _ _ (c.resolve-outer.auto.table ∙ length-take-le (base l) a₁ (omega (arith, p.size, look.auto.table))) (is_name c.args.self.now.key)
    (ap hit_of (sym c.in_default.is) ∙ look.ensures.entry)
    c.resolve-outer.ensures
    (rw (c.label.ensures.at, c.label.ensures.hash) at c.cross_at.ensures)
