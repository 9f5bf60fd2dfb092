-- `step` meets its contract: by its tests, in the order of the pass.
use mathlib.Core.Path.{refl, sym, ◌∙◌}
use Rattle.heights.proofs.Lent.{keeps_on}
use Rattle.heights.proofs.Steps.{stepped_unfree, stepped_unleapt, stepped-on}
use Rattle.heights.proofs.chunk.Marks.step.Goals as goal

pub returns-then-not-free : goal.returns-then-not-free
returns-then-not-free c =
    record {
      steps = stepped_unfree c.requires c.args.offered (sym c.if-not-fits.false ∙ c.fits.ensures) _ (sym c.if-not-free.true ∙ c.free.ensures);
      lent = record { levels = refl; code = refl; same = refl };
    }

pub returns : goal.returns
returns c =
    let leap = c.leap.ensures in
    let fall = c.fall.ensures in
    record {
      steps = stepped-on c.requires c.args.offered (sym c.if-not-fits.false ∙ c.fits.ensures) (sym c.if-not-free.false ∙ c.free.ensures) c.behind-after.ensures (rw c.leaps.ensures at leap.answers) c.if-not-leap.false (rw c.leaps.ensures at leap.stores) leap.lent.levels _ (rw c.falls.ensures at fall.answers) (rw c.falls.ensures at fall.stores);
      lent = keeps_on leap.lent fall.lent;
    }

pub returns-then-not-leap-clause-steps : goal.returns-then-not-leap-clause-steps
returns-then-not-leap-clause-steps c =
    stepped_unleapt c.requires c.args.offered (sym c.if-not-fits.false ∙ c.fits.ensures) (sym c.if-not-free.false ∙ c.free.ensures) c.behind-after.ensures (rw c.leaps.ensures at c.leap.ensures.answers) _ c.if-not-leap.true
