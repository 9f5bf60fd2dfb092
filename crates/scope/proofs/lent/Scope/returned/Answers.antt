-- The three ends of a function's chunk.
use mathlib.Core.Path.{refl, ap, ◌∙◌}
use Rattle.std.specs.Prelude.{Some}
use Rattle.scope.proofs.Leaves.{other_byte, return_pop, return-value, return_more}
use Rattle.scope.proofs.lent.Scope.returned.Goals as goal
use Rattle.scope.proofs.lent.Scope.returned.Goals.{in_default-via-in-Some+in_default, in_default-via-in_default}

pub returns-in-Some-eq2 : goal.returns-in-Some-eq2
returns-in-Some-eq2 c = let s = c.args.self.now in record { done = return_pop s.area s.fits c.args.place c.last.ensures (c.in-Some-eq2.is ∙ ap Some c.in-Some-eq2.field-0-test); same = refl }

pub returns-in-Some-eq22 : goal.returns-in-Some-eq22
returns-in-Some-eq22 c = let s = c.args.self.now in record { done = return-value s.area s.fits c.args.place c.last.ensures (c.in-Some-eq22.is ∙ ap Some c.in-Some-eq22.field-0-test); same = refl }

pub returns-in_default : goal.returns-in_default
returns-in_default c =
    let s = c.args.self.now in
    elim c.in_default.branch [
      | in_default-via-in-Some+in_default w ↦ let t = w.in_default.field-0-test in record { done = return_more s.area s.fits c.args.place c.last.ensures (other_byte {x = c.last.result} t.0.1 search) (other_byte {x = c.last.result} t.1 search) c.emit.ensures.done; same = c.emit.ensures.same }
      | in_default-via-in_default w ↦ record { done = return_more s.area s.fits c.args.place c.last.ensures (rw w.in_default.is) (rw w.in_default.is) c.emit.ensures.done; same = c.emit.ensures.same }
    ]
