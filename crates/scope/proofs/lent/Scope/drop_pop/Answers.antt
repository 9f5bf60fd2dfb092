-- A branch's last Pop is dropped, its last ReturnValue stays, or it yields no value.
use mathlib.Core.Path.{refl, ap, ◌∙◌}
use Rattle.std.specs.Prelude.{Some}
use Rattle.scope.proofs.Leaves.{other_byte, drop-on, drop-value, drop-refused}
use Rattle.scope.proofs.lent.Scope.drop_pop.Goals as goal
use Rattle.scope.proofs.lent.Scope.drop_pop.Goals.{in_default-via-in-Some+in_default, in_default-via-in_default}

pub returns-in-Some-eq2 : goal.returns-in-Some-eq2
returns-in-Some-eq2 c = let s = c.args.self.now in record { done = rw c.without_last-self.ensures (drop-on s.area s.fits c.args.place c.last.ensures (c.in-Some-eq2.is ∙ ap Some c.in-Some-eq2.field-0-test)); same = refl }

pub returns-in-Some-eq22 : goal.returns-in-Some-eq22
returns-in-Some-eq22 c = let s = c.args.self.now in record { done = drop-value s.area s.fits c.args.place c.last.ensures (c.in-Some-eq22.is ∙ ap Some c.in-Some-eq22.field-0-test); same = refl }

pub returns-in_default : goal.returns-in_default
returns-in_default c =
    let s = c.args.self.now in
    elim c.in_default.branch [
      | in_default-via-in-Some+in_default w ↦ let t = w.in_default.field-0-test in rw c.refused.ensures (record { done = drop-refused s.area s.fits c.args.place c.last.ensures (other_byte {x = c.last.result} t.0.1 search) (other_byte {x = c.last.result} t.1 search); same = refl })
      | in_default-via-in_default w ↦ rw c.refused.ensures (record { done = drop-refused s.area s.fits c.args.place c.last.ensures (rw w.in_default.is) (rw w.in_default.is); same = refl })
    ]
