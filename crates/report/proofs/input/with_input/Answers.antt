-- `report::input::with_input` meets its contract: the input is what the buffer's front holds.
use native.Mathlib.Omega.{arith}
use mathlib.Core.Path.{refl}
use Rattle.std.specs.Prelude.{Result, Ok, Err, IfOk}
use Rattle.std.proofs.lemmas.List.{length-take-le}
use Rattle.report.proofs.input.with_input.Goals as goal

-- what holds whatever is answered
always : {T E : Type 0} {Q : Type 0} (r : Result T E) → Q → IfOk r (λ _. Q)
always (Ok x) q = q
always (Err e) q = tt

pub returns : goal.returns
returns g c = always c.run.result (_, omega (arith, length-take-le c.in_ok-length.length c.read_full.new.buffer c.in_ok-length.ensures.bound, c.in_ok-length.ensures.bound, c.read_full.ensures.same_length), (_, c.run.ensures, refl))
