-- `trial::machine::Machine::produce` meets its contract: a value, or a stop.
use Rattle.std.proofs.Common.{arith}
use Rattle.trial.proofs.Producing.{known, produce_stops, produce_goes_on}
use Rattle.trial.proofs.Machines.{stays_on, stepped}
use Rattle.trial.proofs.machine.Machine.produce.Goals as goal

pub returns-in_default-clause-runs : goal.returns-in_default-clause-runs
returns-in_default-clause-runs c = rw c.refused.ensures (λ cs f p h e. produce_stops c.requires.1 c.args.i.operand c.args.i.captures cs f h (c.produced.ensures cs f.stack f.globals p h.globals h.stack) c.reason.ensures c.in_default.is)

pub returns : goal.returns
returns c =
    let i = c.args.i in
    let k = c.keep.ensures in
    record {
      runs =
          λ cs f p h e.
          let o = c.produced.ensures cs f.stack f.globals p h.globals h.stack in
          stepped c.step_to.ensures (rw k.still (produce_goes_on c.requires.1 i.operand i.captures cs f h o e
          (omega (arith, c.takes.ensures, c.requires.0.room.enough))
          (omega (arith, c.takes.ensures, c.requires.0.room.enough, c.requires.0.room.fits, (known c.requires.1).gives_is i.operand i.captures)) c.in-Some.is k.stores));
      lent = stays_on k.lent c.step_to.ensures.lent;
    }
