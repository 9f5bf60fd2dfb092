-- `trial::machine::Machine::execute` meets its contract: an instruction a way.
use Rattle.std.proofs.Common.{ap, ◌∙◌, subst, arith}
use Rattle.trial.specs.Value.{truthy}
use Rattle.trial.specs.Machine.{KeptAt}
use Rattle.trial.proofs.Producing.{return_after, jump_after, pop_after, set_after, branch_true, branch_false, pop_takes, set-takes, branch-takes}
use Rattle.trial.proofs.Machines.{stays_on, stepped}
use Rattle.trial.proofs.machine.Machine.execute.Goals as goal

pub returns-in-22-clause-runs : goal.returns-in-22-clause-runs
returns-in-22-clause-runs c = λ cs f p h e. let i = c.args.i in return_after cs i.op i.operand i.captures f h c.in-22.is

pub returns-in-14-clause-runs : goal.returns-in-14-clause-runs
returns-in-14-clause-runs c = λ cs f p h e. let i = c.args.i in stepped c.step_to.ensures (rw c.from-k.ensures (jump_after cs i.op i.operand i.captures f h c.in-14.is))

pub returns-in-2-clause-runs : goal.returns-in-2-clause-runs
returns-in-2-clause-runs c = λ cs f p h e.
    let i = c.args.i in
    stepped c.step_to-in-2.ensures (pop_after cs i.op i.operand i.captures f h (omega (arith, pop_takes i.op i.operand i.captures c.in-2.is, c.requires.0.room.enough)) c.in-2.is e)

pub returns-in-17 : goal.returns-in-17
returns-in-17 c =
    let i = c.args.i in
    let k = c.keep.ensures in
    record {
      runs =
          λ cs f p h e.
          let t = subst (λ k. KeptAt c.args.self.now.work.now k c.top-x.result c.keep.new.self.work.now) c.from-k.ensures k.stores in
          stepped c.step_to-in-17.ensures (rw k.still (set_after cs i.op i.operand i.captures f h (omega (arith, set-takes i.op i.operand i.captures c.in-17.is, c.requires.0.room.enough)) c.in-17.is e (c.requires.0.room.global_set c.in-17.is) (c.top-x.ensures f.stack h.stack) t));
      lent = stays_on k.lent c.step_to-in-17.ensures.lent;
    }

pub returns-then-truthy-clause-runs : goal.returns-then-truthy-clause-runs
returns-then-truthy-clause-runs c = λ cs f p h e.
    let i = c.args.i in
    stepped c.step_to-then-truthy.ensures (branch_true cs i.op i.operand i.captures f h (omega (arith, branch-takes i.op i.operand i.captures c.in-13.is, c.requires.0.room.enough)) c.in-13.is e (c.truthy.ensures ∙ ap truthy (c.top.ensures f.stack h.stack)) c.if-truthy.true)

pub returns-else-truthy-clause-runs : goal.returns-else-truthy-clause-runs
returns-else-truthy-clause-runs c = λ cs f p h e.
    let i = c.args.i in
    stepped c.step_to-else-truthy.ensures (rw c.from-k.ensures (branch_false cs i.op i.operand i.captures f h (omega (arith, branch-takes i.op i.operand i.captures c.in-13.is, c.requires.0.room.enough)) c.in-13.is (c.truthy.ensures ∙ ap truthy (c.top.ensures f.stack h.stack)) c.if-truthy.false))
