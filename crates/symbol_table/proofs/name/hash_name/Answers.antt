-- The loop's invariant: the hash so far, and what is left of the name, decide.
use mathlib.Core.Path.{sym, ◌∙◌}
use native.Mathlib.Omega.{arith}
use Rattle.symbol_table.proofs.Names.{hash_step, hash_none}
use Rattle.symbol_table.proofs.name.hash_name.Goals as goal

pub loop-b-preserved : goal.loop-b-preserved
loop-b-preserved c =
    let a = c.args in
    let l = c.loop-b in
    (omega arith, l.invariant.1 ∙ hash_step a.name.now l.hash l.b-index (omega arith) ∙ rw c.from.ensures)

pub returns : goal.returns
returns c =
    let l = c.loop-b in
    record {
      is = sym (l.invariant.1 ∙ hash_none c.args.name.now l.hash l.b-index (omega arith));
      small = l.invariant.0;
    }
