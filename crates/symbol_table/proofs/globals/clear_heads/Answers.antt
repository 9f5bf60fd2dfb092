-- `symbol_table::globals::clear_heads` meets its contract: the heads stand last, and are 0.
use native.Mathlib.Omega.{arith}
use Rattle.symbol_table.proofs.Starting.{heads_cleared}
use Rattle.symbol_table.proofs.globals.clear_heads.Goals as goal

pub returns : goal.returns
returns c = λ h b.
    let a = c.args.globals.now in
    heads_cleared a 1024 h (omega arith) (omega arith) (c.fill.ensures.after (λ y e. e))
