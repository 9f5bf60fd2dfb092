-- `symbol_table::resolve_name` meets its contract.
use native.Mathlib.Omega.{arith}
use Rattle.symbol_table.proofs.Resolving.{good-globals, resolved_outermost}
use Rattle.symbol_table.proofs.resolve_name.Goals as goal

pub find_outermost-requires : goal.find_outermost-requires
find_outermost-requires c =
    record {
      words = c.requires.has_words;
      size = omega arith;
      globals = good-globals _ _ _ _ c.requires.good;
    }

pub returns-then-level-eq0 : goal.returns-then-level-eq0
returns-then-level-eq0 c =
    resolved_outermost _ _ _ _ _ _ c.requires.good _ c.if-level-eq0.true c.find_outermost.ensures.crossed c.find_outermost.ensures.resolved
