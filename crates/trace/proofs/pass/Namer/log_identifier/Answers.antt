-- `log_identifier` meets its contract: a lookup, and its record where it finds a symbol.
use mathlib.Core.Path.{refl}
use Rattle.trace.proofs.Passing.{within_area, found_code, found_far, found_passes, nothing_passes}
use Rattle.trace.proofs.pass.Namer.log_identifier.Goals as goal

pub resolve_name-requires : goal.resolve_name-requires
resolve_name-requires c = record {
  has_words = c.requires.standing.words;
  level_in_bounds = within_area c.requires.standing;
  good = rw c.new-key.ensures.tree c.requires.standing.symbols;
}

pub put_entry-requires-clause-code_bound : goal.put_entry-requires-clause-code_bound
put_entry-requires-clause-code_bound c =
    found_code c.requires.standing c.in-Ok.is (rw (c.new-key.ensures.tree, c.new-key.ensures.at) at c.resolve_name.ensures)

pub put_entry-requires-clause-crossed_bound : goal.put_entry-requires-clause-crossed_bound
put_entry-requires-clause-crossed_bound c =
    found_far c.requires.standing c.in-Ok.is (rw (c.new-key.ensures.tree, c.new-key.ensures.at) at c.resolve_name.ensures)

pub returns-in-Ok : goal.returns-in-Ok
returns-in-Ok c = record {
  passes = found_passes c.requires.standing c.in-Ok.is (rw (c.new-key.ensures.tree, c.new-key.ensures.at) at c.resolve_name.ensures) c.put_entry.ensures;
  table = c.resolve_name.auto.table;
  log = c.put_entry.auto.log;
  same = refl;
}

pub returns-in_default : goal.returns-in_default
returns-in_default c = record {
  passes = nothing_passes c.requires.standing _ c.in_default.is (rw (c.new-key.ensures.tree, c.new-key.ensures.at) at c.resolve_name.ensures);
  table = c.resolve_name.auto.table;
  log = refl;
  same = refl;
}
