-- `skip_groups` meets its contract: each parenthesis passed opens a group.
use mathlib.Core.Path.{◌≡◌}
use Rattle.text.proofs.Climbing.{Skipping}
use Rattle.text.proofs.part.skip_groups.Given as goal

abbrev pub invariant-loop-token : goal.invariant-loop-token
invariant-loop-token l = record { text : l.token-iterator.text.now ≡ l.text; at : l.token-iterator.at ≡ l.groups.at; so_far : Skipping l.text l.from l.groups.at l.groups.opened }
