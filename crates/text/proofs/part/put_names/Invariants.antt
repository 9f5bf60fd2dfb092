-- `put_names` meets its contract: name by name.
use Prim.Native.Nat.{ℕ, ◌≤◌}
use mathlib.Core.Path.{◌≡◌}
use Rattle.text.proofs.Looping.{Looping}
use Rattle.text.specs.Parse.{NamesRow}
use Rattle.text.proofs.part.put_names.Given as goal

abbrev pub invariant-loop-token : goal.invariant-loop-token
invariant-loop-token l = record { text : l.token-iterator.text.now ≡ l.text; at : l.token-iterator.at ≡ l.names.at; so_far : (left : ℕ) → Looping NamesRow l.text l.at l.to left l.initial.output l.output l.names; flat : l.names.levels ≤ 1 }
