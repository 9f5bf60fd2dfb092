-- `step::pool::add_function` meets its contract: where the pool has room, the chunk in work is copied behind it.
use mathlib.Core.Path.{refl}
use Rattle.step.proofs.FunctionConstants.{function_on, function_full}
use Rattle.step.proofs.pool.add_function.Goals as goal

pub returns-then-not-has_room : goal.returns-then-not-has_room
returns-then-not-has_room c = let s = c.args.scope.now in rw c.refused.ensures (record { adds = function_full _ _ s.fits s.area _ _ _ c.has_room.ensures c.if-not-has_room.true; code = refl; same = refl })

pub returns : goal.returns
returns c = let s = c.args.scope.now in record { adds = function_on _ _ s.fits s.area c.requires c.has_room.ensures c.if-not-has_room.false _ _ _ (rw c.chunk_of-chunk.ensures at c.put_function.ensures) c.advance-scope.ensures; code = refl; same = refl }
