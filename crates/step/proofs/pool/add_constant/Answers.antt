-- `step::pool::add_constant` meets its contract: where the pool has room, a field more behind it.
use mathlib.Core.Path.{refl}
use Rattle.step.proofs.Constants.{adds_on, adds_full}
use Rattle.step.proofs.pool.add_constant.Goals as goal

pub returns-then-not-has_room : goal.returns-then-not-has_room
returns-then-not-has_room c = rw c.refused.ensures (adds_full _ _ _ _ _ refl c.has_room.ensures c.if-not-has_room.true)

pub returns : goal.returns
returns c = adds_on _ _ _ _ _ c.requires refl c.has_room.ensures c.if-not-has_room.false c.put_field.ensures c.advance.ensures
