-- An instruction is emitted where the chunk has room for it.
use mathlib.Core.Path.{refl}
use Rattle.scope.proofs.Leaves.{emit-on, emit_full}
use Rattle.scope.proofs.lent.Scope.emit_instruction.Goals as goal

pub returns-then-add_instruction : goal.returns-then-add_instruction
returns-then-add_instruction c = let s = c.args.self.now in record { done = emit-on s.area s.fits c.args.place c.args.i c.add_instruction.ensures c.if-add_instruction.true; same = refl }

pub returns : goal.returns
returns c = let s = c.args.self.now in rw c.refused.ensures (record { done = emit_full s.area s.fits c.args.place c.args.i c.add_instruction.ensures c.if-add_instruction.false; same = refl })
