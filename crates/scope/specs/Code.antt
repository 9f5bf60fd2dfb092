-- What the leaves on the code area are said with, beside the machine's steps.
use Rattle.std.specs.Prelude.{ℕ, ◌+◌, Option, Some, None, ltb}
use Rattle.std.proofs.Math.Option as maybe
use Rattle.definition.specs.Basic.{Bytes, byte_at, pick}
use Rattle.definition.specs.Opcode.{op_jump}
use Rattle.definition.specs.Walk.{Res, on, bind}
use Rattle.scope.specs.View.{View}
use Rattle.scope.specs.Machine.{jump, patch}
use Rattle.scope.specs.declared.Chunk.{Chunk}

-- the instruction of an answer, if it has one
abbrev pub opcode_of : Option ℕ → maybe.Option ℕ
opcode_of (Some o) = maybe.some o
opcode_of None = maybe.none

-- a Jump, and the jump at a position patched behind it
abbrev pub jump_and_patch : ℕ → ℕ → View → Res View ℕ
jump_and_patch p at v = bind (jump p op_jump v) (λ k v₁. on k (patch at v₁))

-- the byte of the last instruction of a chunk, if it has one
abbrev pub last : Bytes → Chunk → Option ℕ
last c k = pick (ltb k.last k.len) (Some (byte_at c (k.start + k.last))) None
