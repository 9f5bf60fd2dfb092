-- What emission and patching do to a chunk and to the code area.
use Rattle.std.specs.Prelude.{ℕ, ◌+◌, ◌/◌, ◌%◌, ◌≤◌, Bool, [], ◌∷◌, ◌≡◌, length, leb, ltb}
use Rattle.std.proofs.lemmas.List.Edits.{sets}
use Rattle.definition.specs.Basic.{Bytes, pick}
use Rattle.definition.specs.Limit.{code_size}
use Rattle.definition.specs.Opcode.{Instr, instr, size, bytes_of}
use Rattle.scope.specs.Machine.{chunk}
use Rattle.scope.specs.declared.Chunk.{Chunk}
use Rattle.scope.specs.declared.instruction.Instruction.{Instruction}

-- the instruction that the code's record stands for
abbrev pub instr_of : Instruction → Instr
instr_of i = instr i.op i.a i.b

-- a chunk within a code area of full size
pub record Within (ys : Bytes) (c : Chunk) : Type 0 where
  pub area : code_size ≤ length ys
  pub room : c.start + c.len ≤ code_size

-- a chunk with an instruction of so many bytes more
abbrev pub longer_chunk : ℕ → Chunk → Chunk
longer_chunk n c = chunk c.start (c.len + n) c.len c.last

-- there is room for an instruction behind a chunk
abbrev pub room_for : Instr → Chunk → Bool
room_for i c = leb (c.start + c.len + size i) code_size

-- an instruction added to a chunk, where there is room for it
pub record Adds (ys : Bytes) (c : Chunk) (i : Instruction) (k : Chunk) (fits : Bool) (zs : Bytes) : Type 0 where
  pub chunk : k ≡ pick (room_for (instr_of i) c) (longer_chunk (size (instr_of i)) c) c
  pub room : fits ≡ room_for (instr_of i) c
  pub code : zs ≡ pick (room_for (instr_of i) c) (sets ys (c.start + c.len) (bytes_of (instr_of i))) ys

-- the operand of the jump at a position of a chunk is within the code area
abbrev pub holds_operand : ℕ → Chunk → Bool
holds_operand at c = ltb (c.start + at + 2) code_size

-- the operand of the jump at a position becomes the chunk's length, where it is within the code area
pub record Changes (ys : Bytes) (c : Chunk) (at : ℕ) (k : Chunk) (zs : Bytes) : Type 0 where
  pub chunk : k ≡ c
  pub code : zs ≡ pick (holds_operand at c) (sets ys (c.start + at + 1) (c.len / 256 % 256 ∷ c.len % 256 ∷ [])) ys
