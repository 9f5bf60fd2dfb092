-- Where the two parts of an image that are read lie, and the code of a function among its constants.
use Rattle.std.specs.Prelude.{◌+◌, ◌≡◌, length, eqb, Option, Some, None}
use Rattle.definition.specs.Basic.{Bytes, byte_at, pick}
use Rattle.definition.specs.Field.{head}
use Rattle.definition.specs.Tag.{tag_function_const}
use Rattle.bytecode.specs.declared.span.Span.{Span}
use Rattle.bytecode.specs.declared.span.Parts.{Parts}

-- main's code stands behind its head, and the constants behind the pool's head, up to the end
pub record Divides (b : Bytes) (p : Parts) : Type 0 where
  pub main : p.code.bytes.now ≡ b
  pub first : p.code.start ≡ 3
  pub behind : p.code.end ≡ 3 + (head (byte_at b) 0).len
  pub constants : p.pool.bytes.now ≡ b
  pub next : p.pool.start ≡ 3 + (head (byte_at b) 0).len + 3
  pub last : p.pool.end ≡ length b

-- a constant's code, if it is a function
abbrev pub function_code : Span → Option Span
function_code s = pick (eqb (byte_at s.bytes.now s.start) tag_function_const) (Some (record { bytes = s.bytes; start = s.start + 6; end = s.end })) None
