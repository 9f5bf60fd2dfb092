-- What stands in an image that was read: code, a constant, a pool.
use Rattle.std.specs.Prelude.{ℕ, ◌+◌, ◌-◌, ◌*◌, ◌≤◌, ◌==◌, ◌≡◌, Bool, false, List, ◌++◌, length}
use Rattle.definition.specs.Basic.{Bytes, byte_at}
use Rattle.definition.specs.Field.{head}
use Rattle.definition.specs.Text.{ascii, decimal}
use Rattle.definition.specs.Bytecode.{Code, Const, Image}
use Rattle.definition.specs.Listing.{also, newline, constant_lines}
use Rattle.definition.specs.Decode.{Decoded, decoded, malformed, read_code, read_const, read_image}
use Rattle.bytecode.specs.Checked.{constants}
use Rattle.bytecode.specs.declared.span.Span.{Span}

-- code from an offset up to another
pub record CodeAt (b : Bytes) (start end : ℕ) (c : Code) : Type 0 where
  pub order : start ≤ end
  pub within : end ≤ length b
  pub reads : read_code (byte_at b) (end - start) start end ≡ decoded c end

pub record HasCode (b : Bytes) (start end : ℕ) : Type 0 where
  pub code : Code
  pub is : CodeAt b start end code

-- a constant at an offset, before an end
pub record ConstantAt (b : Bytes) (at end : ℕ) (x : Const) : Type 0 where
  pub within : end ≤ length b
  pub reads : read_const (byte_at b) at end ≡ decoded x (at + 3 + (head (byte_at b) at).len)

pub record HasConstant (b : Bytes) (at end : ℕ) : Type 0 where
  pub constant : Const
  pub is : ConstantAt b at end constant

-- constants from an offset up to another
pub record PoolAt (b : Bytes) (start end : ℕ) (cs : List Const) : Type 0 where
  pub order : start ≤ end
  pub within : end ≤ length b
  pub reads : constants (byte_at b) start end ≡ decoded cs end

pub record HasPool (b : Bytes) (start end : ℕ) : Type 0 where
  pub pool : List Const
  pub is : PoolAt b start end pool

-- code and a pool that are a part of an image
abbrev pub CodeIn : Span → Code → Type 0
CodeIn s c = CodeAt s.bytes.now s.start s.end c

abbrev pub HasCodeIn : Span → Type 0
HasCodeIn s = HasCode s.bytes.now s.start s.end

abbrev pub PoolIn : Span → List Const → Type 0
PoolIn s cs = PoolAt s.bytes.now s.start s.end cs

abbrev pub HasPoolIn : Span → Type 0
HasPoolIn s = HasPool s.bytes.now s.start s.end

-- an image
pub record ImageAt (b : Bytes) (m : Image) : Type 0 where
  pub reads : read_image b ≡ decoded m (length b)

pub record HasImage (b : Bytes) : Type 0 where
  pub image : Image
  pub is : ImageAt b image

-- what was read is an image of so many bytes
abbrev pub is_image : Decoded Image → ℕ → Bool
is_image (decoded m n) size = n == size
is_image (malformed p) size = false

-- a function of some code, whose three numbers stand at an offset
abbrev pub function_of : (ℕ → ℕ) → ℕ → Code → Const
function_of byte from c = Const.function (byte from * 256 + byte (from + 1)) (byte (from + 2)) c

-- the line of a function behind its index
abbrev pub function_head : ℕ → ℕ → ℕ → Bytes
function_head l p size = also (ascii "function") ++ also (decimal l) ++ also (decimal p) ++ also (decimal size) ++ newline

-- the lines of the pool
abbrev pub pool_text : List Const → Bytes
pool_text cs = ascii "pool" ++ also (decimal (length cs)) ++ newline ++ constant_lines cs
