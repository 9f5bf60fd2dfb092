-- What the functions promise: of an instruction, of code, of a constant, of a pool and of an image that were read, and of the output over them.
use Rattle.std.specs.Prelude.{ℕ, ◌+◌, ◌-◌, ◌/◌, ◌%◌, ◌≤◌, ◌<◌, List, ◌++◌, ◌≡◌, length, take, drop, set, leb, ltb, Option, Some, Result, Ok, Err}
use Rattle.definition.specs.Basic.{Bytes, byte_at, pick}
use Rattle.definition.specs.Opcode.{Instr, width, instr_at}
use Rattle.definition.specs.Field.{head}
use Rattle.definition.specs.Bytecode.{Code, encode, Const, content, Image}
use Rattle.definition.specs.Decode.{decoded, read_code}
use Rattle.definition.specs.Output.{output_answer, output_after}
use Rattle.definition.specs.Valid.{AreBytes}
use Rattle.definition.specs.Answer.{Answer}
use Rattle.bytecode.specs.declared.Form.{Form}
use Rattle.bytecode.specs.declared.Form.TheVariants.{Plain, Chin}
use Rattle.bytecode.specs.Form.{const_in, pool_in, image_in, read_const_in, read_form}
use Rattle.bytecode.specs.Checked.{constants_in}
use Rattle.chin.specs.declared.BadJump.{BadJump}
use Rattle.chin.specs.Turn.{exchanged, jumps, Jump, distance, target, Made, made, stopped, turn_instr, turn_code, turn_const, turn_pool, turn_image}

-- from a form into the other, and what becomes of jumps
abbrev pub other_form : Form → Form
other_form Plain = Chin
other_form Chin = Plain

abbrev pub jump_of : Form → Jump
jump_of Plain = distance
jump_of Chin = target

-- an operand of two bytes in the other form
abbrev pub wide_operand : Jump → ℕ → ℕ → ℕ → Option ℕ
wide_operand jump op end a = pick (jumps op) (jump end a) (Some (exchanged a))

-- whether all jumps have operands, or where the first is that has none
abbrev pub verdict : {A : Type 0} → Made A → Result (Unit {0}) BadJump
verdict (made x) = Ok tt
verdict (stopped p) = Err (record { place = p })

-- an output holds the image's bytes from an offset up to another
pub record Same (o b : Bytes) (start end : ℕ) : Type 0 where
  pub room : end ≤ length o
  pub bytes : (k : ℕ) → start ≤ k → k < end → byte_at o k ≡ byte_at b k

-- an operand stored behind the instruction byte at an offset, if there is room
abbrev pub stored_operand : Bytes → ℕ → ℕ → Bytes
stored_operand o at a = pick (ltb (at + 2) (length o)) (set (set o (at + 1) (a / 256 % 256)) (at + 2) (a % 256)) o

-- an instruction of so many bytes
pub record InstrIn (b : Bytes) (start at size : ℕ) : Type 0 where
  pub order : start ≤ at
  pub long : size ≡ 1 + width (byte_at b at)
  pub within : at + size ≤ length b

pub record TurnsInstr (jump : Jump) (b : Bytes) (start at size : ℕ) (o o' : Bytes) (r : Result (Unit {0}) BadJump) : Type 0 where
  pub judged : r ≡ verdict (turn_instr jump start (at - start) (instr_at (byte_at b) at))
  pub stored : (j : Instr) → turn_instr jump start (at - start) (instr_at (byte_at b) at) ≡ made j → o' ≡ pick (leb 3 size) (stored_operand o at j.a) o

-- code
pub record CodeAt (b : Bytes) (start end : ℕ) (c : Code) : Type 0 where
  pub order : start ≤ end
  pub within : end ≤ length b
  pub small : AreBytes b
  pub reads : read_code (byte_at b) (end - start) start end ≡ decoded c end

pub record HasCode (b : Bytes) (start end : ℕ) : Type 0 where
  pub code : Code
  pub is : CodeAt b start end code

pub record TurnsCode (jump : Jump) (b : Bytes) (start end : ℕ) (c : Code) (o o' : Bytes) (r : Result (Unit {0}) BadJump) : Type 0 where
  pub judged : r ≡ verdict (turn_code jump start c)
  pub written : (d : Code) → turn_code jump start c ≡ made d → Same o b start end → o' ≡ (take start o ++ encode d) ++ drop end o

-- a constant, and where it ends
pub record ConstAt (f : Form) (b : Bytes) (at end : ℕ) (x : Const) : Type 0 where
  pub within : end ≤ length b
  pub small : AreBytes b
  pub reads : read_const_in f (byte_at b) at end ≡ decoded x (at + 3 + (head (byte_at b) at).len)

pub record HasConst (f : Form) (b : Bytes) (at end : ℕ) : Type 0 where
  pub constant : Const
  pub is : ConstAt f b at end constant

pub record TurnsConst (f : Form) (b : Bytes) (at : ℕ) (x : Const) (o o' : Bytes) (r : Result (Unit {0}) BadJump) : Type 0 where
  pub judged : r ≡ verdict (turn_const (jump_of f) (at + 3) x)
  pub written : (y : Const) → turn_const (jump_of f) (at + 3) x ≡ made y → (p o₀ : Bytes) → length p ≡ at → o ≡ p ++ drop at o₀ → Same o₀ b at (at + 3 + length (content x))
      → o' ≡ (p ++ const_in (other_form f) y) ++ drop (at + 3 + length (content x)) o₀

-- a pool's content
pub record PoolAt (f : Form) (b : Bytes) (start end : ℕ) (cs : List Const) : Type 0 where
  pub order : start ≤ end
  pub within : end ≤ length b
  pub small : AreBytes b
  pub reads : constants_in (byte_at b) f start end ≡ decoded cs end

pub record HasPool (f : Form) (b : Bytes) (start end : ℕ) : Type 0 where
  pub pool : List Const
  pub is : PoolAt f b start end pool

pub record TurnsPool (f : Form) (b : Bytes) (start end : ℕ) (cs : List Const) (o o' : Bytes) (r : Result (Unit {0}) BadJump) : Type 0 where
  pub judged : r ≡ verdict (turn_pool (jump_of f) start cs)
  pub written : (ds : List Const) → turn_pool (jump_of f) start cs ≡ made ds → Same o b start end → o' ≡ (take start o ++ pool_in (other_form f) ds) ++ drop end o

-- an image
pub record ImageAt (f : Form) (b : Bytes) (m : Image) : Type 0 where
  pub small : AreBytes b
  pub reads : read_form f b ≡ decoded m (length b)

pub record HasImage (f : Form) (b : Bytes) : Type 0 where
  pub image : Image
  pub is : ImageAt f b image

pub record TurnsImage (f : Form) (m : Image) (b o o' : Bytes) (r : Result (Unit {0}) BadJump) : Type 0 where
  pub judged : r ≡ verdict (turn_image (jump_of f) m)
  pub written : (n : Image) → turn_image (jump_of f) m ≡ made n → Same o b 0 (length b) → o' ≡ image_in (other_form f) n ++ drop (length b) o

-- an image whose other form was written, if there is room
pub record Copied (f : Form) (m : Image) (o : Bytes) (r : Answer) (o' : Bytes) : Type 0 where
  pub answer : (n : Image) → turn_image (jump_of f) m ≡ made n → r ≡ output_answer (image_in (other_form f) n) (length o)
  pub output : (n : Image) → turn_image (jump_of f) m ≡ made n → o' ≡ output_after (image_in (other_form f) n) o
