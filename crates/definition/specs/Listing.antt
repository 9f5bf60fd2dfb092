-- The listing of an image as text: fields one space apart, each line ended by 0A.
use Rattle.std.specs.Prelude.{ℕ, zero, suc, List, [], ◌∷◌, ◌++◌, length, get_or, Err}
use Prim.Native.String.{String}
use Rattle.definition.specs.Basic.{Bytes}
use Rattle.definition.specs.Number.{refusal, bad_image}
use Rattle.definition.specs.Opcode.{Instr, width}
use Rattle.definition.specs.Bytecode.{Code, size_of, Const, Image}
use Rattle.definition.specs.Decode.{Decoded, decoded, malformed}
use Rattle.definition.specs.Text.{ascii, decimal, padded, signed, hex}
use Rattle.definition.specs.Output.{output_answer, output_after}
use Rattle.definition.specs.Answer.{Answer}

-- the end of a line
abbrev pub newline : Bytes
newline = 0x0A ∷ []

-- a further field of a line: a space, then its text
abbrev pub also : Bytes → Bytes
also text = 0x20 ∷ text

-- the word of each instruction byte, as in the Rust's `Opcode`
abbrev pub words : List String
words =
    "Constant" ∷ "Add" ∷ "Pop" ∷ "Sub" ∷ "Mul" ∷ "Div" ∷ "True" ∷ "False" ∷ "Equal" ∷ "NotEqual"
    ∷ "GreaterThan" ∷ "Minus" ∷ "Bang" ∷ "JumpNotTruthy" ∷ "Jump" ∷ "Null" ∷ "GetGlobal" ∷ "SetGlobal" ∷ "Array" ∷ "Hash"
    ∷ "Index" ∷ "Call" ∷ "ReturnValue" ∷ "Return" ∷ "GetLocal" ∷ "SetLocal" ∷ "GetBuiltin" ∷ "Closure" ∷ "GetFree" ∷ "CurrentClosure"
    ∷ []

abbrev pub word : ℕ → Bytes
word o = ascii (get_or words o "")

-- the operands of an instruction, by its number of operand bytes
abbrev pub operand_fields : ℕ → ℕ → ℕ → Bytes
operand_fields zero a b = []
operand_fields (suc zero) a b = also (decimal a)
operand_fields (suc (suc zero)) a b = also (decimal a)
operand_fields (suc (suc (suc n))) a b = also (decimal a) ++ also (decimal b)

-- the line of an instruction at a position
abbrev pub code_line : ℕ → Instr → Bytes
code_line at i = padded at ++ also (word i.op) ++ operand_fields (width i.op) i.a i.b ++ newline

-- the lines of code, whose last instruction comes first here
abbrev pub code_lines : Code → Bytes
code_lines [] = []
code_lines (i ∷ is) = code_lines is ++ code_line (size_of is) i

-- a string's bytes in hexadecimal, no field for none
abbrev pub hex_field : Bytes → Bytes
hex_field [] = []
hex_field (b ∷ bs) = also (hex (b ∷ bs))

-- a constant's line behind its index, and a function's code
abbrev pub constant_fields : Const → Bytes
constant_fields (Const.integer b) = also (ascii "integer") ++ also (signed b) ++ newline
constant_fields (Const.string b) = also (ascii "string") ++ also (decimal (length b)) ++ hex_field b ++ newline
constant_fields (Const.function l p c) =
    also (ascii "function") ++ also (decimal l) ++ also (decimal p) ++ also (decimal (size_of c)) ++ newline ++ code_lines c

-- the lines of the pool's constants, whose last comes first here
abbrev pub constant_lines : List Const → Bytes
constant_lines [] = []
constant_lines (c ∷ cs) = constant_lines cs ++ decimal (length cs) ++ constant_fields c

-- main code and pool
abbrev pub listing : Image → Bytes
listing m =
    ascii "main" ++ also (decimal (size_of m.code)) ++ newline ++ code_lines m.code
    ++ ascii "pool" ++ also (decimal (length m.pool)) ++ newline ++ constant_lines m.pool

-- listing an image: 17 where it is wrong
abbrev pub list_answer : Decoded Image → ℕ → Answer
list_answer (decoded m n) room = output_answer (listing m) room
list_answer (malformed p) room = Err (refusal bad_image p)

abbrev pub list_into : Decoded Image → Bytes → Bytes
list_into (decoded m n) out = output_after (listing m) out
list_into (malformed p) out = out
