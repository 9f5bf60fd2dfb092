-- Why a call is refused, and the numbers sent back.
use Rattle.std.specs.Prelude.{ℕ, Bool, true, false, List, [], ◌∷◌, ◌++◌, eqb}
use Rattle.definition.specs.Basic.{pick}
use Rattle.definition.specs.declared.reason.Reason.{Reason}
use Rattle.definition.specs.declared.reason.Reason.TheVariants.{ShortBuffer, NoSession, BadTree, TooDeep, Undefined, Operator, Macro, TooMany, Locals, Captures, Globals, Pool, Code, Nesting, OutputShort, BadInstruction, BadImage, FewRecords, BadWords, BadScript, LargeInteger, NoValue, BadSize, NoFrame, BadHeights, BadJump, NotRunnable, Operand, Unset}
use Rattle.definition.specs.declared.reason.Refusal.{Refusal}

-- the number of a reason
abbrev pub number_of : Reason → ℕ
number_of ShortBuffer = 1
number_of NoSession = 2
number_of BadTree = 3
number_of TooDeep = 4
number_of Undefined = 5
number_of Operator = 6
number_of Macro = 7
number_of TooMany = 8
number_of Locals = 9
number_of Captures = 10
number_of Globals = 11
number_of Pool = 12
number_of Code = 13
number_of Nesting = 14
number_of OutputShort = 15
number_of BadInstruction = 16
number_of BadImage = 17
number_of FewRecords = 18
number_of BadWords = 19
number_of BadScript = 20
number_of LargeInteger = 21
number_of NoValue = 22
number_of BadSize = 23
number_of NoFrame = 24
number_of BadHeights = 25
number_of BadJump = 26
number_of NotRunnable = 27
number_of Operand = 28
number_of Unset = 29

-- the numbers of reasons
abbrev pub numbers_of : List Reason → List ℕ
numbers_of [] = []
numbers_of (r ∷ rs) = number_of r ∷ numbers_of rs

abbrev pub refusal : Reason → ℕ → Refusal
refusal r p = record { reason = r; place = p }

-- a work area below its size, or a session below 65,536
abbrev pub short_buffer : Reason
short_buffer = ShortBuffer

-- the session's layout is broken
abbrev pub no_session : Reason
no_session = NoSession

-- the tree's layout is broken
abbrev pub bad_tree : Reason
bad_tree = BadTree

-- a field at level 65
abbrev pub too_deep : Reason
too_deep = TooDeep

-- an Identifier without symbol
abbrev pub undefined : Reason
undefined = Undefined

-- an operator that is none here
abbrev pub operator : Reason
operator = Operator

-- a MacroLit
abbrev pub macro : Reason
macro = Macro

-- over 255 parameters or arguments
abbrev pub too_many : Reason
too_many = TooMany

-- a function's 257th definition
abbrev pub locals : Reason
locals = Locals

-- a table's 256th free symbol
abbrev pub captures : Reason
captures = Captures

-- the 1,025th definition
abbrev pub globals : Reason
globals = Globals

-- a constant would pass a limit of the pool
abbrev pub pool : Reason
pool = Pool

-- the open chunks together would pass 32,768
abbrev pub code : Reason
code = Code

-- the 17th open function
abbrev pub nesting : Reason
nesting = Nesting

-- the result is longer than the output
abbrev pub output_short : Reason
output_short = OutputShort

-- an unknown byte or missing operands
abbrev pub bad_instruction : Reason
bad_instruction = BadInstruction

-- a wrong field or instruction of an image
abbrev pub bad_image : Reason
bad_image = BadImage

-- more Identifiers than records
abbrev pub few_records : Reason
few_records = FewRecords

-- bytes that are no words: no name fields, a name of wrong length, a repeated name or a 25th; when making a session
abbrev pub bad_words : Reason
bad_words = BadWords

-- a branch of an If that yields no value
abbrev pub no_value : Reason
no_value = NoValue

-- a text that is no script
abbrev pub bad_script : Reason
bad_script = BadScript

-- an integer above the limit
abbrev pub large_integer : Reason
large_integer = LargeInteger

-- a size that a frame may not have
abbrev pub bad_size : Reason
bad_size = BadSize

-- no such frame
abbrev pub no_frame : Reason
no_frame = NoFrame

-- a chunk that does not pass with the heights offered
abbrev pub bad_heights : Reason
bad_heights = BadHeights

-- a jump to before its own end, or a distance whose target passes 65,535
abbrev pub bad_jump : Reason
bad_jump = BadJump

-- an instruction that a trial run does not take
abbrev pub not_runnable : Reason
not_runnable = NotRunnable

-- an operand that an instruction does not take
abbrev pub operand : Reason
operand = Operand

-- a global that is not set
abbrev pub unset : Reason
unset = Unset

-- a number is in a list
abbrev pub is_one_of : List ℕ → ℕ → Bool
is_one_of [] n = false
is_one_of (x ∷ xs) n = pick (eqb n x) true (is_one_of xs n)

-- the numbers of reading a tree
abbrev pub tree_numbers : List ℕ
tree_numbers = numbers_of (bad_tree ∷ too_deep ∷ [])

-- the numbers of the walk
abbrev pub walk_numbers : List ℕ
walk_numbers = numbers_of (undefined ∷ operator ∷ macro ∷ too_many ∷ locals ∷ captures ∷ globals ∷ pool ∷ code ∷ nesting ∷ no_value ∷ [])

abbrev pub walk_number : ℕ → Bool
walk_number n = is_one_of walk_numbers n

-- the numbers of compiling a tree in a session
abbrev pub translate_numbers : List ℕ
translate_numbers = tree_numbers ++ (walk_numbers ++ numbers_of (output_short ∷ []))

-- the numbers of a compile call: number 1, and those of a call that is lent enough
abbrev pub lent_numbers : List ℕ
lent_numbers = number_of no_session ∷ translate_numbers

abbrev pub call_numbers : List ℕ
call_numbers = number_of short_buffer ∷ lent_numbers

-- the numbers of making a session, also with words, of the check of an image, and of its listing
abbrev pub make_numbers : List ℕ
make_numbers = numbers_of (short_buffer ∷ [])

abbrev pub word_numbers : List ℕ
word_numbers = make_numbers ++ number_of bad_words ∷ []

abbrev pub image_numbers : List ℕ
image_numbers = numbers_of (bad_image ∷ [])

abbrev pub list_numbers : List ℕ
list_numbers = numbers_of (bad_image ∷ output_short ∷ [])
