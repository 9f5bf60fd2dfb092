-- Numbers 18, 25, 26 and 27 in plain words: what is wrong, and where it is found first.
use Rattle.std.specs.Prelude.{ℕ, ◌+◌, ◌≤◌, ◌<◌, true, List, ◌∷◌, ◌≡◌, length, take, None as none}
use Rattle.definition.specs.Basic.{Bytes}
use Rattle.definition.specs.Limit.{session_size}
use Rattle.definition.specs.Opcode.{Instr, size}
use Rattle.definition.specs.Bytecode.{Code, size_of, Const, pool_size, Image}
use Rattle.definition.specs.Session.{Session}
use Rattle.definition.specs.Decode.{decoded, read_image, read_session}
use Rattle.definition.specs.Compile.{enough, compile}
use Rattle.definition.specs.Call.{Lent, request}
use Rattle.definition.specs.Trusted.{Stands, constant_at}
use Rattle.records.specs.Records.{identifiers}
use Rattle.records.proofs.Logged.{WentThrough}
use Rattle.bytecode.specs.declared.Form.{Form}
use Rattle.bytecode.specs.Form.{read_form}
use Rattle.chin.specs.Turn.{exchanged, jumps}
use Rattle.heights.specs.Judgement.{Reaches, AllPass, FirstFailing}
use Rattle.trial.specs.Run.{Action, action_of, integer_in}
use Rattle.trial.specs.Cells.{work_size}

-- Number 18

-- the buffers are long enough, a session stands there, in it the plain call accepts the tree or refuses it with 15 alone, and the tree has
-- more Identifiers than there are records
pub record TooFew (tree : Bytes) (room : ℕ) (l : Lent) : Type 0 where
  pub long : enough (request l tree) ≡ true
  pub session : Session
  pub end : ℕ
  pub reads : read_session (take session_size l.session) ≡ decoded session end
  pub through : WentThrough session (compile session (request l tree))
  pub more : room < length (identifiers tree)

-- Number 25

-- the bytes read as an image, and the first chunk that does not pass with the heights has this place: 0 for main, then pool index plus 1
pub record FailsAt (b : Bytes) (hs : List ℕ) (p : ℕ) : Type 0 where
  pub image : Image
  pub end : ℕ
  pub reads : read_image b ≡ decoded image end
  pub failing : FirstFailing hs image image.pool p

-- Number 26

-- the code of a function in a pool, and where it begins, in an image whose constants begin at an offset
pub data FunctionFrom (start : ℕ) : List Const → ℕ → Code → Type 0 where
  last : {l n : ℕ} {c : Code} {cs : List Const} → FunctionFrom start (Const.function l n c ∷ cs) (start + pool_size cs + 3 + 3) c
  before : {x : Const} {cs : List Const} {from : ℕ} {c : Code} → FunctionFrom start cs from c → FunctionFrom start (x ∷ cs) from c

-- a chunk of an image, and the offset at which its code begins
pub data ChunkFrom (m : Image) : ℕ → Code → Type 0 where
  main : ChunkFrom m 3 m.code
  function : {from : ℕ} {c : Code} → FunctionFrom (6 + size_of m.code) m.pool from c → ChunkFrom m from c

-- a jump at an offset of the image that is wrong, by the position of its end in its chunk and its operand
pub record JumpAt (Wrong : ℕ → ℕ → Type 0) (m : Image) (p : ℕ) : Type 0 where
  pub from : ℕ
  pub code : Code
  pub chunk : ChunkFrom m from code
  pub jump : Instr
  pub position : ℕ
  pub stands : Stands jump position code
  pub place : p ≡ from + position
  pub jumping : jumps jump.op ≡ true
  pub wrong : Wrong (position + size jump) jump.a

-- a jump to before its own end
abbrev pub Backwards : ℕ → ℕ → Type 0
Backwards end a = a < end

-- a distance, low byte first, whose target passes 65,535
abbrev pub TooFar : ℕ → ℕ → Type 0
TooFar end d = 65535 < end + exchanged d

-- the bytes read as an image in a form, and its first wrong jump is at this offset
pub record FirstJump (form : Form) (Wrong : ℕ → ℕ → Type 0) (b : Bytes) (p : ℕ) : Type 0 where
  pub image : Image
  pub end : ℕ
  pub reads : read_form form b ≡ decoded image end
  pub here : JumpAt Wrong image p
  pub first : (q : ℕ) → JumpAt Wrong image q → p ≤ q

-- Number 27

-- another instruction than 00 to 11 and 16; a Constant that names no integer; a global index above 1,023; or, where reached, a height above
-- 1,024 before it
pub data NotRun (m : Image) (i : Instr) (p : ℕ) : Type 0 where
  other : action_of i ≡ Action.other → NotRun m i p
  no_integer : action_of i ≡ Action.constant → integer_in (constant_at m.pool i.a) ≡ none → NotRun m i p
  gets : action_of i ≡ Action.get_global → 1023 < i.a → NotRun m i p
  sets : action_of i ≡ Action.set_global → 1023 < i.a → NotRun m i p
  high : {x : ℕ} → Reaches m.code p x → 1024 < x → NotRun m i p

-- the work area is long enough, the bytes read as an image that passes with the heights, and the first such instruction of main is at this
-- offset
pub record FirstNotRun (b : Bytes) (hs : List ℕ) (work p : ℕ) : Type 0 where
  pub long : work_size ≤ work
  pub image : Image
  pub end : ℕ
  pub reads : read_image b ≡ decoded image end
  pub passes : AllPass hs image image.pool
  pub instruction : Instr
  pub position : ℕ
  pub stands : Stands instruction position image.code
  pub place : p ≡ 3 + position
  pub not_run : NotRun image instruction position
  pub first : {j : Instr} {q : ℕ} → Stands j q image.code → NotRun image j q → position ≤ q
