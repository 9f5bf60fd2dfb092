-- What the controller is promised of each image (document 02, P2), beside the session after the call that gave it.
use Rattle.std.specs.Prelude.{ℕ, ◌<◌, List, [], ◌∷◌, ◌≡◌, length, take, T, eqb, Ok}
use Rattle.std.proofs.Math.Option.{Option, none, some}
use Rattle.definition.specs.Basic.{Bytes, pick}
use Rattle.definition.specs.Limit.{session_size}
use Rattle.definition.specs.Number.{is_one_of}
use Rattle.definition.specs.Opcode.{Instr, op_constant, op_jump_not_truthy, op_jump, op_get_global, op_set_global, op_get_local, op_set_local, op_closure, op_get_free, op_current_closure}
use Rattle.definition.specs.Bytecode.{Code, size_of, Const, Image, image_bytes}
use Rattle.definition.specs.Session.{Session}
use Rattle.definition.specs.Decode.{decoded, read_image, read_session}
use Rattle.definition.specs.Compile.{Outcome, Step}
use Rattle.definition.specs.Call.{Called}

-- an instruction of code, and its position
pub data Stands (i : Instr) : ℕ → Code → Type 0 where
  last : {c : Code} → Stands i (size_of c) (i ∷ c)
  before : {j : Instr} {p : ℕ} {c : Code} → Stands i p c → Stands i p (j ∷ c)

-- the constant of an index
abbrev pub constant_at : List Const → ℕ → Option Const
constant_at [] k = none
constant_at (c ∷ cs) k = pick (eqb (length cs) k) (some c) (constant_at cs k)

-- the chunks of an image: main, and each function's code
pub data Chunk (m : Image) : Code → Type 0 where
  main : Chunk m m.code
  function : (k : ℕ) {l p : ℕ} {c : Code} → constant_at m.pool k ≡ some (Const.function l p c) → Chunk m c

-- a jump at p to t lands on the start of a later instruction of its chunk
pub record Lands (c : Code) (p t : ℕ) : Type 0 where
  pub later : p < t
  pub next : Instr
  pub starts : Stands next t c

-- an integer or string of the pool
pub data NamesLiteral (pool : List Const) (k : ℕ) : Type 0 where
  integer : {b : Bytes} → constant_at pool k ≡ some (Const.integer b) → NamesLiteral pool k
  string : {b : Bytes} → constant_at pool k ≡ some (Const.string b) → NamesLiteral pool k

-- a function of the pool
pub record NamesFunction (pool : List Const) (k : ℕ) : Type 0 where
  pub locals : ℕ
  pub parameters : ℕ
  pub code : Code
  pub named : constant_at pool k ≡ some (Const.function locals parameters code)

-- what holds of each chunk alike, beside a pool and so many definitions
pub record TrustedChunk (pool : List Const) (definitions : ℕ) (c : Code) : Type 0 where
  -- each jump lands on the start of a later instruction of its own chunk
  pub jumps : {i : Instr} {p : ℕ} → Stands i p c → T (is_one_of (op_jump_not_truthy ∷ op_jump ∷ []) i.op) → Lands c p i.a
  -- each Constant names an integer or string in the pool
  pub constants : {i : Instr} {p : ℕ} → Stands i p c → i.op ≡ op_constant → NamesLiteral pool i.a
  -- each Closure a function
  pub closures : {i : Instr} {p : ℕ} → Stands i p c → i.op ≡ op_closure → NamesFunction pool i.a
  -- global indices are below the session's definitions
  pub globals : {i : Instr} {p : ℕ} → Stands i p c → T (is_one_of (op_get_global ∷ op_set_global ∷ []) i.op) → i.a < definitions

-- an image, and the session after the call that gave it
pub record Trusted (m : Image) (z : Session) : Type 0 where
  -- each chunk decodes end to end
  pub decodes : read_image (image_bytes m) ≡ decoded m (length (image_bytes m))
  pub chunks : {c : Code} → Chunk m c → TrustedChunk m.pool (length z.globals) c
  -- local indices are below the locals of their function
  pub locals : (k : ℕ) {l n p : ℕ} {c : Code} {i : Instr} → constant_at m.pool k ≡ some (Const.function l n c) → Stands i p c → T (is_one_of (op_get_local ∷ op_set_local ∷ []) i.op) → i.a < l
  -- a GetFree index is below the capture count of each Closure in the image that names its function
  pub captures : {d c : Code} {x i : Instr} {l n p q : ℕ} → Chunk m d → Stands x p d → x.op ≡ op_closure → constant_at m.pool x.a ≡ some (Const.function l n c)
      → Stands i q c → i.op ≡ op_get_free → i.a < x.b
  -- main uses none of 18, 19, 1C and 1D
  pub main : {i : Instr} {p : ℕ} → Stands i p m.code → T (is_one_of (op_get_local ∷ op_set_local ∷ op_get_free ∷ op_current_closure ∷ []) i.op) → ⊥

-- what a call wrote in n bytes of output reads as a trusted image, beside the session that it left
pub record TrustedOutput (x : Called) (n : ℕ) : Type 0 where
  pub image : Image
  pub session : Session
  pub end : ℕ
  pub reads : read_image (take n x.lent.output) ≡ decoded image n
  pub left : read_session (take session_size x.lent.session) ≡ decoded session end
  pub trusted : Trusted image session

-- a call on lent memory, accepted or not
pub record TrustedCall (x : Called) : Type 0 where
  pub wrote : (n : ℕ) → x.answer ≡ Ok n → TrustedOutput x n

-- a call of the definition
pub record TrustedStep (x : Step) : Type 0 where
  pub image : (m : Image) → x.outcome ≡ Outcome.accepted m → Trusted m x.session
