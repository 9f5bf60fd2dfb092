-- Images that break the promise of specs/Trusted, one for each kind of clause: none is trusted, whatever the session.
use Prim.Native.Nat.{ℕ}
use native.Mathlib.Omega.{arith}
use mathlib.Core.List.{List, [], ◌∷◌}
use mathlib.Core.Path.{◌≡◌, refl}
use Rattle.definition.specs.Opcode.{Instr, instr, plain, op_constant, op_jump, op_return_value, op_get_global, op_get_local, op_closure, op_get_free}
use Rattle.definition.specs.Bytecode.{Code, Const, Image}
use Rattle.definition.specs.Session.{Session, fresh}
use Rattle.definition.specs.Trusted.{Stands, Chunk, NamesLiteral, Trusted}

abbrev image : Code → List Const → Image
image c cs = record { code = c; pool = cs }

-- a function that reads its first capture, and has no locals
abbrev reads : Const
reads = Const.function 0 0 (plain op_return_value ∷ instr op_get_free 0 0 ∷ [])

-- an instruction stands in code that has one
abbrev Some : Code → Type 0
Some [] = ⊥
Some (i ∷ c) = Unit {0}

stands_some : {i : Instr} {p : ℕ} {c : Code} → Stands i p c → Some c
stands_some Stands.last = tt
stands_some (Stands.before s) = tt

-- main is one Jump to main's end
pub jump_to_end : (z : Session) → Trusted (image (instr op_jump 3 0 ∷ []) []) z → ⊥
jump_to_end z t = let e = first ((t.chunks Chunk.main).jumps Stands.last tt).starts in omega arith
  where
    first : {i j : Instr} {p : ℕ} → Stands i p (j ∷ []) → p ≡ 0
    first Stands.last = refl
    first (Stands.before s) = absurd (stands_some s)

-- a Closure names no constant
pub closure_of_none : (z : Session) → Trusted (image (instr op_closure 0 0 ∷ []) []) z → ⊥
closure_of_none z t = let e = ((t.chunks Chunk.main).closures Stands.last refl).named in let k : ◌≡◌ {A = ℕ} 0 1 = cc in omega arith

-- a Constant names a function
pub constant_of_function : (z : Session) → Trusted (image (instr op_constant 0 0 ∷ []) (reads ∷ [])) z → ⊥
constant_of_function z t = never ((t.chunks Chunk.main).constants Stands.last refl)
  where
    never : NamesLiteral (reads ∷ []) 0 → ⊥
    never (NamesLiteral.integer {b} e) = let k : ◌≡◌ {A = ℕ} 0 1 = cc in omega arith
    never (NamesLiteral.string {b} e) = let k : ◌≡◌ {A = ℕ} 0 1 = cc in omega arith

-- a Closure has fewer captures than its function reads
pub closure_short : (z : Session) → Trusted (image (instr op_closure 0 0 ∷ []) (reads ∷ [])) z → ⊥
closure_short z t = let h = t.captures Chunk.main Stands.last refl refl (Stands.before Stands.last) refl in omega arith

-- a global that the session does not have
pub global_missing : Trusted (image (instr op_get_global 0 0 ∷ []) []) fresh → ⊥
global_missing t = let h = (t.chunks Chunk.main).globals Stands.last tt in omega arith

-- a local that its function does not have
pub local_missing : (z : Session) → Trusted (image [] (Const.function 0 0 (plain op_return_value ∷ instr op_get_local 0 0 ∷ []) ∷ [])) z → ⊥
local_missing z t = let h = t.locals 0 refl (Stands.before Stands.last) tt in omega arith

-- main reads a capture
pub main_reads : (z : Session) → Trusted (image (instr op_get_free 0 0 ∷ []) []) z → ⊥
main_reads z t = t.main Stands.last tt
