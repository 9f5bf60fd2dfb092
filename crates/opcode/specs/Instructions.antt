-- What going over the instructions of code gives.
use Rattle.std.specs.Prelude.{ℕ, ◌≡◌, ◌<◌, Option, MatchOption, Err}
use Rattle.definition.specs.declared.reason.Refusal.{Refusal}
use Rattle.opcode.specs.Decoding.{found, read_before, decode_answer}
use Rattle.opcode.specs.declared.Instruction.{Instruction}
use Rattle.opcode.specs.declared.instructions.Instructions.{Instructions}

-- the next instruction: at its offset, read before the end, and the one behind it is next
pub record NextIs (s : Instructions) (at : ℕ) (i : Instruction) (after : ℕ) (t : Instructions) : Type 0 where
  pub here : at ≡ s.at
  pub before : s.at < s.end
  pub read : decode_answer (read_before s.code.now s.at s.end) ≡ found i after
  pub behind : t.at ≡ after
  pub code : t.code.now ≡ s.code.now
  pub end : t.end ≡ s.end

-- none: at the end, or before bytes that are no instruction
pub record Ended (s : Instructions) : Type 0 where
  pub refused : s.at < s.end → (q : Refusal) × (decode_answer (read_before s.code.now s.at s.end) ≡ Err q)

-- the state before a call, what it gives, and the state after
abbrev pub Gives : Instructions → Option (ℕ × Instruction × ℕ) → Instructions → Type 0
Gives s r t = MatchOption r (Ended s) (λ x. NextIs s x.0 x.1 x.2 t)
