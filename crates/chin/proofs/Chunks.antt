-- The loop that turns code: one instruction a turn.
use Prim.Native.Nat.{ℕ, ◌+◌, ◌-◌, ◌≤◌, ◌<◌}
use native.Mathlib.Omega.{arith}
use mathlib.Core.Path.{◌≡◌, refl, sym, ap, ◌∙◌}
use lib.ListN.{length}
use Rattle.definition.specs.Basic.{Bytes, byte_at}
use Rattle.definition.specs.Opcode.{Instr, width, bytes_of, instr_at}
use Rattle.definition.specs.Bytecode.{Code, size_of}
use Rattle.definition.specs.Decode.{decoded, read_instr}
use Rattle.definition.proofs.Instructions.{size-bytes, write_instr}
use Rattle.opcode.specs.Decoding.{size_at}
use Rattle.opcode.proofs.Decoding.{Stands, stands, read_next, read_none}
use Rattle.bytecode.proofs.Items.{unlike}
use Rattle.std.specs.Prelude.{Some, None, Ok, Err}
use Rattle.chin.specs.declared.BadJump.{BadJump}
use Rattle.chin.specs.Turn.{Jump, Made, made, stopped, operand_of, turn_instr}
use Rattle.chin.specs.Rows.{verdict, InstrIn, TurnsInstr, CodeAt, TurnsCode}
use Rattle.chin.proofs.Turns.{got}
use Rattle.chin.proofs.Instruction.{stored-instr}
use Rattle.chin.proofs.Loops.{Loop, loop_begins, loop_fine, loop_written, loop_next, loop_stops, loop_again}

-- what a verdict says
pub fine_made : {A : Type 0} (m : Made A) → Ok tt ≡ verdict m → (x : A) × (m ≡ made x)
fine_made (made x) e = (x, refl)
fine_made (stopped p) e = let z : ◌≡◌ {A = ℕ} 0 1 = cc in absurd (omega arith)

pub bad_stopped : {A : Type 0} (m : Made A) {p : BadJump} → Err p ≡ verdict m → m ≡ stopped p.place
bad_stopped (made x) e = let z : ◌≡◌ {A = ℕ} 0 1 = cc in absurd (omega arith)
bad_stopped (stopped q) {p} e = let h : q ≡ p.place = cc in ap stopped h

-- what was stopped was not made
pub not-made : {A : Type 0} {m : Made A} {p : ℕ} {x : A} → m ≡ stopped p → m ≡ made x → ⊥
not-made e f = let z : ◌≡◌ {A = ℕ} 0 1 = cc in omega arith

module _ (jump : Jump) (b : Bytes) (start end : ℕ) where
  abbrev pub CodeLoop : Bytes → ℕ → Bytes → Type 0
  CodeLoop = Loop (read_instr (byte_at b)) size_of (turn_instr jump start) bytes_of b (end - start) start end

  pub code-begins : start ≤ end → (o : Bytes) → CodeLoop o start o
  code-begins h o = loop_begins (read_instr (byte_at b)) size_of (turn_instr jump start) bytes_of b (end - start) start end h refl o

  module _ {c : Code} (a : CodeAt b start end c) {o₀ o : Bytes} {at : ℕ} (l : CodeLoop o₀ at o) where
    pub code_ends : end ≤ at → TurnsCode jump b start end c o₀ o (Ok tt)
    code_ends h =
        record {
          judged = loop_fine (read_instr (byte_at b)) size_of (turn_instr jump start) bytes_of b (end - start) start end l a.reads h;
          written = loop_written (read_instr (byte_at b)) size_of (turn_instr jump start) bytes_of b (end - start) start end l a.reads h;
        }

    -- an instruction is there
    pub code_there : at < end → None ≡ size_at (byte_at b) at end → ⊥
    code_there h e =
        let k = loop_next (read_instr (byte_at b)) size_of (turn_instr jump start) bytes_of b (end - start) start end l a.reads h in
        unlike (sym (read_none (byte_at b) at end e) ∙ k.found)

    module _ (h : at < end) {n : ℕ} (e : Some n ≡ size_at (byte_at b) at end) where
      whole : Stands (byte_at b) at end n
      whole = stands (byte_at b) at end e

      found : read_instr (byte_at b) at end ≡ decoded (instr_at (byte_at b) at) (at + n)
      found = read_next (byte_at b) at end whole

      pub code_within : (0 < n) × (at + n ≤ end)
      code_within = (omega (arith, whole.is), whole.within)

      pub code-instr : InstrIn b start at n
      code-instr = record { order = omega (arith, l.place); long = whole.is; within = omega (arith, whole.within, a.within) }

      -- its offset in the chunk
      offset : at - start ≡ size_of l.xs
      offset = omega (arith, l.place)

      pub code_stops : {o' o'' : Bytes} {p : BadJump} → TurnsInstr jump b start at n o o' (Err p) → TurnsCode jump b start end c o₀ o'' (Err p)
      code_stops {p = p} t =
          let s : turn_instr jump start (size_of l.xs) (instr_at (byte_at b) at) ≡ stopped p.place = ap (λ k. turn_instr jump start k (instr_at (byte_at b) at)) (sym offset) ∙ bad_stopped _ t.judged in
          let q = loop_stops (read_instr (byte_at b)) size_of (turn_instr jump start) bytes_of b (end - start) start end l a.reads h found s in
          record { judged = sym (ap verdict q); written = λ d k m. absurd (not-made q k) }

      pub code_again : {o' : Bytes} → length o' ≡ length o → TurnsInstr jump b start at n o o' (Ok tt) → CodeLoop o₀ (at + n) o'
      code_again {o'} kept t =
          let m = fine_made (turn_instr jump start (at - start) (instr_at (byte_at b) at)) t.judged in
          let j = m.0 in
          let s : turn_instr jump start (size_of l.xs) (instr_at (byte_at b) at) ≡ made j = ap (λ k. turn_instr jump start k (instr_at (byte_at b) at)) (sym offset) ∙ m.1 in
          let g = got (start + (at - start)) (instr_at (byte_at b) at) (operand_of jump (instr_at (byte_at b) at) (at - start + (1 + width (byte_at b at)))) m.1 in
          let w = write_instr a.small.below at end found in
          let op : j.op ≡ byte_at b at = ap (λ (x : Instr). x.op) (sym g.same) in
          let grown : at + length (bytes_of j) ≡ at + n = omega (arith, size-bytes j, ap width op, whole.is) in
          loop_again (read_instr (byte_at b)) size_of (turn_instr jump start) bytes_of b (end - start) start end l a.reads h found s whole.within (omega (arith, l.place, whole.is)) kept grown
          (λ u p long is. stored-instr jump code-instr u whole.within w.stands (omega (arith, w.upto)) m.1 p long is (t.stored j m.1))
