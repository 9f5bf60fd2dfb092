-- The lines of code: an instruction's line, and a loop that puts a line a turn.
use Prim.Native.Nat.{ℕ, zero, suc, ◌+◌, ◌-◌, ◌≤◌, ◌<◌}
use mathlib.Core.Path.{◌≡◌, ◌∙◌, ap, sym, refl, subst}
use mathlib.Core.Bool.{Bool, true, false}
use mathlib.Core.List.{[], ◌∷◌, ◌++◌}
use native.Mathlib.Omega.{arith}
use lib.Dec.{leb}
use lib.ListN.{length}
use borrow.Author.Tests.{leb-true}
use Rattle.definition.specs.Basic.{Bytes, byte_at}
use Rattle.definition.specs.Text.{decimal}
use Rattle.definition.specs.Opcode.{Instr, instr_at, size, whole, width, op_last}
use Rattle.definition.specs.Bytecode.{Code, size_of}
use Rattle.definition.specs.Decode.{decoded, read_instr, read_code}
use Rattle.definition.specs.Listing.{also, operand_fields, code_line, code_lines}
use Rattle.opcode.specs.Decoding.{instr_of, read_before, decode_answer}
use Rattle.std.specs.Prelude.{Result, Ok, Err}
use Rattle.opcode.specs.declared.Decoded.{Decoded as Found}
use Rattle.definition.specs.declared.reason.Refusal.{Refusal}
use Rattle.opcode.proofs.Decoding.{before_within, answered, unanswered}
use Rattle.definition.proofs.Basic.{both_left, both_right}
use Rattle.bytecode.proofs.Items.{unlike}
use Rattle.listing.specs.declared.text.Writer.{Writer}
use Rattle.listing.specs.Put.{Puts}
use Rattle.listing.specs.Reads.{CodeAt, HasCode}
use Rattle.listing.proofs.Puts.{both, none, reworded}
use Rattle.listing.proofs.Items.{Reading, begins, ends, Next, next, all_read, enough}

-- the operands, by their number of bytes
module _ (a b : ℕ) where
  pub two_operands : (w : ℕ) → 3 ≤ w → also (decimal a) ++ also (decimal b) ≡ operand_fields w a b
  two_operands zero h = absurd (omega arith)
  two_operands (suc zero) h = absurd (omega arith)
  two_operands (suc (suc zero)) h = absurd (omega arith)
  two_operands (suc (suc (suc w))) h = refl

module _ (byte : ℕ → ℕ) (end : ℕ) where
  -- an instruction that was read
  pub record Whole (at : ℕ) (x : Instr) (m : ℕ) : Type 0 where
    pub known : x.op < 30
    pub after : m ≡ at + size x
    pub within : m ≤ end

  pub whole-read : (at : ℕ) (x : Instr) (m : ℕ) → read_instr byte at end ≡ decoded x m → Whole at x m
  whole-read at x m e = go (whole byte at end) refl
    where
      go : (b : Bool) → whole byte at end ≡ b → Whole at x m
      go false t = absurd (unlike (rw t at e))
      go true t =
          let d : decoded (instr_at byte at) (at + size (instr_at byte at)) ≡ decoded x m = rw t at e in
          let i : instr_at byte at ≡ x = cc in
          let n : at + size (instr_at byte at) ≡ m = cc in
          let k = leb-true (byte at) op_last (both_left (leb (byte at) op_last) _ t) in
          let l = leb-true (at + 1 + width (byte at)) end (both_right (leb (byte at) op_last) _ t) in
          record {
            known = omega (arith, ap (λ (j : Instr). j.op) i);
            after = sym n ∙ ap (λ (j : Instr). at + size j) i;
            within = omega arith;
          }

  grows : (at : ℕ) (x : Instr) (m : ℕ) → read_instr byte at end ≡ decoded x m → (at < m) × (m ≤ end)
  grows at x m e = let w = whole-read at x m e in omega (arith, w.after, w.within)

  -- code that was read is as long as its part
  pub code-size : (start most : ℕ) {c : Code} {n : ℕ} → read_code byte most start end ≡ decoded c n → start + size_of c ≡ n
  code-size start most e =
      all_read (read_instr byte) end (λ (c : Code) (n : ℕ). start + size_of c ≡ n)
      (λ xs at x m p f. let w = whole-read at x m f in omega (arith, w.after)) most [] start e (omega arith)

  -- as many instructions as bytes are enough
  pub code-enough : (start most fewer : ℕ) {c : Code} {n : ℕ} → start ≤ end → end ≤ start + fewer → read_code byte most start end ≡ decoded c n
      → read_code byte fewer start end ≡ decoded c n
  code-enough start most fewer l h e = enough (read_instr byte) end grows most fewer [] start l h e

-- the loop at an offset of code from `start` up to `end`
module _ (b : Bytes) (start end : ℕ) where
  pub record CodeLoop (w₀ w : Writer) (pos : ℕ) : Type 0 where
    pub code : Code
    pub reading : Reading (read_instr (byte_at b)) end (end - start) start code pos
    pub order : pos ≤ end
    pub size_is : start + size_of code ≡ pos
    pub puts : Puts w₀ w (code_lines code)

  pub code-begins : (w : Writer) → w.at ≤ length w.output.now → start ≤ end → CodeLoop w w start
  code-begins w l h =
      record { code = []; reading = begins (read_instr (byte_at b)) end (end - start) start; order = h; size_is = omega arith; puts = none w l }

module _ {b : Bytes} {start end : ℕ} {w₀ w : Writer} {pos : ℕ} (l : CodeLoop b start end w₀ w pos) where
  -- at the same offset
  pub same : {pos₁ : ℕ} → pos ≡ pos₁ → CodeLoop b start end w₀ w pos₁
  same e = subst (CodeLoop b start end w₀ w) e l

  pub code_ends : end ≤ pos → {c : Code} → CodeAt b start end c → Puts w₀ w (code_lines c)
  code_ends h k =
      let e : pos ≡ end = omega (arith, l.order) in
      reworded l.puts (ap code_lines (ends (read_instr (byte_at b)) end (end - start) start l.reading k.reads e))

  module _ (h : HasCode b start end) (before : pos < end) {r : Result Found Refusal} (t₀ : r ≡ decode_answer (read_before b pos end)) where
    e : r ≡ decode_answer (read_instr (byte_at b) pos end)
    e = t₀ ∙ ap decode_answer (before_within b pos end h.is.within)

    pub code_not_refused : {q : Refusal} → r ≡ Err q → ⊥
    code_not_refused t = unanswered e (next (read_instr (byte_at b)) end (end - start) start l.reading h.is.reads (λ i. omega arith)).found t

    module _ {v : Found} (t : r ≡ Ok v) where
      pub found : Next (read_instr (byte_at b)) end (end - start) start l.reading h.is.reads
      found = next (read_instr (byte_at b)) end (end - start) start l.reading h.is.reads (λ i. omega arith)

      -- the instruction there
      pub record Turn : Type 0 where
        pub is : instr_of v.instruction ≡ found.x
        pub after_is : v.after ≡ found.next
        pub sized : v.after ≡ pos + size found.x
        pub within : v.after ≤ end

      pub code-turn : Turn
      code-turn =
          let w = whole-read (byte_at b) end pos found.x found.next found.found in
          let a = answered e found.found t in
          record {
            is = a.0;
            after_is = a.1;
            sized = a.1 ∙ w.after;
            within = omega (arith, w.within, a.1);
          }

      pub code_again : {w₁ : Writer} → Puts w w₁ (code_line (pos - start) (instr_of v.instruction)) → CodeLoop b start end w₀ w₁ v.after
      code_again p =
          let k = code-turn in
          let s : pos - start ≡ size_of l.code = omega (arith, l.size_is) in
          record {
            code = found.x ∷ l.code;
            reading = subst (λ n. Reading (read_instr (byte_at b)) end (end - start) start (found.x ∷ l.code) n) (sym k.after_is) found.reading;
            order = k.within;
            size_is = omega (arith, k.sized, l.size_is);
            puts = reworded (both l.puts p) (λ j. code_lines l.code ++ code_line (s j) (k.is j));
          }
