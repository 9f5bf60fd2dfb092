-- The loop that reads code: one instruction a turn.
use Prim.Native.Nat.{ℕ, ◌+◌, ◌≤◌, ◌<◌}
use mathlib.Core.Path.{◌≡◌, sym, ap}
use mathlib.Core.List.{[], ◌∷◌}
use native.Mathlib.Omega.{arith}
use Rattle.definition.specs.Opcode.{instr_at}
use Rattle.definition.specs.Bytecode.{Code, size_of}
use Rattle.definition.specs.Decode.{decoded, malformed, read_instr, read_code}
use Rattle.definition.proofs.Instructions.{code-count}
use Rattle.opcode.specs.Decoding.{size_at}
use Rattle.opcode.proofs.Decoding.{stands, read_next, read_none}
use Rattle.std.specs.Prelude.{Some, None, Result, Ok}
use Rattle.bytecode.specs.declared.Malformed.{Malformed}
use Rattle.bytecode.specs.Checked.{item, wrong as wrongAt}
use Rattle.bytecode.proofs.Items.{Reading, begin, ends, wrong, again}

module _ (byte : ℕ → ℕ) (start end : ℕ) where
  -- the loop at an offset, behind some code
  pub record CodeRead (at : ℕ) (code : Code) : Type 0 where
    pub order : at ≤ end
    pub sized : start + size_of code ≡ at
    pub reading : (len : ℕ) → end ≤ start + len → Reading (read_instr byte) end len start at code

  pub reads_begin : start ≤ end → CodeRead start []
  reads_begin h = record { order = h; sized = omega arith; reading = λ len l. begin (read_instr byte) end len start }

  module _ {at : ℕ} {code : Code} (h : CodeRead at code) where
    pub reads_end : end ≤ at → (len : ℕ) → end ≤ start + len → read_code byte len start end ≡ decoded code at
    reads_end e len l = ends (read_instr byte) end (h.reading len l) (omega (arith, h.order))

    module _ (b : at < end) where
      pub reads_wrong : None ≡ size_at byte at end → (len : ℕ) → end ≤ start + len → read_code byte len start end ≡ malformed at
      reads_wrong e len l =
          wrong (read_instr byte) end (h.reading len l) (λ i. omega arith) (omega (arith, h.sized, code-count code)) (read_none byte at end e)

      pub reads_again : {size : ℕ} → Some size ≡ size_at byte at end → CodeRead (at + size) (instr_at byte at ∷ code)
      reads_again e =
          let k = stands byte at end e in
          record {
            order = k.within;
            sized = omega (arith, k.is, h.sized);
            reading =
                λ len l. again (read_instr byte) end (h.reading len l) (λ i. omega arith) (omega (arith, h.sized, code-count code)) (read_next byte at end k);
          }

  -- what is answered is what is read, however many instructions are allowed, if they are as many as the bytes
  abbrev pub Answers : Result ℕ Malformed → Type 0
  Answers r = (len : ℕ) → end ≤ start + len → r ≡ item (read_code byte len start end)

  -- the loop at an offset
  pub record CodeLoop (at : ℕ) : Type 0 where
    pub code : Code
    pub read : CodeRead at code

  pub code-begins : start ≤ end → CodeLoop start
  code-begins h = record { code = []; read = reads_begin h }

  module _ {at : ℕ} (h : CodeLoop at) where
    pub code_ends : end ≤ at → Answers (Ok at)
    code_ends e len l = sym (ap item (reads_end h.read e len l))

    module _ (b : at < end) where
      pub code_wrong : None ≡ size_at byte at end → Answers (wrongAt at)
      code_wrong e len l = sym (ap item (reads_wrong h.read b e len l))

      module _ {size : ℕ} (e : Some size ≡ size_at byte at end) where
        pub code_again : CodeLoop (at + size)
        code_again = record { code = instr_at byte at ∷ h.code; read = reads_again h.read b e }
