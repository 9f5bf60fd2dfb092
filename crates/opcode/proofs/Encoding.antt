-- The bytes of an instruction, stored one after the other, and what is answered of it.
use Prim.Native.Nat.{ℕ, zero, suc, ◌+◌, ◌≤◌, ◌<◌}
use mathlib.Core.Path.{◌≡◌, ◌∙◌, sym, refl}
use mathlib.Core.Bool.{true, false}
use native.Mathlib.Omega.{arith}
use native.Mathlib.Numerals.{one-add}
use lib.Dec.{leb}
use lib.ListN.{length}
use borrow.Author.Tests.{le-leb, lt-leb}
use Rattle.definition.specs.Basic.{Bytes}
use Rattle.definition.specs.Opcode.{Instr, operands, bytes_of, width, op_last}
use Rattle.definition.specs.Number.{refusal, output_short}
use Rattle.definition.specs.Answer.{Answer}
use Rattle.std.specs.Prelude.{Ok, Err}
use Rattle.opcode.specs.Table.{entry}
use Rattle.definition.specs.Output.{over, output_answer, output_after}
use Rattle.opcode.specs.Encoding.{Ready, valid, encode_answer, encode_into}
use Rattle.definition.proofs.Instructions.{width_most}
use Rattle.definition.proofs.Basic.{both_left}

-- as many operand bytes as the width says
length-operands : (w a b : ℕ) → w ≤ 3 → length (operands w a b) ≡ w
length-operands zero a b h = refl
length-operands (suc zero) a b h = refl
length-operands (suc (suc zero)) a b h = refl
length-operands (suc (suc (suc zero))) a b h = refl
length-operands (suc (suc (suc (suc n)))) a b h = absurd (omega arith)

-- an instruction's bytes, by its width
module _ (i : Instr) (w : ℕ) (e : width i.op ≡ w) (s : w ≤ 3) where
  length-bytes : length (bytes_of i) ≡ 1 + w
  length-bytes = rw (e, length-operands w i.a i.b s) (sym (one-add w))

-- bytes of a known length: what is answered and what is written where there is room, and where there is not
module _ (b out : Bytes) (n : ℕ) (e : length b ≡ n) where
  pub placing : n ≤ length out → (Ok n ≡ output_answer b (length out)) × (over b out ≡ output_after b out)
  placing h =
      let t : leb (length b) (length out) ≡ true = le-leb (length b) (length out) (rw e h) in
      (rw (t, e), rw t)

  pub refusing : length out < n → (Err (refusal output_short 0) ≡ output_answer b (length out)) × (out ≡ output_after b out)
  refusing h =
      let t : leb (length b) (length out) ≡ false = lt-leb (length b) (length out) (rw e h) in
      (rw t, rw t)

-- encoding places the bytes of a valid instruction
through : (i : Instr) (out r : Bytes) (x : Answer) → valid i ≡ true → (x ≡ output_answer (bytes_of i) (length out)) × (r ≡ output_after (bytes_of i) out)
    → (x ≡ encode_answer i (length out)) × (r ≡ encode_into i out)
through i out r x v p = (p.0 ∙ rw v, p.1 ∙ rw v)

module _ (i : Instr) (w : ℕ) (out : Bytes) (v : valid i ≡ true) (e : w ≡ entry i.op) where
  width_is : width i.op ≡ w
  width_is = let k : leb i.op op_last ≡ true = both_left (leb i.op op_last) _ v in sym (rw k at e)

  small : w ≤ 3
  small = rw (← width_is) (width_most i.op)

  pub ready : w < length out → Ready i w out
  ready h = record { is = width_is; small = small; room = omega arith }

  pub encodes : w < length out → (Ok (1 + w) ≡ encode_answer i (length out)) × (over (bytes_of i) out ≡ encode_into i out)
  encodes h = through i out _ _ v (placing (bytes_of i) out (1 + w) (length-bytes i w width_is small) (omega arith))

  pub encodes_short : length out ≤ w → (Err (refusal output_short 0) ≡ encode_answer i (length out)) × (out ≡ encode_into i out)
  encodes_short h = through i out _ _ v (refusing (bytes_of i) out (1 + w) (length-bytes i w width_is small) (omega arith))
