-- What `encode` wrote `decode` reads back, and what `decode` read `encode` writes back: of any answers that the two contracts allow.
use Prim.Native.Nat.{ℕ, ◌≤◌}
use native.Mathlib.Omega.{arith}
use mathlib.Core.Bool.{Bool, true, false}
use mathlib.Core.Path.{◌≡◌, refl, sym, ap, ◌∙◌}
use lib.Dec.{leb}
use lib.ListN.{length, take, drop}
use borrow.Author.Tests.{le-leb}
use Rattle.std.specs.Prelude.{Result, Ok, Err}
use Rattle.definition.specs.Basic.{Bytes, byte_at, pick}
use Rattle.definition.specs.Number.{refusal, output_short, bad_instruction}
use Rattle.definition.specs.Opcode.{Instr, bytes_of}
use Rattle.definition.specs.Decode.{decoded, malformed, read_instr}
use Rattle.definition.specs.Decode as Decode
use Rattle.definition.specs.Output.{over, output_after}
use Rattle.definition.specs.Valid.{AreBytes}
use Rattle.definition.specs.declared.reason.Refusal.{Refusal}
use Rattle.definition.specs.Answer.{Answer}
use Rattle.definition.proofs.Basic.{pick_true}
use Rattle.definition.proofs.Instructions.{size-bytes, decode_encode, encode_decode}
use Rattle.opcode.specs.Decoding.{instruction, instr_of, found, decode_answer}
use Rattle.opcode.specs.Encoding.{valid, encode_answer, encode_into}
use Rattle.opcode.specs.declared.Instruction.{Instruction}
use Rattle.opcode.specs.declared.Decoded.{Decoded}
use Rattle.opcode.proofs.Valid.{passes, passed}

-- what decoding a slice answers
abbrev decodes : Bytes → Result Decoded Refusal
decodes b = decode_answer (read_instr (byte_at b) 0 (length b))

-- an instruction that was encoded: valid, with room for it, and of that length
record Encoded (i : Instr) (room n : ℕ) : Type 0 where
  sound : valid i ≡ true
  fits : leb (length (bytes_of i)) room ≡ true
  long : length (bytes_of i) ≡ n

encoded : (i : Instr) (room : ℕ) {n : ℕ} → encode_answer i room ≡ Ok n → Encoded i room n
encoded i room {n} e = go (valid i) (leb (length (bytes_of i)) room) refl refl e
  where
    go : (a b : Bool) → valid i ≡ a → leb (length (bytes_of i)) room ≡ b → pick a (pick b (Ok (length (bytes_of i))) (Err (refusal output_short 0))) (Err (refusal bad_instruction 0)) ≡ Ok n → Encoded i room n
    go true true p q e = record { sound = p; fits = q; long = cc }
    go true false p q e = let z : ◌≡◌ {A = ℕ} 0 1 = cc in absurd (omega arith)
    go false b p q e = let z : ◌≡◌ {A = ℕ} 0 1 = cc in absurd (omega arith)

-- what it leaves
written : (i : Instr) (out : Bytes) → valid i ≡ true → leb (length (bytes_of i)) (length out) ≡ true → encode_into i out ≡ over (bytes_of i) out
written i out v r = pick_true (output_after (bytes_of i) out) out v ∙ pick_true (over (bytes_of i) out) out r

-- Where `encode` answers a length, `decode` reads that instruction and that length from what it left
pub decode_reads_encoded : (i : Instruction) (out out' : Bytes) (n : ℕ) (d : Result Decoded Refusal) → Ok n ≡ encode_answer (instr_of i) (length out) → out' ≡ encode_into (instr_of i) out → d ≡ decodes out' → d ≡ found i n
decode_reads_encoded i out out' n d a w e =
    let h = encoded (instr_of i) (length out) (sym a) in
    let at : out' ≡ over (bytes_of (instr_of i)) out = w ∙ written (instr_of i) out h.sound h.fits in
    let reads = decode_encode (instr_of i) (passes (instr_of i) h.sound) (drop (length (bytes_of (instr_of i))) out) in
    e ∙ ap decodes at ∙ ap decode_answer reads ∙ ap (found i) (sym (size-bytes (instr_of i)) ∙ h.long)

ok_is : {x y : Decoded} → ◌≡◌ {A = Result Decoded Refusal} (Ok x) (Ok y) → x ≡ y
ok_is e = cc

-- an instruction that was decoded: what was read, as an instruction of the code
record Read (b : Bytes) (i : Instruction) (n : ℕ) : Type 0 where
  reads : read_instr (byte_at b) 0 (length b) ≡ decoded (instr_of i) n

read : (b : Bytes) (i : Instruction) (n : ℕ) → found i n ≡ decodes b → Read b i n
read b i n e = go (read_instr (byte_at b) 0 (length b)) refl e
  where
    go : (d : Decode.Decoded Instr) → read_instr (byte_at b) 0 (length b) ≡ d → found i n ≡ decode_answer d → Read b i n
    go (decoded j m) p q =
        let same : record { instruction = i; after = n } ≡ record { instruction = instruction j; after = m } = ok_is q in
        record { reads = p ∙ sym (ap (λ (v : Decoded). decoded (instr_of v.instruction) v.after) same) }
    go (malformed m) p q = let z : ◌≡◌ {A = ℕ} 0 1 = cc in absurd (omega arith)

-- what `encode` gave: the length, and the bytes that were decoded at the front
pub record EncodesBack (code : Bytes) (n : ℕ) (out : Bytes) (r : Answer) (out' : Bytes) : Type 0 where
  pub answer : r ≡ Ok n
  pub output : out' ≡ over (take n code) out

-- What `decode` read from bytes, `encode` writes back wherever there is room
pub encode_writes_decoded : (code : Bytes) → AreBytes code → (i : Instruction) (n : ℕ) → found i n ≡ decodes code
    → (out out' : Bytes) (r : Answer) → n ≤ length out → r ≡ encode_answer (instr_of i) (length out) → out' ≡ encode_into (instr_of i) out → EncodesBack code n out r out'
encode_writes_decoded code b i n e out out' r h a w =
    let k = encode_decode code b (instr_of i) n (read code i n e).reads in
    let v = passed k.valid in
    let long : length (bytes_of (instr_of i)) ≡ n = size-bytes (instr_of i) ∙ sym k.length in
    let room = le-leb (length (bytes_of (instr_of i))) (length out) (omega arith) in
    record {
      answer = a ∙ (λ j. pick (v j) (pick (room j) (Ok (long j)) (Err (refusal output_short 0))) (Err (refusal bad_instruction 0)));
      output = w ∙ written (instr_of i) out v room ∙ ap (λ x. over x out) k.bytes;
    }
