-- What stands at an offset is the definition's instruction there, by its length.
use Prim.Native.Nat.{ℕ, ◌+◌, ◌≤◌}
use mathlib.Core.Path.{◌≡◌, refl, sym, ap, ◌∙◌}
use mathlib.Core.Bool.{Bool, true, false}
use native.Mathlib.Omega.{arith}
use lib.ListN.{length}
use lib.Dec.{leb}
use borrow.Author.Tests.{leb-true, le-ltb}
use Rattle.std.specs.Prelude.{Some, None, Result, Ok, Err}
use Rattle.definition.specs.Basic.{Bytes, byte_at}
use Rattle.definition.specs.Opcode.{Instr, instr_at, width, whole, op_last}
use Rattle.definition.specs.Decode.{decoded, malformed, read_instr}
use Rattle.definition.specs.Decode as Decode
use Rattle.definition.specs.declared.reason.Refusal.{Refusal}
use Rattle.definition.proofs.Basic.{both_right}
use Rattle.opcode.specs.declared.Decoded.{Decoded}
use Rattle.opcode.specs.Decoding.{size_at, instruction, instr_of, read_before, decode_answer}

module _ (byte : ℕ → ℕ) (at : ℕ) where
  module _ (end : ℕ) where
    -- an instruction that stands whole before `end`
    pub record Stands (size : ℕ) : Type 0 where
      pub is : size ≡ 1 + width (byte at)
      pub within : at + size ≤ end
      pub found : whole byte at end ≡ true

    pub stands : {size : ℕ} → Some size ≡ size_at byte at end → Stands size
    stands {size} e = go (whole byte at end) refl
      where
        go : (b : Bool) → whole byte at end ≡ b → Stands size
        go true k =
            let f : Some size ≡ Some (1 + width (byte at)) = rw k at e in
            let i : size ≡ 1 + width (byte at) = cc in
            let h : at + 1 + width (byte at) ≤ end = leb-true _ _ (both_right (leb (byte at) op_last) _ k) in
            record { is = i; within = omega arith; found = k }
        go false k = let f : Some size ≡ None = rw k at e in cc

    -- it is what is read
    pub read_next : {size : ℕ} → Stands size → read_instr byte at end ≡ decoded (instr_at byte at) (at + size)
    read_next k = rw (k.found, k.is)

    -- where none stands, nothing is read
    pub read_none : None ≡ size_at byte at end → read_instr byte at end ≡ malformed at
    read_none e = go (whole byte at end) refl
      where
        go : (b : Bool) → whole byte at end ≡ b → read_instr byte at end ≡ malformed at
        go true k = let f : None ≡ Some (1 + width (byte at)) = rw k at e in cc
        go false k = rw k

-- before an end within the bytes an instruction is read as it stands
pub before_within : (b : Bytes) (at end : ℕ) → end ≤ length b → read_before b at end ≡ read_instr (byte_at b) at end
before_within b at end h = rw (le-ltb (length b) end h)

-- what decoding answered of an instruction that was read
pub answered : {d : Decode.Decoded Instr} {r : Result Decoded Refusal} {x : Instr} {m : ℕ} {v : Decoded} → r ≡ decode_answer d → d ≡ decoded x m → r ≡ Ok v
    → (instr_of v.instruction ≡ x) × (v.after ≡ m)
answered {r = r} {x = x} {m = m} {v = v} e f t =
    let made : Decoded = record { instruction = instruction x; after = m } in
    let g : ◌≡◌ {A = Result Decoded Refusal} (Ok made) (Ok v) = sym (e ∙ ap decode_answer f) ∙ t in
    let j : made ≡ v = cc in
    (sym (ap (λ (w : Decoded). instr_of w.instruction) j), sym (ap (λ (w : Decoded). w.after) j))

pub unanswered : {d : Decode.Decoded Instr} {r : Result Decoded Refusal} {x : Instr} {m : ℕ} {q : Refusal} → r ≡ decode_answer d → d ≡ decoded x m → r ≡ Err q → ⊥
unanswered {r = r} {x = x} {m = m} {q = q} e f t =
    let g : ◌≡◌ {A = Result Decoded Refusal} (Ok (record { instruction = instruction x; after = m })) (Err q) = sym (e ∙ ap decode_answer f) ∙ t in
    cc
