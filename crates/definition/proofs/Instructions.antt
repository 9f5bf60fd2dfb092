-- Instructions and code: written then read, and read then written.
use Prim.Native.Nat.{ℕ, zero, suc, ◌+◌, ◌≤◌, ◌<◌}
use native.Mathlib.Omega.{arith}
use mathlib.Core.Bool.{Bool, true}
use mathlib.Core.List.{List, [], ◌∷◌, ◌++◌}
use mathlib.Core.Path.{◌≡◌, refl, sym, ap, ◌∙◌}
use lib.ListN.{length, get_or, take, length-append}
use lib.Dec.{leb}
use borrow.Author.Tests.{le-leb, leb-true}
use Rattle.definition.specs.Basic.{Bytes, byte_at, pick, both}
use Rattle.definition.specs.Opcode.{Instr, instr, widths, width, size, operands, bytes_of, operand_at, captures_at, instr_at, whole, op_last}
use Rattle.definition.specs.Bytecode.{Code, size_of, encode}
use Rattle.definition.specs.Decode.{decoded, malformed, read_instr, read_code}
use Rattle.definition.specs.Valid.{All, AreBytes, operand_bound, captures_bound, ValidInstr}
use Rattle.definition.proofs.Bytes.{Stands, stands_nil, stands_cons, stands_head, stands_tail, stands_at, stands_front, stands_take, stands_number, number_stands, one-byte}
use Rattle.definition.proofs.Basic.{both_intro, both_left, both_right}
use Rattle.definition.proofs.Items.{passed, Reads, Item, Writes, Whole, item_same, read-items, write_items}

-- a test of every entry of a table
every : (ℕ → Bool) → List ℕ → Bool
every p [] = true
every p (x ∷ xs) = both (p x) (every p xs)

-- then the test holds of each entry
every_get_d : (p : ℕ → Bool) (d : ℕ) → p d ≡ true → (l : List ℕ) → every p l ≡ true → (i : ℕ) → p (get_or l i d) ≡ true
unfolding every
every_get_d p d h [] e i = h
every_get_d p d h (x ∷ xs) e zero = both_left (p x) (every p xs) e
every_get_d p d h (x ∷ xs) e (suc i) = every_get_d p d h xs (both_right (p x) (every p xs) e) i

-- an instruction has at most three operand bytes
pub width_most : (o : ℕ) → width o ≤ 3
unfolding every
width_most o = leb-true (width o) 3 (every_get_d (λ w. leb w 3) 0 refl widths refl o)

-- the operand bytes are as many as the width says
operands-length : (n a b : ℕ) → n ≤ 3 → length (operands n a b) ≡ n
operands-length zero a b h = refl
operands-length (suc zero) a b h = refl
operands-length (suc (suc zero)) a b h = refl
operands-length (suc (suc (suc n))) a b h = omega arith

-- an instruction is as long as its size says
pub size-bytes : (i : Instr) → length (bytes_of i) ≡ size i
size-bytes i = omega (arith, operands-length (width i.op) i.a i.b (width_most i.op))

-- code is as long as its size says
pub code-length : (c : Code) → length (encode c) ≡ size_of c
code-length [] = refl
code-length (i ∷ is) = length-append (encode is) (bytes_of i) ∙ (λ k. code-length is k + size-bytes i k)

-- and has no more instructions than bytes
pub code-count : (c : Code) → length c ≤ size_of c
code-count [] = omega arith
code-count (i ∷ is) = omega (arith, code-count is)

module _ {byte : ℕ → ℕ} where
  -- the operand that stands behind the instruction byte
  operand_stands : (at n a b : ℕ) → a < operand_bound n → Stands byte (at + 1) (operands n a b) → operand_at byte n at ≡ a
  operand_stands at zero a b h s = omega arith
  operand_stands at (suc zero) a b h s = stands_head s ∙ one-byte a h
  operand_stands at (suc (suc zero)) a b h s = stands_number (at + 2) a (omega arith) h s
  operand_stands at (suc (suc (suc n))) a b h s = stands_number (at + 2) a (omega arith) h s

  -- and the captures
  captures_stand : (at n a b : ℕ) → b < captures_bound n → Stands byte (at + 1) (operands n a b) → captures_at byte n at ≡ b
  captures_stand at zero a b h s = omega arith
  captures_stand at (suc zero) a b h s = omega arith
  captures_stand at (suc (suc zero)) a b h s = omega arith
  captures_stand at (suc (suc (suc n))) a b h s = stands_head (stands_at (omega arith) (stands_tail (stands_tail s))) ∙ one-byte b h

  -- a valid instruction that stands there
  instr_stands : (at : ℕ) (i : Instr) → ValidInstr i → Stands byte at (bytes_of i) → instr_at byte at ≡ i
  instr_stands at i v s =
      let e : byte at ≡ i.op = stands_head s in
      let p = ap (λ o. operand_at byte (width o) at) e ∙ operand_stands at (width i.op) i.a i.b v.operand (stands_tail s) in
      let q = ap (λ o. captures_at byte (width o) at) e ∙ captures_stand at (width i.op) i.a i.b v.captures (stands_tail s) in
      λ k. instr (e k) (p k) (q k)

  -- a valid instruction that stands before the end is read
  pub read-instr : {at : ℕ} (end : ℕ) {i : Instr} → ValidInstr i → Stands byte at (bytes_of i) → at + length (bytes_of i) ≤ end → read_instr byte at end ≡ decoded i (at + length (bytes_of i))
  read-instr {at} end {i} v s h =
      let l = size-bytes i in
      let t = both_intro (le-leb i.op op_last v.known) (le-leb (at + 1 + width i.op) end (omega arith)) in
      (λ k. let j = instr_stands at i v s k in pick (both (leb j.op op_last) (leb (at + 1 + width j.op) end)) (decoded j (at + size j)) (malformed at))
      ∙ (λ k. pick (t k) (decoded i (at + sym l k)) (malformed at))

  -- instructions are items that read back
  pub reads_instr : Reads byte bytes_of ValidInstr (read_instr byte)
  reads_instr = record { some = λ i. omega arith; read = λ end v s h. read-instr end v s h }

  -- valid code that stands is read
  pub read-code : {c : Code} → All ValidInstr c → (most at end : ℕ) → size_of c ≤ most → Stands byte at (encode c) → at + size_of c ≡ end → read_code byte most at end ≡ decoded c end
  read-code {c} v most at end h s e = read-items reads_instr v (omega (arith, code-count c)) s (omega (arith, code-length c))

-- a valid instruction's bytes read back as the instruction, whatever follows
pub decode_encode : (i : Instr) → ValidInstr i → (rest : Bytes) → read_instr (byte_at (bytes_of i ++ rest)) 0 (length (bytes_of i ++ rest)) ≡ decoded i (size i)
decode_encode i v rest =
    let b = bytes_of i ++ rest in
    let l : 0 + length (bytes_of i) ≡ size i = omega (arith, size-bytes i) in
    rw l at (read-instr (length b) v (stands_front (bytes_of i) rest) (omega (arith, length-append (bytes_of i) rest)))

module _ {byte : ℕ → ℕ} (small : (i : ℕ) → byte i < 256) where
  -- the operand bytes that were read stand there
  operands-read : (at n : ℕ) → Stands byte (at + 1) (operands n (operand_at byte n at) (captures_at byte n at))
  operands-read at zero = stands_nil (at + 1)
  operands-read at (suc zero) = stands_cons (sym (one-byte (byte (at + 1)) (small (at + 1)))) (stands_nil (at + 1 + 1))
  operands-read at (suc (suc zero)) = number_stands small (at + 2) (omega arith) refl (stands_nil (at + 2 + 1))
  operands-read at (suc (suc (suc n))) =
      let p : at + 3 ≡ at + 2 + 1 = omega arith in
      let last = stands_cons (sym (one-byte (byte (at + 3)) (small (at + 3)))) (stands_nil (at + 3 + 1)) in
      number_stands small (at + 2) (omega arith) refl (stands_at p last)

  -- and are within their bounds
  operand-bound : (at n : ℕ) → operand_at byte n at < operand_bound n
  operand-bound at zero = omega arith
  operand-bound at (suc zero) = small (at + 1)
  operand-bound at (suc (suc n)) = omega (arith, small (at + 1), small (at + 2))

  -- so are the captures
  captures-bound : (at n : ℕ) → captures_at byte n at < captures_bound n
  captures-bound at zero = omega arith
  captures-bound at (suc zero) = omega arith
  captures-bound at (suc (suc zero)) = omega arith
  captures-bound at (suc (suc (suc n))) = small (at + 3)

  -- an instruction that is read stands there, and is valid
  pub write_instr : (at end : ℕ) {i : Instr} {n : ℕ} → read_instr byte at end ≡ decoded i n → Item byte bytes_of ValidInstr at i n
  write_instr at end {i} {n} e =
      let j = instr_at byte at in
      let t = passed (whole byte at end) j (at + size j) at e in
      let k = both_left (leb (byte at) op_last) (leb (at + 1 + width (byte at)) end) t.test in
      let w = width (byte at) in
      item_same t.value t.next
      (record {
        stands = stands_cons refl (operands-read at w);
        upto = ap (λ m. at + m) (size-bytes j);
        sound = record { known = leb-true (byte at) op_last k; operand = operand-bound at w; captures = captures-bound at w };
      })

  -- instructions are items that are written back
  pub writes_instr : Writes byte bytes_of ValidInstr (read_instr byte)
  writes_instr = record { wrote = λ at end e. write_instr at end e }

  -- code that is read stands there, up to the end, and is valid
  pub write_code : (most at end : ℕ) {c : Code} {n : ℕ} → read_code byte most at end ≡ decoded c n → Whole byte bytes_of ValidInstr at c n end most
  write_code most at end e = write_items writes_instr at end most e

-- an instruction that is read ends before the end
instr-fits : (byte : ℕ → ℕ) (at end : ℕ) {i : Instr} {n : ℕ} → read_instr byte at end ≡ decoded i n → n ≤ end
instr-fits byte at end e =
    let j = instr_at byte at in
    let t = passed (whole byte at end) j (at + size j) at e in
    let k = both_right (leb (byte at) op_last) (leb (at + 1 + width (byte at)) end) t.test in
    omega (arith, leb-true (at + 1 + width (byte at)) end k, t.next)

-- an instruction that was read at the front of bytes: its bytes, its size, its bounds
pub record Encodes (b : Bytes) (i : Instr) (n : ℕ) : Type 0 where
  pub bytes : bytes_of i ≡ take n b
  pub length : n ≡ size i
  pub valid : ValidInstr i

-- an instruction reads back as bytes
pub encode_decode : (b : Bytes) → AreBytes b → (i : Instr) (n : ℕ) → read_instr (byte_at b) 0 (length b) ≡ decoded i n → Encodes b i n
encode_decode b a i n e =
    let w = write_instr a.below 0 (length b) e in
    let l : length (bytes_of i) ≡ n = omega (arith, w.upto) in
    record {
      bytes = stands_take b w.stands (omega (arith, instr-fits (byte_at b) 0 (length b) e)) ∙ ap (λ m. take m b) l;
      length = sym l ∙ size-bytes i;
      valid = w.sound;
    }
