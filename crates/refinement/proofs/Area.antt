-- The chunk in work: what each step on the code area does to the code that stands there.
use Prim.Native.Nat.{ℕ, ◌+◌, ◌≤◌}
use native.Mathlib.Omega.{arith}
use mathlib.Core.Bool.{true}
use mathlib.Core.List.{[], ◌∷◌, ◌++◌, append_assoc}
use mathlib.Core.Path.{◌≡◌, refl, sym, ap, ◌∙◌}
use lib.ListN.{length, set, take, drop, length-append, length-set}
use lib.Seq.{sets, length-sets, set_at, get_or_at, take_at, drop_at}
use lib.Dec.{eqb, ltb}
use borrow.Author.Tests.{eqb-true, lt-ltb}
use Rattle.definition.specs.Basic.{Bytes, byte_at, both}
use Rattle.definition.specs.Limit.{code_size}
use Rattle.definition.specs.Opcode.{Instr, plain, width, operands, size, bytes_of, op_pop, op_return_value}
use Rattle.definition.specs.Bytecode.{Code, encode, size_of}
use Rattle.definition.specs.Compiler as Structured
use Rattle.definition.specs.Compiler.{without_last}
use Rattle.definition.proofs.Instructions.{size-bytes, code-length}
use Rattle.definition.proofs.Limits.{without_size}
use Rattle.scope.specs.Machine.{chunk, last_is}
use Rattle.scope.specs.declared.Chunk.{Chunk}
use Rattle.refinement.specs.Relation.{Coded}
use Rattle.refinement.proofs.Stores.{sets_behind}

-- the last instruction's test on bytes
last_byte : (around rest : Bytes) (c : Code) (o a k l : ℕ) → length around ≡ a → k ≡ size_of (without_last c) → l ≡ size_of c
    → both (ltb k l) (eqb (byte_at (around ++ (encode c ++ rest)) (a + k)) o) ≡ Structured.last_is o c
last_byte around rest [] o a k l h p q = rw (p, q) refl
last_byte around rest (i ∷ is) o a k l h p q =
    let t : ltb k l ≡ true = lt-ltb k l (omega arith) in
    let r = operands (width i.op) i.a i.b ++ rest in
    let b : around ++ ((encode is ++ bytes_of i) ++ rest) ≡ (around ++ encode is) ++ (i.op ∷ r) = simp append_assoc in
    let g = get_or_at (around ++ encode is) i.op r 0 (a + k) (omega (arith, length-append around (encode is), code-length is)) in
    (λ j. both (t j) (eqb (byte_at (b j) (a + k)) o)) ∙ ap (λ x. eqb x o) g

-- the last instruction's bytes
last_bytes : Code → Bytes
last_bytes [] = []
last_bytes (i ∷ is) = bytes_of i

-- code is the code before its last instruction, and that
encode_last : (c : Code) → encode c ≡ encode (without_last c) ++ last_bytes c
unfolding last_bytes
encode_last [] = refl
encode_last (i ∷ is) = refl

-- a Pop that is last is one byte
record PopLast (c : Code) : Type 0 where
  bytes : encode c ≡ encode (without_last c) ++ (op_pop ∷ [])
  size : size_of c ≡ size_of (without_last c) + 1

-- where the test says so
pop_last : (c : Code) → Structured.last_is op_pop c ≡ true → PopLast c
pop_last [] e =
    let z : ◌≡◌ {A = ℕ} 0 1 = cc in
    let no : ⊥ = omega arith in
    absurd no
pop_last (i ∷ is) e =
    let o : i.op ≡ op_pop = eqb-true i.op op_pop e in
    record { bytes = λ j. encode is ++ (o j ∷ operands (width (o j)) i.a i.b); size = λ j. size_of is + (1 + width (o j)) }

module _ {n : ℕ} {around : Bytes} {a : ℕ} {c : Code} {b : Bytes} {k : Chunk} (r : Coded n around a c b k) where
  -- what lies behind the code
  rest-length : a + size_of c + length r.rest ≡ n
  rest-length = omega (arith, ap length r.bytes, length-append around (encode c ++ r.rest), length-append (encode c) r.rest, code-length c)

  -- where the code ends
  code_ends : length (around ++ encode c) ≡ k.start + k.len
  code_ends = omega (arith, length-append around (encode c), code-length c)

  -- the chunk's bytes
  pub chunk-bytes : take k.len (drop k.start b) ≡ encode c
  chunk-bytes =
      (λ i. take k.len (drop k.start (r.bytes i)))
      ∙ ap (take k.len) (drop_at around (encode c ++ r.rest) k.start (omega arith))
      ∙ take_at (encode c) r.rest k.len (omega (arith, code-length c))

  -- an instruction more
  pub put_coded : code_size ≤ n → (i : Instr) → a + size_of c + size i ≤ code_size
      → Coded n around a (i ∷ c) (sets b (k.start + k.len) (bytes_of i)) (chunk k.start (k.len + size i) k.len k.last)
  put_coded wide i h =
      let l : length (bytes_of i) ≤ length r.rest = omega (arith, rest-length, size-bytes i) in
      record {
        rest = drop (length (bytes_of i)) r.rest;
        bytes =
            ap (λ b. sets b (k.start + k.len) (bytes_of i)) (r.bytes ∙ sym (append_assoc around (encode c) r.rest))
            ∙ sets_behind (around ++ encode c) (bytes_of i) r.rest (k.start + k.len) code_ends l
            ∙ simp append_assoc;
        area = length-sets b (k.start + k.len) (bytes_of i) ∙ r.area;
        before = r.before;
        start = r.start;
        len = ap (λ k. k + size i) r.len;
        last = r.len;
        room = omega arith;
      }

  -- the last instruction's test
  pub last-is : (o : ℕ) → Structured.last_is o c ≡ last_is o b k
  last-is o =
      sym ((λ j. both (ltb k.last k.len) (eqb (byte_at (r.bytes j) (r.start j + k.last)) o)) ∙ last_byte around r.rest c o a k.last k.len r.before r.last r.len)

  -- it is dropped
  pub drop_coded : k.prev ≡ size_of (without_last (without_last c)) → Coded n around a (without_last c) b (chunk k.start k.last k.prev k.prev)
  drop_coded p =
      record {
        rest = last_bytes c ++ r.rest;
        bytes = r.bytes ∙ ap (λ b. around ++ (b ++ r.rest)) (encode_last c) ∙ simp append_assoc;
        area = r.area;
        before = r.before;
        start = r.start;
        len = r.last;
        last = p;
        room = omega (arith, without_size c);
      }

  -- a last Pop becomes ReturnValue
  pub return_coded : Structured.last_is op_pop c ≡ true → Coded n around a (plain op_return_value ∷ without_last c) (set b (k.start + k.last) op_return_value) k
  return_coded e =
      let p = pop_last c e in
      let front = around ++ encode (without_last c) in
      let x : b ≡ front ++ (op_pop ∷ r.rest) = r.bytes ∙ ap (λ b. around ++ (b ++ r.rest)) p.bytes ∙ simp append_assoc in
      let l : length front ≡ k.start + k.last = omega (arith, length-append around (encode (without_last c)), code-length (without_last c)) in
      record {
        rest = r.rest;
        bytes = ap (λ b. set b (k.start + k.last) op_return_value) x ∙ set_at front op_pop r.rest op_return_value (k.start + k.last) l ∙ simp append_assoc;
        area = length-set b (k.start + k.last) op_return_value ∙ r.area;
        before = r.before;
        start = r.start;
        len = r.len ∙ p.size;
        last = r.last;
        room = omega (arith, p.size);
      }

-- an empty chunk behind the chunk in work
pub inside_coded : {n : ℕ} {around : Bytes} {a : ℕ} {c : Code} {b : Bytes} {k : Chunk} → Coded n around a c b k → Coded n (around ++ encode c) (a + size_of c) [] b (chunk (k.start + k.len) 0 0 0)
inside_coded {around = around} {c = c} r =
    record {
      rest = r.rest;
      bytes = r.bytes ∙ sym (append_assoc around (encode c) r.rest);
      area = r.area;
      before = code_ends r ∙ (λ j. r.start j + r.len j);
      start = λ j. r.start j + r.len j;
      len = refl;
      last = refl;
      room = omega arith;
    }

-- the chunk around it again, with the inner chunk's bytes behind it
pub outside_coded : {n : ℕ} {around : Bytes} {a : ℕ} {c : Code} {b : Bytes} {k : Chunk} → Coded n around a c b k
    → {a' : ℕ} {c' : Code} {b' : Bytes} {k' : Chunk} → Coded n (around ++ encode c) a' c' b' k' → Coded n around a c b' k
outside_coded {around = around} {c = c} r {c' = c'} r' =
    record {
      rest = encode c' ++ r'.rest;
      bytes = r'.bytes ∙ append_assoc around (encode c) (encode c' ++ r'.rest);
      area = r'.area;
      before = r.before;
      start = r.start;
      len = r.len;
      last = r.last;
      room = r.room;
    }
