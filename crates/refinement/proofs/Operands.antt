-- The operand of a jump that stands in the code area.
use Prim.Native.Nat.{ℕ, ◌+◌, ◌/◌, ◌%◌}
use native.Mathlib.Omega.{arith}
use mathlib.Core.Bool.{Bool, true, false}
use mathlib.Core.List.{[], ◌∷◌, ◌++◌, append_assoc}
use mathlib.Core.Path.{◌≡◌, refl, sym, ap, subst, ◌∙◌}
use lib.ListN.{length, length-append}
use lib.Seq.{sets, length-sets}
use lib.Dec.{T, eqb, ltb}
use borrow.Author.Tests.{eqb-true, lt-ltb}
use Rattle.definition.specs.Basic.{Bytes, pick}
use Rattle.definition.specs.Limit.{code_size}
use Rattle.definition.specs.Opcode.{Instr, instr, operands, bytes_of}
use Rattle.definition.specs.Bytecode.{Code, encode, size_of}
use Rattle.definition.specs.Compiler.{without_last, change_operand}
use Rattle.definition.proofs.Instructions.{code-length}
use Rattle.definition.proofs.Jumps.{is_jump, jump_at, size_of-change_operand}
use Rattle.definition.proofs.Limits.{jump-width}
use Rattle.scope.specs.declared.Chunk.{Chunk}
use Rattle.refinement.specs.Relation.{Coded}
use Rattle.refinement.proofs.Stores.{sets_over}

-- a number in two bytes
abbrev word : ℕ → Bytes
word t = t / 256 % 256 ∷ t % 256 ∷ []

-- code whose operand of two bytes at a position becomes another
record Operand (j t : ℕ) (c d : Code) : Type 0 where
  front : Bytes
  operand : ℕ
  back : Bytes
  place : length front ≡ j + 1
  old : encode c ≡ front ++ (word operand ++ back)
  new : encode d ≡ front ++ (word t ++ back)

-- of a jump that is last
operand_last : (t : ℕ) (i : Instr) (is : Code) → T (is_jump i) → Operand (size_of is) t (i ∷ is) (instr i.op t i.b ∷ is)
operand_last t i is h =
    let w = jump-width i h in
    record {
      front = encode is ++ (i.op ∷ []);
      operand = i.a;
      back = [];
      place = omega (arith, length-append (encode is) (i.op ∷ []), code-length is);
      old = (λ k. encode is ++ (i.op ∷ operands (w k) i.a i.b)) ∙ simp append_assoc;
      new = (λ k. encode is ++ (i.op ∷ operands (w k) t i.b)) ∙ simp append_assoc;
    }

-- of a jump further in front
operand_before : {j t : ℕ} {c d : Code} (i : Instr) → Operand j t c d → Operand j t (i ∷ c) (i ∷ d)
operand_before i o =
    record {
      front = o.front;
      operand = o.operand;
      back = o.back ++ bytes_of i;
      place = o.place;
      old = ap (λ b. b ++ bytes_of i) o.old ∙ simp append_assoc;
      new = ap (λ b. b ++ bytes_of i) o.new ∙ simp append_assoc;
    }

-- of the jump at a position
operand_at : (j t : ℕ) (c : Code) → T (jump_at j c) → Operand j t c (change_operand j t c)
operand_at j t [] h = absurd h
operand_at j t (i ∷ is) h = go (eqb (size_of is) j) refl (operand_at j t is) h
  where
    go : (b : Bool) → eqb (size_of is) j ≡ b → (T (jump_at j is) → Operand j t is (change_operand j t is)) → T (pick b (is_jump i) (jump_at j is))
        → Operand j t (i ∷ is) (pick b (instr i.op t i.b ∷ is) (i ∷ change_operand j t is))
    go true e f h = subst (λ j. Operand j t (i ∷ is) (instr i.op t i.b ∷ is)) (eqb-true (size_of is) j e) (operand_last t i is h)
    go false e f h = operand_before i (f h)

-- the last instruction stays where it is
last_changed : (j t : ℕ) (c : Code) → size_of (without_last (change_operand j t c)) ≡ size_of (without_last c)
last_changed j t [] = refl
last_changed j t (i ∷ is) = go (eqb (size_of is) j)
  where
    go : (b : Bool) → size_of (without_last (pick b (instr i.op t i.b ∷ is) (i ∷ change_operand j t is))) ≡ size_of is
    go true = refl
    go false = size_of-change_operand j t is

-- and the one before it
pub prev_changed : (j t : ℕ) (c : Code) → size_of (without_last (without_last (change_operand j t c))) ≡ size_of (without_last (without_last c))
prev_changed j t [] = refl
prev_changed j t (i ∷ is) = go (eqb (size_of is) j)
  where
    go : (b : Bool) → size_of (without_last (without_last (pick b (instr i.op t i.b ∷ is) (i ∷ change_operand j t is)))) ≡ size_of (without_last is)
    go true = refl
    go false = last_changed j t is

module _ {n : ℕ} {around : Bytes} {a : ℕ} {c : Code} {b : Bytes} {k : Chunk} (r : Coded n around a c b k) (j : ℕ) (h : T (jump_at j c)) where
  -- the operand's bytes lie in the code area
  pub patch-fits : ltb (k.start + j + 2) code_size ≡ true
  patch-fits =
      let o = operand_at j 0 c h in
      lt-ltb (k.start + j + 2) code_size (omega (arith, o.place, code-length c, ap length o.old, length-append o.front (word o.operand ++ o.back)))

  -- the jump at a position goes to the end
  pub patch_coded : Coded n around a (change_operand j (size_of c) c) (sets b (k.start + j + 1) (k.len / 256 % 256 ∷ k.len % 256 ∷ [])) k
  patch_coded =
      let o = operand_at j (size_of c) c h in
      let front = around ++ o.front in
      let back = o.back ++ r.rest in
      let l : length front ≡ k.start + j + 1 = omega (arith, length-append around o.front, o.place) in
      let old : b ≡ front ++ (word o.operand ++ back) = r.bytes ∙ ap (λ b. around ++ (b ++ r.rest)) o.old ∙ simp append_assoc in
      let new : around ++ (encode (change_operand j (size_of c) c) ++ r.rest) ≡ front ++ (word (size_of c) ++ back) = ap (λ b. around ++ (b ++ r.rest)) o.new ∙ simp append_assoc in
      record {
        rest = r.rest;
        bytes = (λ i. sets (old i) (k.start + j + 1) (word (r.len i))) ∙ sets_over front (word o.operand) (word (size_of c)) back (k.start + j + 1) l refl ∙ sym new;
        area = length-sets b (k.start + j + 1) (word k.len) ∙ r.area;
        before = r.before;
        start = r.start;
        len = r.len ∙ sym (size_of-change_operand j (size_of c) c);
        last = r.last ∙ sym (last_changed j (size_of c) c);
        room = omega (arith, size_of-change_operand j (size_of c) c);
      }
