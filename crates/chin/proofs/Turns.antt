-- A translated instruction, constant and image: as long, within the limits, with its literals where they were; and the way back.
use Prim.Native.Nat.{ℕ, zero, suc, ◌+◌, ◌-◌, ◌<◌}
use native.Mathlib.Omega.{arith}
use mathlib.Core.Bool.{Bool, true, false}
use mathlib.Core.List.{List, ◌∷◌, ◌++◌}
use Rattle.std.specs.Prelude.{Option, None, Some}
use mathlib.Core.Path.{◌≡◌, refl, sym, ap, ◌∙◌}
use lib.ListN.{length}
use lib.Dec.{leb, eqb}
use Rattle.definition.specs.Basic.{pick}
use Rattle.definition.specs.Opcode.{Instr, instr, width, size, operands, bytes_of, op_true, op_false}
use Rattle.definition.specs.Bytecode.{Code, size_of, encode, Const, content, pool_size, Image}
use Rattle.definition.specs.Literal.{none_of, instr_mask, const_mask, image_mask, field_mask}
use Rattle.definition.specs.Valid.{All, operand_bound, ValidInstr, ValidConst, ValidImage}
use Rattle.definition.proofs.Instructions.{code-length}
use Rattle.chin.specs.Turn.{exchanged, turned, low_first, jumps, Jump, distance, made, along, with_operand, operand_of, turn_instr, turn_code, turn_const, turn_pool, turn_image}
use Rattle.chin.proofs.Rows.{first, made_once, Pairwise, pairwise_length, Turns, turned-row, Sized, pairwise_size, Undone, undone_row, pairwise_all, pairwise_masks}
use Rattle.chin.proofs.Operands.{turned_bound, turned_twice, turned-bytes, jump-width, chosen_some, Returns}

-- an instruction's other operand
pub record Got (i : Instr) (o : Option ℕ) (j : Instr) : Type 0 where
  pub operand : ℕ
  pub found : o ≡ Some operand
  pub same : instr i.op operand i.b ≡ j

pub got : (p : ℕ) (i : Instr) (o : Option ℕ) {j : Instr} → with_operand p i o ≡ made j → Got i o j
got p i (Some a) e = record { operand = a; found = refl; same = made_once e }
got p i None e = let z : ◌≡◌ {A = ℕ} 0 1 = cc in absurd (omega arith)

-- an instruction and its other form
pub record SameInstr (i j : Instr) : Type 0 where
  pub op : j.op ≡ i.op
  pub mask : instr_mask j ≡ instr_mask i
  pub valid : ValidInstr j

-- the places of operand bytes do not depend on them
operands_mask : (n a x b : ℕ) → none_of (operands n x b) ≡ none_of (operands n a b)
operands_mask zero a x b = refl
operands_mask (suc zero) a x b = refl
operands_mask (suc (suc zero)) a x b = refl
operands_mask (suc (suc (suc n))) a x b = refl

-- a constant and its other form
pub record SameConst (c d : Const) : Type 0 where
  pub long : length (content d) ≡ length (content c)
  pub mask : const_mask d ≡ const_mask c
  pub valid : ValidConst d

-- an image and its other form
pub record SameImage (m n : Image) : Type 0 where
  pub code : size_of n.code ≡ size_of m.code
  pub pool : pool_size n.pool ≡ pool_size m.pool
  pub mask : image_mask n ≡ image_mask m
  pub valid : ValidImage n

module _ {f g : Jump} (r : Returns f g) where
  -- the other operand is within its bound, and comes back
  record Other (i : Instr) (end a : ℕ) : Type 0 where
    bound : a < operand_bound (width i.op)
    back : operand_of g (instr i.op a i.b) end ≡ Some i.a

  other : (i : Instr) → ValidInstr i → (end : ℕ) {a : ℕ} → operand_of f i end ≡ Some a → Other i end a
  other i v end {a} e = go (jumps i.op) refl e
    where
      go : (b : Bool) → jumps i.op ≡ b → pick b (f end i.a) (Some (turned (width i.op) i.a)) ≡ Some a → Other i end a
      go true t e =
          let w : operand_bound (width i.op) ≡ 65536 = ap operand_bound (jump-width i.op t) in
          let h : i.a < 65536 = omega (arith, v.operand) in
          let k = r.small end h e in
          record { bound = omega arith; back = ap (λ b. pick b (g end a) (Some (turned (width i.op) a))) t ∙ r.back end h e }
      go false t e =
          let n = width i.op in
          let s : turned n i.a ≡ a = cc in
          record {
            bound = rw s at (turned_bound n i.a v.operand);
            back = ap (λ b. pick b (g end a) (Some (turned n a))) t ∙ ap Some (ap (turned n) (sym s) ∙ turned_twice n i.a v.operand);
          }

  turns-instr : (start : ℕ) → Turns SameInstr size_of ValidInstr (turn_instr f start)
  turns-instr start =
      record {
        turns =
            λ at i j v e.
            let o = got (start + at) i (operand_of f i (at + size i)) e in
            let q = other i v (at + size i) o.found in
            let mask = ap (λ m. pick (eqb i.op op_true) true (eqb i.op op_false) ∷ m) (operands_mask (width i.op) i.a o.operand i.b) in
            rw (← o.same) (record { op = refl; mask = mask; valid = record { known = v.known; operand = q.bound; captures = v.captures } });
      }

  undone_instr : (start : ℕ) → Undone SameInstr size_of ValidInstr (turn_instr f start) (turn_instr g start)
  undone_instr start =
      record {
        undone =
            λ at i j v e.
            let o = got (start + at) i (operand_of f i (at + size i)) e in
            let q = other i v (at + size i) o.found in
            ap (turn_instr g start at) (sym o.same) ∙ ap (with_operand (start + at) (instr i.op o.operand i.b)) q.back;
      }

  sized-code : Sized SameInstr size_of
  sized-code = record { longer = λ x y xs ys s e i. e i + (1 + width (s.op i)) }

  -- code
  pub turn-code : (start : ℕ) {c d : Code} → All ValidInstr c → turn_code f start c ≡ made d → Pairwise SameInstr c d
  turn-code start v e = turned-row SameInstr size_of (turns-instr start) v e

  pub code-size : {c d : Code} → Pairwise SameInstr c d → size_of d ≡ size_of c
  code-size p = pairwise_size SameInstr size_of sized-code p

  code_back : (start : ℕ) {c d : Code} → All ValidInstr c → turn_code f start c ≡ made d → turn_code g start d ≡ made c
  code_back start v e = undone_row SameInstr size_of sized-code (turns-instr start) (undone_instr start) v e

  -- constants
  pub turn-const : (at : ℕ) (c : Const) {d : Const} → ValidConst c → turn_const f at c ≡ made d → SameConst c d
  turn-const at (Const.integer b) v e = rw (← (made_once e)) (record { long = refl; mask = refl; valid = v })
  turn-const at (Const.string b) v e = rw (← (made_once e)) (record { long = refl; mask = refl; valid = v })
  turn-const at (Const.function l p c) v e =
      let q = first (turn_code f (at + 3) c) (λ d. made (Const.function l p d)) e in
      let w = turn-code (at + 3) v.2 q.made₁ in
      let long : length (encode q.value) ≡ length (encode c) = omega (arith, code-length c, code-length q.value, code-size w) in
      rw (← (made_once q.rest))
      (record {
        long = ap (λ n. suc (suc (suc n))) long;
        mask = ap (λ m. field_mask (false ∷ false ∷ false ∷ m)) (pairwise_masks instr_mask (λ _ _ s. s.mask) w);
        valid = (v.0, v.1, pairwise_all ValidInstr (λ _ _ s. s.valid) w);
      })

  const_back : (at : ℕ) (c : Const) {d : Const} → ValidConst c → turn_const f at c ≡ made d → turn_const g at d ≡ made c
  const_back at (Const.integer b) v e = rw (← (made_once e)) refl
  const_back at (Const.string b) v e = rw (← (made_once e)) refl
  const_back at (Const.function l p c) v e =
      let q = first (turn_code f (at + 3) c) (λ d. made (Const.function l p d)) e in
      ap (turn_const g at) (sym (made_once q.rest)) ∙ (λ i. along (code_back (at + 3) v.2 q.made₁ i) (λ d. made (Const.function l p d)))

  turns_const : (start : ℕ) → Turns SameConst pool_size ValidConst (λ at. turn_const f (start + at + 3))
  turns_const start = record { turns = λ at c d v e. turn-const (start + at + 3) c v e }

  undone_const : (start : ℕ) → Undone SameConst pool_size ValidConst (λ at. turn_const f (start + at + 3)) (λ at. turn_const g (start + at + 3))
  undone_const start = record { undone = λ at c d v e. const_back (start + at + 3) c v e }

  sized-pool : Sized SameConst pool_size
  sized-pool = record { longer = λ x y xs ys s e i. e i + (3 + s.long i) }

  turn-pool : (start : ℕ) {cs ds : List Const} → All ValidConst cs → turn_pool f start cs ≡ made ds → Pairwise SameConst cs ds
  turn-pool start v e = turned-row SameConst pool_size (turns_const start) v e

  pool_back : (start : ℕ) {cs ds : List Const} → All ValidConst cs → turn_pool f start cs ≡ made ds → turn_pool g start ds ≡ made cs
  pool_back start v e = undone_row SameConst pool_size sized-pool (turns_const start) (undone_const start) v e

  -- an image
  pub turn-image : {m n : Image} → ValidImage m → turn_image f m ≡ made n → SameImage m n
  turn-image {m} {n} v e =
      let start = 6 + size_of m.code in
      let c = first (turn_code f 3 m.code) (λ c. along (turn_pool f start m.pool) (λ cs. made (record { code = c; pool = cs }))) e in
      let p = first (turn_pool f start m.pool) (λ cs. made (record { code = c.value; pool = cs })) c.rest in
      let w = turn-code 3 v.code c.made₁ in
      let q = turn-pool start v.pool.each p.made₁ in
      let s = code-size w in
      let z = pairwise_size SameConst pool_size sized-pool q in
      let k = v.pool.size in
      rw (← (made_once p.rest))
      (record {
        code = s;
        pool = z;
        mask = λ i. field_mask (pairwise_masks instr_mask (λ _ _ s. s.mask) w i) ++ field_mask (pairwise_masks const_mask (λ _ _ s. s.mask) q i);
        valid =
            record {
              size = omega (arith, v.size);
              code = pairwise_all ValidInstr (λ _ _ s. s.valid) w;
              pool = record { count = omega (arith, v.pool.count, pairwise_length q); size = omega arith; each = pairwise_all ValidConst (λ _ _ s. s.valid) q };
            };
      })

  pub image_back : {m n : Image} → ValidImage m → turn_image f m ≡ made n → turn_image g n ≡ made m
  image_back {m} {n} v e =
      let start = 6 + size_of m.code in
      let c = first (turn_code f 3 m.code) (λ c. along (turn_pool f start m.pool) (λ cs. made (record { code = c; pool = cs }))) e in
      let p = first (turn_pool f start m.pool) (λ cs. made (record { code = c.value; pool = cs })) c.rest in
      let s = code-size (turn-code 3 v.code c.made₁) in
      let code = code_back 3 v.code c.made₁ in
      let pool = pool_back start v.pool.each p.made₁ in
      ap (turn_image g) (sym (made_once p.rest))
      ∙ (λ i. along (code i) (λ c'. along (turn_pool g (6 + s i) p.value) (λ cs. made (record { code = c'; pool = cs }))))
      ∙ (λ i. along (pool i) (λ cs. made (record { code = m.code; pool = cs })))

-- what an instruction's operand means in the chin form
abbrev pub meant : Instr → ℕ → ℕ
meant i end = pick (jumps i.op) (i.a - end) i.a

-- the operand is what is meant, exchanged where it has two bytes
pub operand_meant : (i : Instr) (end : ℕ) {a : ℕ} → operand_of distance i end ≡ Some a → turned (width i.op) (meant i end) ≡ a
operand_meant i end {a} e = go (jumps i.op) refl e
  where
    go : (b : Bool) → jumps i.op ≡ b → pick b (distance end i.a) (Some (turned (width i.op) i.a)) ≡ Some a → turned (width i.op) (pick b (i.a - end) i.a) ≡ a
    go true t e = ap (λ n. turned n (i.a - end)) (jump-width i.op t) ∙ (chosen_some (leb end i.a) (exchanged (i.a - end)) e).value
    go false t e = cc

-- The operand rule, for every instruction through the table of operand lengths: the instruction byte, then the operand's low byte first
pub low_byte_first : (start at : ℕ) (i j : Instr) → turn_instr distance start at i ≡ made j → bytes_of j ≡ i.op ∷ low_first (width i.op) (meant i (at + size i)) i.b
low_byte_first start at i j e =
    let o = got (start + at) i (operand_of distance i (at + size i)) e in
    let n = width i.op in
    ap bytes_of (sym o.same) ∙ ap (λ a. i.op ∷ operands n a i.b) (sym (operand_meant i (at + size i) o.found)) ∙ ap (λ x. i.op ∷ x) (turned-bytes n (meant i (at + size i)) i.b)
