-- The operand of an instruction that stands in the image, by its number of operand bytes; and the instruction with another operand over it.
use Prim.Native.Nat.{ℕ, zero, suc, ◌+◌, ◌-◌, ◌*◌, ◌/◌, ◌%◌, ◌≤◌, ◌<◌}
use native.Mathlib.Omega.{arith}
use mathlib.Core.Bool.{Bool, true, false}
use mathlib.Core.List.{[], ◌∷◌, ◌++◌, append_assoc}
use Rattle.std.specs.Prelude.{Option, None, Some, Ok, Err}
use mathlib.Core.Path.{◌≡◌, refl, sym, ap, ◌∙◌}
use lib.ListN.{length, drop, set, length-append, length-drop}
use lib.Dec.{leb, eqb}
use borrow.Author.Tests.{leb-true, leb-false, lt-ltb, le-leb, lt-leb, eq-eqb, ne_eqb}
use Rattle.definition.specs.Basic.{Bytes, byte_at, pick}
use Rattle.definition.specs.Opcode.{Instr, instr, width, operands, bytes_of, operand_at, instr_at, op_jump, op_jump_not_truthy}
use Rattle.definition.proofs.Basic.{pick_true, pick_false}
use Rattle.definition.proofs.Bytes.{Stands}
use Rattle.bytecode.specs.declared.Form.{Form}
use Rattle.bytecode.specs.declared.Form.TheVariants.{Plain, Chin}
use Rattle.chin.specs.Turn.{exchanged, turned, jumps, Jump, Made, made, stopped, with_operand, operand_of, turn_instr}
use Rattle.chin.specs.Rows.{jump_of, wide_operand, verdict, Same, stored_operand, InstrIn, TurnsInstr}
use Rattle.chin.proofs.Operands.{jump-width}
use Rattle.chin.proofs.Rows.{made_once}
use Rattle.chin.proofs.Turns.{got}
use Rattle.chin.proofs.Stores.{front, set_two}

-- a jump's operand, by the form and by the test
pub distance_before : {f : Form} {end a : ℕ} → f ≡ Plain → a < end → None ≡ (jump_of f end a)
distance_before {end = end} {a} e h = sym (ap (λ g. jump_of g end a) e ∙ (pick_false (Some (exchanged (a - end))) None (lt-leb end a h)))

pub distance_after : {f : Form} {end a x : ℕ} → f ≡ Plain → end ≤ a → x ≡ exchanged (a - end) → Some x ≡ (jump_of f end a)
distance_after {end = end} {a} e h k = ap Some k ∙ sym (ap (λ g. jump_of g end a) e ∙ (pick_true (Some (exchanged (a - end))) None (le-leb end a h)))

pub target_past : {f : Form} (end a : ℕ) {x : ℕ} → f ≡ Chin → x ≡ exchanged a → 65535 < end + x → None ≡ (jump_of f end a)
target_past end a {x} e k h =
    sym (ap (λ g. jump_of g end a) e ∙ (pick_false (Some (end + exchanged a)) None (lt-leb (end + exchanged a) 65535 (omega arith))))

pub target_within : {f : Form} (end a : ℕ) {x : ℕ} → f ≡ Chin → x ≡ exchanged a → end + x ≤ 65535 → Some (end + x) ≡ (jump_of f end a)
target_within end a {x} e k h =
    ap (λ n. Some (end + n)) k ∙ sym (ap (λ g. jump_of g end a) e ∙ (pick_true (Some (end + exchanged a)) None (le-leb (end + exchanged a) 65535 (omega arith))))

-- an operand of two bytes, by the instruction byte
jumps_so : (jump : Jump) (op end a : ℕ) {r : Option ℕ} → jumps op ≡ true → r ≡ (jump end a) → r ≡ (wide_operand jump op end a)
jumps_so jump op end a e k = k ∙ sym ((pick_true _ _ e))

pub operand-jump : (f : Form) (op end a : ℕ) {r : Option ℕ} → op ≡ op_jump → r ≡ (jump_of f end a) → r ≡ (wide_operand (jump_of f) op end a)
operand-jump f op end a h k = jumps_so (jump_of f) op end a (pick_true true (eqb op op_jump_not_truthy) (eq-eqb op op_jump h)) k

pub operand-jump_not_truthy : (f : Form) (op end a : ℕ) {r : Option ℕ} → op ≡ op_jump_not_truthy → r ≡ (jump_of f end a) → r ≡ (wide_operand (jump_of f) op end a)
operand-jump_not_truthy f op end a h k = jumps_so (jump_of f) op end a (ap jumps h) k

pub operand_stays : (f : Form) (op end a : ℕ) {x : ℕ} → (op ≡ op_jump → ⊥) → (op ≡ op_jump_not_truthy → ⊥) → x ≡ exchanged a → Some x ≡ (wide_operand (jump_of f) op end a)
operand_stays f op end a h k e =
    let no : jumps op ≡ false = pick_false true (eqb op op_jump_not_truthy) (ne_eqb op op_jump h) ∙ ne_eqb op op_jump_not_truthy k in
    ap Some e ∙ sym ((pick_false (jump_of f end a) (Some (exchanged a)) no))

-- an operand of fewer than two bytes stays
narrow : (n a : ℕ) → n < 2 → turned n a ≡ a
narrow zero a h = refl
narrow (suc zero) a h = refl
narrow (suc (suc n)) a h = absurd (omega arith)

-- one of two bytes or more
wide : (n a : ℕ) → 2 ≤ n → turned n a ≡ exchanged a
wide zero a h = absurd (omega arith)
wide (suc zero) a h = absurd (omega arith)
wide (suc (suc n)) a h = refl

wide_at : (byte : ℕ → ℕ) (n at : ℕ) → 2 ≤ n → operand_at byte n at ≡ byte (at + 1) * 256 + byte (at + 2)
wide_at byte zero at h = absurd (omega arith)
wide_at byte (suc zero) at h = absurd (omega arith)
wide_at byte (suc (suc n)) at h = refl

-- a jump has two
narrow_stays : (op : ℕ) → width op < 2 → jumps op ≡ false
narrow_stays op h = go (jumps op) refl
  where
    go : (t : Bool) → jumps op ≡ t → jumps op ≡ false
    go true e = absurd (omega (arith, jump-width op e))
    go false e = e

module _ (jump : Jump) (b : Bytes) (start at size : ℕ) (i : InstrIn b start at size) where
  abbrev here : Instr
  here = instr_at (byte_at b) at

  abbrev result : Made Instr
  result = turn_instr jump start (at - start) here

  -- the instruction's end in its chunk
  end_is : at - start + (1 + width (byte_at b at)) ≡ at - start + size
  end_is = ap (λ n. at - start + n) (sym i.long)

  result_narrow : size < 3 → result ≡ made here
  result_narrow h =
      let w : width (byte_at b at) < 2 = omega (arith, i.long) in
      ap (with_operand (start + (at - start)) here) (pick_false _ _ (narrow_stays (byte_at b at) w) ∙ ap Some (narrow (width (byte_at b at)) here.a w))

  operand_wide : 3 ≤ size → operand_of jump here (at - start + (1 + width (byte_at b at))) ≡ wide_operand jump (byte_at b at) (at - start + size) (byte_at b (at + 1) * 256 + byte_at b (at + 2))
  operand_wide h =
      let w : 2 ≤ width (byte_at b at) = omega (arith, i.long) in
      let a = wide_at (byte_at b) (width (byte_at b at)) at w in
      (λ k. pick (jumps (byte_at b at)) (jump (end_is k) here.a) (Some (wide (width (byte_at b at)) here.a w k)))
      ∙ (λ k. pick (jumps (byte_at b at)) (jump (at - start + size) (a k)) (Some (exchanged (a k))))

  -- what becomes of it: without a two-byte operand, without one in the other form, and with one
  pub turns_narrow : size < 3 → (o : Bytes) → TurnsInstr jump b start at size o o (Ok tt)
  turns_narrow h o = record { judged = sym (ap verdict (result_narrow h)); stored = λ j e. sym (pick_false (stored_operand o at j.a) o (lt-leb 3 size h)) }

  module _ (h : 3 ≤ size) where
    pub turns_lacking : wide_operand jump (byte_at b at) (at - start + size) (byte_at b (at + 1) * 256 + byte_at b (at + 2)) ≡ None → (o o' : Bytes) → TurnsInstr jump b start at size o o' (Err (record { place = at }))
    turns_lacking e o o' =
        let there : start + (at - start) ≡ at = omega (arith, i.order) in
        let k : result ≡ stopped at = ap (with_operand (start + (at - start)) here) (operand_wide h ∙ e) ∙ ap stopped there in
        record { judged = sym (ap verdict k); stored = λ j m. let z : ◌≡◌ {A = ℕ} 0 1 = cc in absurd (omega arith) }

    pub turns_wide : {a : ℕ} → wide_operand jump (byte_at b at) (at - start + size) (byte_at b (at + 1) * 256 + byte_at b (at + 2)) ≡ Some a → (o : Bytes)
        → TurnsInstr jump b start at size o (stored_operand o at a) (Ok tt)
    turns_wide {a} e o =
        let k : result ≡ made (instr here.op a here.b) = ap (with_operand (start + (at - start)) here) (operand_wide h ∙ e) in
        record {
          judged = sym (ap verdict k);
          stored = λ j m. ap (λ (x : Instr). stored_operand o at x.a) (made_once (sym k ∙ m)) ∙ sym (pick_true (stored_operand o at j.a) o (le-leb 3 size h));
        }

-- the operand bytes of two and more: two of the operand, and the rest
record Split (n a b : ℕ) : Type 0 where
  rest : Bytes
  are : (x : ℕ) → operands n x b ≡ x / 256 % 256 ∷ x % 256 ∷ rest

split : (n a b : ℕ) → 2 ≤ n → Split n a b
split zero a b h = absurd (omega arith)
split (suc zero) a b h = absurd (omega arith)
split (suc (suc zero)) a b h = record { rest = []; are = λ x. refl }
split (suc (suc (suc n))) a b h = record { rest = b % 256 ∷ []; are = λ x. refl }

-- The instruction with its other operand, in an output that held the image
module _ (jump : Jump) {o₀ b : Bytes} {start end at size : ℕ} (i : InstrIn b start at size) (s : Same o₀ b start end) (within : at + size ≤ end)
    (st : Stands (byte_at b) at (bytes_of (instr_at (byte_at b) at))) (long : length (bytes_of (instr_at (byte_at b) at)) ≡ size)
    {j : Instr} (e : turn_instr jump start (at - start) (instr_at (byte_at b) at) ≡ made j) (p : Bytes) (l : length p ≡ at) {o : Bytes} (is : o ≡ p ++ drop at o₀) where
  behind : drop at o₀ ≡ bytes_of (instr_at (byte_at b) at) ++ drop (at + size) o₀
  behind = front s at (bytes_of (instr_at (byte_at b) at)) i.order (omega (arith, i.order)) st ∙ ap (λ n. bytes_of (instr_at (byte_at b) at) ++ drop (at + n) o₀) long

  stored_narrow : size < 3 → o ≡ (p ++ bytes_of j) ++ drop (at + size) o₀
  stored_narrow h =
      let same : instr_at (byte_at b) at ≡ j = made_once (sym (result_narrow jump b start at size i h) ∙ e) in
      is ∙ ap (λ z. p ++ z) behind ∙ sym (append_assoc p (bytes_of (instr_at (byte_at b) at)) (drop (at + size) o₀)) ∙ ap (λ (x : Instr). (p ++ bytes_of x) ++ drop (at + size) o₀) same

  stored_wide : 3 ≤ size → stored_operand o at j.a ≡ (p ++ bytes_of j) ++ drop (at + size) o₀
  stored_wide h =
      let g = got (start + (at - start)) (instr_at (byte_at b) at) (operand_of jump (instr_at (byte_at b) at) (at - start + (1 + width (byte_at b at)))) e in
      let w : 2 ≤ width (byte_at b at) = omega (arith, i.long) in
      let c = (instr_at (byte_at b) at).b in
      let q = split (width (byte_at b at)) (instr_at (byte_at b) at).a c w in
      let r = drop (at + size) o₀ in
      let a = (instr_at (byte_at b) at).a in
      let first : o ≡ p ++ (byte_at b at ∷ a / 256 % 256 ∷ a % 256 ∷ (q.rest ++ r)) = is ∙ ap (λ z. p ++ z) behind ∙ ap (λ z. p ++ (byte_at b at ∷ (z ++ r))) (q.are a) in
      let lengths = omega_length in
      pick_true (set (set o (at + 1) (j.a / 256 % 256)) (at + 2) (j.a % 256)) o (lt-ltb (at + 2) (length o) lengths)
      ∙ ap (λ z. set (set z (at + 1) (j.a / 256 % 256)) (at + 2) (j.a % 256)) first
      ∙ set_two p (byte_at b at) (a / 256 % 256) (a % 256) (j.a / 256 % 256) (j.a % 256) (q.rest ++ r) at l
      ∙ ap (λ z. p ++ (byte_at b at ∷ (z ++ r))) (sym (q.are j.a))
      ∙ ap (λ (x : Instr). p ++ ((byte_at b at ∷ operands (width (byte_at b at)) x.a c) ++ r)) (sym g.same)
      ∙ ap (λ (x : Instr). p ++ (bytes_of x ++ r)) g.same
      ∙ sym (append_assoc p (bytes_of j) r)
    where
      omega_length : at + 2 < length o
      omega_length = omega (arith, ap length is, length-append p (drop at o₀), length-drop at o₀, s.room)

  pub stored-instr : {o' : Bytes} → o' ≡ pick (leb 3 size) (stored_operand o at j.a) o → o' ≡ (p ++ bytes_of j) ++ drop (at + size) o₀
  stored-instr {o'} k = go (leb 3 size) refl k
    where
      go : (t : Bool) → leb 3 size ≡ t → o' ≡ pick t (stored_operand o at j.a) o → o' ≡ (p ++ bytes_of j) ++ drop (at + size) o₀
      go true h m = m ∙ stored_wide (leb-true 3 size h)
      go false h m = m ∙ stored_narrow (leb-false 3 size h)
