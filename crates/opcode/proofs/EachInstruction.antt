-- Going over the instructions of a part of bytes.
use Rattle.std.proofs.Common.{◌≡◌, ℕ, ◌+◌, ◌<◌, ◌≤◌, Bool, true, false, ltb, ltb-true, ltb-false, length, refl, sym, ap, ◌∙◌, subst}
use Rattle.std.specs.Prelude.{Some, None, Result, Ok, Err}
use Rattle.definition.specs.Basic.{Bytes, byte_at}
use Rattle.definition.specs.Number.{refusal, bad_instruction}
use Rattle.definition.specs.Opcode.{instr_at, width, whole}
use Rattle.definition.specs.Decode.{read_instr}
use Rattle.definition.specs.declared.reason.Refusal.{Refusal}
use Rattle.opcode.specs.Decoding.{size_at, instruction, read_before, decode_answer, found as instruction_found}
use Rattle.opcode.specs.declared.Decoded.{Decoded}
use Rattle.opcode.proofs.Decoding.{before_within}
use Rattle.opcode.specs.declared.Instruction.{Instruction}
use Rattle.opcode.specs.Instructions.{NextIs, Ended}
use Rattle.opcode.specs.declared.instructions.Instructions.{Instructions}

-- it goes over these bytes, up to this offset
pub record Over (b : Bytes) (end : ℕ) (s : Instructions) : Type 0 where
  pub code : s.code.now ≡ b
  pub stops : s.end ≡ end

-- where a loop begins
pub over_new : {b : Bytes} {end : ℕ} {s n : Instructions} → s ≡ n → n.code.now ≡ b → n.end ≡ end → Over b end s
over_new e p q = record { code = ap (λ (s : Instructions). s.code.now) e ∙ p; stops = ap (λ (s : Instructions). s.end) e ∙ q }

pub starts_at : {start : ℕ} {s n : Instructions} → s ≡ n → n.at ≡ start → start ≡ s.at
starts_at e p = sym (ap (λ (s : Instructions). s.at) e ∙ p)

-- what was read at an offset
pub record ReadAt (b : Bytes) (end at : ℕ) (i : Instruction) (after : ℕ) : Type 0 where
  pub before : at < end
  pub read : decode_answer (read_before b at end) ≡ instruction_found i after

-- what was read stands there whole, up to the offset behind it
module _ {b : Bytes} {end at after : ℕ} {i : Instruction} (r : ReadAt b end at i after) (w : end ≤ length b) where
  pub record Sized : Type 0 where
    pub long : ℕ
    pub is : Some long ≡ size_at (byte_at b) at end
    pub upto : after ≡ at + long

  pub sized : Sized
  sized = go (whole (byte_at b) at end) refl
    where
      e : decode_answer (read_instr (byte_at b) at end) ≡ instruction_found i after
      e = ap decode_answer (sym (before_within b at end w)) ∙ r.read

      go : (t : Bool) → whole (byte_at b) at end ≡ t → Sized
      go true t =
          let v : Decoded = record { instruction = instruction (instr_at (byte_at b) at); after = at + (1 + width (byte_at b at)) } in
          let u : Decoded = record { instruction = i; after = after } in
          let f : ◌≡◌ {A = Result Decoded Refusal} (Ok v) (Ok u) = rw t at e in
          let g : v ≡ u = cc in
          record { long = 1 + width (byte_at b at); is = rw t; upto = sym (ap (λ (d : Decoded). d.after) g) }
      go false t = let f : ◌≡◌ {A = Result Decoded Refusal} (Err (refusal bad_instruction at)) (instruction_found i after) = rw t at e in cc

module _ {b : Bytes} {end : ℕ} {s : Instructions} (o : Over b end s) where
  module _ {at after : ℕ} {i : Instruction} {t : Instructions} (n : NextIs s at i after t) where
    pub over_again : Over b end t
    over_again = record { code = n.code ∙ o.code; stops = n.end ∙ o.stops }

    pub read_at : ReadAt b end at i after
    read_at =
        record {
          before = subst (λ a. a < end) (sym n.here) (subst (λ e. s.at < e) o.stops n.before);
          read = (λ j. decode_answer (read_before (sym o.code j) (n.here j) (sym o.stops j))) ∙ n.read;
        }

  -- none was left, if none that stands there is refused
  pub all_read : Ended s → (s.at < end → (q : Refusal) → decode_answer (read_before b s.at end) ≡ Err q → ⊥) → end ≤ s.at
  all_read e h = go (ltb s.at end) refl
    where
      go : (t : Bool) → ltb s.at end ≡ t → end ≤ s.at
      go true t =
          let l = ltb-true s.at end t in
          let r = e.refused (subst (λ n. s.at < n) (sym o.stops) l) in
          absurd (h l r.0 ((λ j. decode_answer (read_before (sym o.code j) s.at (sym o.stops j))) ∙ r.1))
      go false t = ltb-false s.at end t

  -- where it ended before the end, none stands
  pub none_stands : Ended s → end ≤ length b → s.at < end → None ≡ size_at (byte_at b) s.at end
  none_stands e w l = go (whole (byte_at b) s.at end) refl
    where
      r : (q : Refusal) × (decode_answer (read_instr (byte_at b) s.at end) ≡ Err q)
      r =
          let r = e.refused (subst (λ n. s.at < n) (sym o.stops) l) in
          (r.0, ap decode_answer (sym (before_within b s.at end w)) ∙ (λ j. decode_answer (read_before (sym o.code j) s.at (sym o.stops j))) ∙ r.1)

      go : (t : Bool) → whole (byte_at b) s.at end ≡ t → None ≡ size_at (byte_at b) s.at end
      go true t =
          let v : Decoded = record { instruction = instruction (instr_at (byte_at b) s.at); after = s.at + (1 + width (byte_at b s.at)) } in
          let f : ◌≡◌ {A = Result Decoded Refusal} (Ok v) (Err r.0) = rw t at r.1 in
          cc
      go false t = rw t

  -- none was left, if one stands wherever the end was not reached
  pub all_stand : Ended s → end ≤ length b → (s.at < end → None ≡ size_at (byte_at b) s.at end → ⊥) → end ≤ s.at
  all_stand e w h = go (ltb s.at end) refl
    where
      go : (t : Bool) → ltb s.at end ≡ t → end ≤ s.at
      go true t = let l = ltb-true s.at end t in absurd (h l (none_stands e w l))
      go false t = ltb-false s.at end t
