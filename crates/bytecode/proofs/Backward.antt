-- Reading code from its end: whether it decodes from an offset, by whether it does behind the instruction there.
use Prim.Native.Nat.{ℕ, zero, suc, ◌+◌, ◌-◌, ◌*◌, ◌/◌, ◌%◌, ◌^◌, ◌≤◌, ◌<◌}
use mathlib.Core.Path.{◌≡◌, ◌∙◌, ap, sym, refl}
use mathlib.Core.Bool.{Bool, true, false}
use mathlib.Core.List.{[], ◌∷◌}
use native.Mathlib.Omega.{arith}
use lib.Dec.{eqb, leb}
use borrow.Author.Tests.{eq-eqb, ne_eqb, eqb-true, eqb-false, leb-true, leb-false}
use Rattle.definition.specs.Basic.{pick, both}
use Rattle.definition.specs.Opcode.{instr_at, width, whole, op_last}
use Rattle.definition.specs.Bytecode.{Code}
use Rattle.definition.specs.Decode.{Decoded, decoded, malformed, items, read_instr, read_code}
use Rattle.opcode.specs.Decoding.{size_at}
use Rattle.opcode.specs.Table.{entry}
use Rattle.opcode.proofs.Widths.{size_end}
use Rattle.definition.proofs.Instructions.{width_most}
use Rattle.opcode.proofs.Decoding.{Stands, stands, read_next, read_none}
use Rattle.std.specs.Prelude.{Option, Some, None, Ok}
use Rattle.bytecode.specs.Checked.{is_read, is_code, item}
use Rattle.bytecode.proofs.Items.{at-end, too-many, one_more, ended}

-- a truth value as a bit
abbrev pub bit : Bool → ℕ
bit true = 1
bit false = 0

bit_small : (b : Bool) → bit b ≤ 1
bit_small true = omega arith
bit_small false = omega arith

-- four truth values as a number, the first lowest
module _ (f : ℕ → Bool) where
  pub four : ℕ → ℕ
  four at = bit (f at) + 2 * bit (f (at + 1)) + 4 * bit (f (at + 2)) + 8 * bit (f (at + 3))

  same : {m n : ℕ} → m ≡ n → bit (f m) ≡ bit (f n)
  same e = ap (λ (n : ℕ). bit (f n)) e

  module _ (at : ℕ) where
    -- the bit of each, and none further up
    pub picked : (w : ℕ) → w ≤ 3 → four at / 2 ^ (w % 64) % 2 ≡ bit (f (at + w))
    unfolding four
    picked zero h =
        let e : four at / 1 % 2 ≡ bit (f at) = omega (arith, bit_small (f at)) in
        e ∙ same (omega arith)
    picked (suc zero) h = omega (arith, bit_small (f at), bit_small (f (at + 1)))
    picked (suc (suc zero)) h = omega (arith, bit_small (f at), bit_small (f (at + 1)), bit_small (f (at + 2)))
    picked (suc (suc (suc zero))) h = omega (arith, bit_small (f at), bit_small (f (at + 1)), bit_small (f (at + 2)), bit_small (f (at + 3)))
    picked (suc (suc (suc (suc w)))) h = absurd (omega arith)

    pub unpicked : four at / 2 ^ 63 % 2 ≡ 0
    unfolding four
    unpicked = omega (arith, bit_small (f at), bit_small (f (at + 1)), bit_small (f (at + 2)), bit_small (f (at + 3)))

    -- one more, and the last of them goes
    pub shifted : four (at + 1) % 8 * 2 + bit (f at) ≡ four at
    unfolding four
    shifted =
        let e : bit (f (at + 1 + 1)) ≡ bit (f (at + 2)) = same (omega arith) in
        let e' : bit (f (at + 1 + 2)) ≡ bit (f (at + 3)) = same (omega arith) in
        omega (arith, bit_small (f (at + 1)), bit_small (f (at + 2)), bit_small (f (at + 3)))

    pub alone : f at ≡ true → f (at + 1) ≡ false → f (at + 2) ≡ false → f (at + 3) ≡ false → 1 ≡ four at
    unfolding four
    alone a b c d = omega (arith, ap bit a, ap bit b, ap bit c, ap bit d)

    pub lowest : eqb (four at % 2) 1 ≡ f at
    unfolding four
    lowest = go (f at) refl
      where
        go : (b : Bool) → f at ≡ b → eqb (four at % 2) 1 ≡ b
        go true e = eq-eqb (four at % 2) 1 (omega (arith, ap bit e))
        go false e = ne_eqb (four at % 2) 1 (λ z. omega (arith, ap bit e))

module _ (byte : ℕ → ℕ) (end : ℕ) where
  -- reading at most so many instructions behind some others
  abbrev read : ℕ → Code → ℕ → Decoded Code
  read most xs at = items (read_instr byte) most xs at end

  -- the next instruction, and none
  further : (most : ℕ) (xs : Code) {at size : ℕ} → (at ≡ end → ⊥) → Stands byte at end size → read (suc most) xs at ≡ read most (instr_at byte at ∷ xs) (at + size)
  further most xs {at} n k = one_more (read_instr byte) end most xs at n ∙ rw (read_next byte at end k)

  stops : (most : ℕ) (xs : Code) {at : ℕ} → (at ≡ end → ⊥) → None ≡ size_at byte at end → read (suc most) xs at ≡ malformed at
  stops most xs {at} n e = one_more (read_instr byte) end most xs at n ∙ rw (read_none byte at end e)

  -- nothing is read past the end
  past : (most : ℕ) (xs : Code) (at : ℕ) → end < at → is_read (read most xs at) ≡ false
  past zero xs at h = ap is_read (too-many (read_instr byte) end xs at (λ e. omega arith))
  past (suc most) xs at h = ap is_read (stops most xs (λ e. omega arith) (size_end byte at end (omega arith)))

  -- at the end and past it, two readings end alike
  ends_alike : (m n : ℕ) (xs ys : Code) (at : ℕ) → end ≤ at → is_read (read m xs at) ≡ is_read (read n ys at)
  ends_alike m n xs ys at h = go (eqb at end) refl
    where
      go : (b : Bool) → eqb at end ≡ b → is_read (read m xs at) ≡ is_read (read n ys at)
      go true t =
          let i = eqb-true at end t in
          ap is_read (at-end (read_instr byte) end m xs at i) ∙ sym (ap is_read (at-end (read_instr byte) end n ys at i))
      go false t =
          let l : end < at = omega (arith, eqb-false at end t) in
          past m xs at l ∙ sym (past n ys at l)

  -- two readings with another instruction to go end alike, stop alike, or go on
  goes_alike : (m n : ℕ) (xs ys : Code) (at : ℕ)
      → ((size : ℕ) → 0 < size → is_read (read m (instr_at byte at ∷ xs) (at + size)) ≡ is_read (read n (instr_at byte at ∷ ys) (at + size)))
      → is_read (read (suc m) xs at) ≡ is_read (read (suc n) ys at)
  goes_alike m n xs ys at ih = go (leb end at) refl (size_at byte at end) refl
    where
      go : (a : Bool) → leb end at ≡ a → (o : Option ℕ) → size_at byte at end ≡ o → is_read (read (suc m) xs at) ≡ is_read (read (suc n) ys at)
      go true s o t = ends_alike (suc m) (suc n) xs ys at (leb-true end at s)
      go false s None t =
          let l = leb-false end at s in
          ap is_read (stops m xs (λ e. omega arith) (sym t)) ∙ sym (ap is_read (stops n ys (λ e. omega arith) (sym t)))
      go false s (Some size) t =
          let l = leb-false end at s in
          let k = stands byte at end (sym t) in
          ap is_read (further m xs (λ e. omega arith) k) ∙ ih size (omega (arith, k.is)) ∙ sym (ap is_read (further n ys (λ e. omega arith) k))

  -- whether code is read does not depend on what was read before it, nor on how many instructions are allowed, if they are as many as the bytes
  steady : (m n : ℕ) (xs ys : Code) (at : ℕ) → end ≤ at + m → end ≤ at + n → is_read (read m xs at) ≡ is_read (read n ys at)
  steady zero n xs ys at h k = ends_alike zero n xs ys at (omega arith)
  steady (suc m) zero xs ys at h k = ends_alike (suc m) zero xs ys at (omega arith)
  steady (suc m) (suc n) xs ys at h k =
      goes_alike m n xs ys at (λ size l. steady m n (instr_at byte at ∷ xs) (instr_at byte at ∷ ys) (at + size) (omega arith) (omega arith))

  -- code that decodes is read up to the end
  pub decoded_whole : (start : ℕ) → is_code byte end start ≡ true → (len : ℕ) → end ≤ start + len → Ok end ≡ item (read_code byte len start end)
  decoded_whole start t len h = go (read_code byte len start end) refl (steady len (end - start) [] [] start h (omega arith) ∙ t)
    where
      go : (d : Decoded Code) → read_code byte len start end ≡ d → is_read d ≡ true → Ok end ≡ item d
      go (decoded xs n) e r = ap Ok (sym (ended (read_instr byte) end len [] start e).ends)
      go (malformed p) e r = let z : ◌≡◌ {A = ℕ} 0 1 = cc in absurd (omega arith)

  -- what follows the instruction at an offset decides
  decides : (at : ℕ) → at < end → is_code byte end at ≡ pick (whole byte at end) (is_code byte end (at + 1 + width (byte at))) false
  decides at h = ap (λ (m : ℕ). is_read (read m [] at)) first ∙ go (whole byte at end) refl
    where
      first : end - at ≡ suc (end - at - 1)
      first = omega arith

      go : (b : Bool) → whole byte at end ≡ b → is_read (read (suc (end - at - 1)) [] at) ≡ pick b (is_code byte end (at + 1 + width (byte at))) false
      go true t =
          let k : Stands byte at end (1 + width (byte at)) = stands byte at end (rw t) in
          ap is_read (further (end - at - 1) [] (λ e. omega arith) k)
          ∙ ap (λ (p : ℕ). is_read (read (end - at - 1) (instr_at byte at ∷ []) p)) (omega arith)
          ∙ steady (end - at - 1) (end - (at + 1 + width (byte at))) (instr_at byte at ∷ []) [] (at + 1 + width (byte at)) (omega arith) (omega arith)
      go false t = ap is_read (stops (end - at - 1) [] (λ e. omega arith) (rw t))

  -- the four bits behind an offset give its own: that of the offset behind its instruction
  turn : (at : ℕ) → at < end → four (is_code byte end) (at + 1) / 2 ^ (entry (byte at) % 64) % 2 ≡ bit (is_code byte end at)
  turn at h = rw (decides at h) (known (leb (byte at) op_last) refl)
    where
      known : (a : Bool) → leb (byte at) op_last ≡ a
          → four (is_code byte end) (at + 1) / 2 ^ (pick a (width (byte at)) 255 % 64) % 2
          ≡ bit (pick (both a (leb (at + 1 + width (byte at)) end)) (is_code byte end (at + 1 + width (byte at))) false)
      known false s = unpicked (is_code byte end) (at + 1)
      known true s = picked (is_code byte end) (at + 1) (width (byte at)) (width_most (byte at)) ∙ ap bit (inside (leb (at + 1 + width (byte at)) end) refl)
        where
          inside : (b : Bool) → leb (at + 1 + width (byte at)) end ≡ b → is_code byte end (at + 1 + width (byte at)) ≡ pick b (is_code byte end (at + 1 + width (byte at))) false
          inside true t = refl
          inside false t = past _ [] _ (leb-false (at + 1 + width (byte at)) end t)

  -- the loop at an offset: the bits are those of the offset and the next three
  pub record BackLoop (start at good : ℕ) : Type 0 where
    pub order : start ≤ at
    pub within : at ≤ end
    pub is : good ≡ four (is_code byte end) at

  pub back_begins : {start : ℕ} → start ≤ end → BackLoop start end 1
  back_begins h =
      let p : (k : ℕ) → end < end + k → is_code byte end (end + k) ≡ false = λ k. past (end - (end + k)) [] (end + k) in
      record {
        order = h;
        within = omega arith;
        is = alone (is_code byte end) end (ap is_read (at-end (read_instr byte) end (end - end) [] end refl)) (p 1 (omega arith)) (p 2 (omega arith)) (p 3 (omega arith));
      }

  pub back_again : {start at good w : ℕ} → BackLoop start at good → start < at → w ≡ entry (byte (at - 1))
      → BackLoop start (at - 1) (good % 8 * 2 + good / 2 ^ (w % 64) % 2)
  back_again {start} {at} {good} {w} l h e =
      let g : ℕ → ℕ = four (is_code byte end) in
      let i : good ≡ g (at - 1 + 1) = l.is ∙ ap g (omega arith) in
      record {
        order = omega arith;
        within = omega (arith, l.within);
        is =
            ap (λ (n : ℕ). n % 8 * 2 + n / 2 ^ (w % 64) % 2) i
            ∙ ap (λ (v : ℕ). g (at - 1 + 1) % 8 * 2 + g (at - 1 + 1) / 2 ^ (v % 64) % 2) e
            ∙ ap (λ (x : ℕ). g (at - 1 + 1) % 8 * 2 + x) (turn (at - 1) (omega (arith, l.within)))
            ∙ shifted (is_code byte end) (at - 1);
      }

  pub back_ends : {start at good : ℕ} → BackLoop start at good → at ≤ start → eqb (good % 2) 1 ≡ is_code byte end start
  back_ends {start} {at} {good} l h = ap (λ (n : ℕ). eqb (n % 2) 1) l.is ∙ lowest (is_code byte end) at ∙ ap (is_code byte end) (omega (arith, l.order))
