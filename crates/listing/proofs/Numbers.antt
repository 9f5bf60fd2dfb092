-- Big-endian numbers, signs, and bytes in hexadecimal.
use Prim.Native.Nat.{ℕ, suc, ◌+◌, ◌-◌, ◌*◌, ◌^◌, ◌≤◌, ◌<◌}
use mathlib.Core.Bool.{Bool, true, false}
use native.Mathlib.Omega.{arith}
use mathlib.Core.Path.{◌≡◌, refl, sym, ap, subst, ◌∙◌}
use mathlib.Core.List.{[], ◌∷◌, ◌++◌}
use lib.ListN.{length, take, get_or}
use lib.Dec.{ltb}
use lib.Seq.{take-suc, take-length}
use native.Mathlib.Numerals.{add-one}
use borrow.Author.Tests.{lt-ltb, le-ltb, ltb-true, ltb-false}
use Rattle.std.specs.Prelude.{ℤ, unsigned_abs}
use Rattle.std.specs.Int.{cast_signed, cast_unsigned, is_negative, w64}
use Rattle.std.proofs.lemmas.Int.{to_z_pos, of_z-to_z}
use Rattle.std.proofs.Math.Facts.{to_z-neg}
use Rattle.definition.specs.Basic.{Bytes, byte_at}
use Rattle.definition.proofs.Bytes.{bytes_slice}
use Rattle.definition.specs.Field.{bytes}
use Rattle.definition.specs.Text.{ascii, decimal, number, signed, hex}
use Rattle.definition.specs.Listing.{hex_field}

-- eight bytes in two's complement: the sign is that of the first byte
module _ (b : Bytes) (long : length b ≡ 8) (below : (i : ℕ) → byte_at b i < 256) where
  eight : number 0 b ≡ number 0 (bytes (byte_at b) 0 8)
  eight = sym (ap (number 0) (ap (bytes (byte_at b) 0) (sym long) ∙ bytes_slice b 0 (length b) (omega arith) ∙ take-length b))

  -- the text of a number, by its sign
  pub record Shown (z : ℤ) : Type 0 where
    pub negative : is_negative z ≡ true → ascii "-" ++ decimal (unsigned_abs z) ≡ signed b
    pub positive : is_negative z ≡ false → decimal (unsigned_abs z) ≡ signed b

  small : number 0 b < 2 ^ 64
  small = omega (arith, eight, below 0, below 1, below 2, below 3, below 4, below 5, below 6, below 7)

  pub shown : {z : ℤ} → z ≡ cast_signed w64 (number 0 b) → Shown (cast_signed w64 (cast_unsigned w64 z))
  shown e = subst Shown (sym (ap (cast_signed w64) (ap (cast_unsigned w64) e ∙ of_z-to_z w64 (number 0 b) small))) (go (ltb (number 0 b) (2 ^ 63)) refl)
    where
      go : (t : Bool) → ltb (number 0 b) (2 ^ 63) ≡ t → Shown (cast_signed w64 (number 0 b))
      go true t =
          let h = ltb-true (number 0 b) (2 ^ 63) t in
          let l : byte_at b 0 < 128 = omega (arith, eight, h) in
          subst Shown (sym (to_z_pos w64 (number 0 b) h)) (record { negative = λ x. absurd (omega (arith, ltb-true (number 0 b) 0 x)); positive = λ x. rw (lt-ltb (byte_at b 0) 128 l) })
      go false t =
          let h = ltb-false (number 0 b) (2 ^ 63) t in
          let l : 128 ≤ byte_at b 0 = omega (arith, eight, h, below 1, below 2, below 3, below 4, below 5, below 6, below 7) in
          let k = 2 ^ 64 - 1 - number 0 b in
          let f : 2 ^ 64 - suc k ≡ number 0 b = omega (arith, small) in
          let g : suc k ≡ 2 ^ 64 - number 0 b = omega (arith, small) in
          subst Shown (sym (to_z-neg w64 k (omega (arith, h))) ∙ ap (cast_signed w64) f) (record { negative = λ x. rw (le-ltb (byte_at b 0) 128 l) (ap (λ n. ascii "-" ++ decimal n) g); positive = λ x. cc })

-- bytes in hexadecimal, and one more
hex-append : (s t : Bytes) → hex (s ++ t) ≡ hex s ++ hex t
hex-append [] t = refl
hex-append (b ∷ s) t = ap (λ (r : Bytes). hex (b ∷ []) ++ r) (hex-append s t)

pub hex_again : (t : Bytes) (k : ℕ) → k < length t → hex (take k t) ++ hex (get_or t k 0 ∷ []) ≡ hex (take (k + 1) t)
hex_again t k h = sym (hex-append (take k t) (get_or t k 0 ∷ [])) ∙ ap hex (sym (take-suc t k 0 h)) ∙ ap (λ j. hex (take j t)) (sym (add-one k))

-- no field for no bytes, and one for some
pub no_hex : (b : Bytes) → length b ≡ 0 → [] ≡ hex_field b
no_hex [] e = refl
no_hex (x ∷ b) e = absurd (omega arith)

pub some_hex : (b : Bytes) → (length b ≡ 0 → ⊥) → (0x20 ∷ []) ++ hex b ≡ hex_field b
some_hex [] n = absurd (n refl)
some_hex (x ∷ b) n = refl

pub length-hex : (b : Bytes) → length (hex b) ≡ 2 * length b
length-hex [] = refl
length-hex (b ∷ bs) = let e = length-hex bs in omega arith
