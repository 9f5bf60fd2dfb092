-- A text put at an offset by a writer that begins there, or at the output's end where the offset is behind it.
use Prim.Native.Nat.{ℕ, zero, suc, ◌+◌, ◌-◌, ◌*◌, ◌≤◌, min}
use native.Mathlib.Omega.{arith}
use mathlib.Core.Bool.{Bool, true, false}
use mathlib.Core.Path.{◌≡◌, refl, sym, ap, ◌∙◌}
use lib.Dec.{leb}
use lib.ListN.{length, take, drop}
use lib.Seq.{sets}
use borrow.Author.Tests.{leb-true, leb-false}
use Rattle.definition.specs.Basic.{Bytes, byte_at}
use Rattle.definition.specs.Field.{bytes}
use Rattle.definition.specs.Listing.{hex_field}
use Rattle.definition.proofs.Bytes.{bytes_slice, length-bytes}
use Rattle.listing.specs.declared.text.Writer.{Writer}
use Rattle.listing.specs.Put.{Puts}
use Rattle.listing.proofs.Puts.{sets_past}
use Rattle.listing.proofs.Numbers.{length-hex}

-- where it begins makes no difference: behind the end nothing is stored
begins : (l : Bytes) (at : ℕ) {start : ℕ} (t : Bytes) → start ≡ min at (length l) → sets l start t ≡ sets l at t
begins l at {start} t e = go (leb at (length l)) refl
  where
    go : (b : Bool) → leb at (length l) ≡ b → sets l start t ≡ sets l at t
    go true k = let h = leb-true _ _ k in let s : start ≡ at = omega (arith, e) in ap (λ i. sets l i t) s
    go false k = let h = leb-false _ _ k in sets_past l start t (omega (arith, e)) ∙ sym (sets_past l at t (omega arith))

-- what a writer that begins there stored
pub stored_at : {w w' : Writer} {l t : Bytes} (at : ℕ) → w.at ≡ min at (length l) → w.output.now ≡ l → Puts w w' t
    → w'.output.now ≡ sets l at t
stored_at {w} {l = l} {t = t} at e o p = p.stored ∙ ap (λ m. sets m w.at t) o ∙ begins l at t e

-- the bytes from an offset on, as a part of all
pub slice : (b : Bytes) (from len : ℕ) → from + len ≤ length b → take (from + len - from) (drop from b) ≡ bytes (byte_at b) from len
slice b from len h =
    let n : from + len - from ≡ len = omega arith in
    ap (λ k. take k (drop from b)) n ∙ sym (bytes_slice b from len h)

-- a space, and two digits a byte
pub hex_field-length : (b : Bytes) (from len : ℕ) → (len ≡ 0 → ⊥) → 1 + 2 * len ≡ length (hex_field (bytes (byte_at b) from len))
hex_field-length b from zero h = absurd (h refl)
hex_field-length b from (suc n) h =
    let content = bytes (byte_at b) from (suc n) in
    omega (arith, length-hex content, length-bytes (byte_at b) from (suc n))
