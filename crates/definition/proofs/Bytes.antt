-- Bytes that stand at an offset of a byte function, and numbers of one and two bytes.
use Prim.Native.Nat.{ℕ, zero, suc, ◌+◌, ◌*◌, ◌/◌, ◌%◌, ◌≤◌, ◌<◌}
use native.Mathlib.Omega.{arith}
use native.Mathlib.Numerals.{add-one}
use mathlib.Core.List.{[], ◌∷◌, ◌++◌}
use mathlib.Core.Path.{◌≡◌, refl, sym, ap, ◌∙◌}
use lib.ListN.{length, get_or, take, drop, length-append}
use lib.Seq.{drop-cons, take-append_seam, take-length}
use Rattle.definition.specs.Basic.{Bytes, byte_at}
use Rattle.definition.specs.Field.{bytes}

-- a number below 256 in one byte
pub one-byte : (n : ℕ) → n < 256 → n % 256 ≡ n
one-byte n h = omega arith

-- a number below 65,536 in two bytes
pub two_bytes : (n : ℕ) → n < 65536 → n / 256 % 256 * 256 + n % 256 ≡ n
two_bytes n h = omega arith

-- the first byte of a number of two bytes
pub high_byte : (a b : ℕ) → a < 256 → b < 256 → (a * 256 + b) / 256 % 256 ≡ a
high_byte a b p q = omega arith

-- the second byte
pub low_byte : (a b : ℕ) → b < 256 → (a * 256 + b) % 256 ≡ b
low_byte a b q = omega arith

-- so many bytes of a list
pub bytes_slice : (b : Bytes) (at n : ℕ) → at + n ≤ length b → bytes (byte_at b) at n ≡ take n (drop at b)
bytes_slice b at zero h = refl
bytes_slice b at (suc n) h =
    let lt : at < length b = omega arith in
    rw (drop-cons b at 0 lt) (ap (λ l. get_or b at 0 ∷ l) (bytes_slice b (at + 1) n (omega arith) ∙ rw (add-one at) refl))

-- from an offset on the bytes are `xs`
pub record Stands (byte : ℕ → ℕ) (at : ℕ) (xs : Bytes) : Type 0 where
  pub same : bytes byte at (length xs) ≡ xs

-- so many bytes
pub length-bytes : (byte : ℕ → ℕ) (at n : ℕ) → length (bytes byte at n) ≡ n
length-bytes byte at zero = refl
length-bytes byte at (suc n) = ap suc (length-bytes byte (at + 1) n)

-- what is read stands there
pub bytes_stand : (byte : ℕ → ℕ) (at n : ℕ) → Stands byte at (bytes byte at n)
bytes_stand byte at n = record { same = ap (bytes byte at) (length-bytes byte at n) }

module _ {byte : ℕ → ℕ} where
  -- no bytes stand anywhere
  pub stands_nil : (at : ℕ) → Stands byte at []
  stands_nil at = record { same = refl }

  -- one byte more
  pub stands_cons : {at x : ℕ} {xs : Bytes} → byte at ≡ x → Stands byte (at + 1) xs → Stands byte at (x ∷ xs)
  stands_cons e s = record { same = λ i. e i ∷ s.same i }

  -- the first byte
  pub stands_head : {at x : ℕ} {xs : Bytes} → Stands byte at (x ∷ xs) → byte at ≡ x
  stands_head {at} {x} {xs} s = let e = s.same in cc

  -- the others
  pub stands_tail : {at x : ℕ} {xs : Bytes} → Stands byte at (x ∷ xs) → Stands byte (at + 1) xs
  stands_tail {at} {x} {xs} s = let e = s.same in record { same = cc }

  -- at an equal offset
  pub stands_at : {at to : ℕ} {xs : Bytes} → at ≡ to → Stands byte at xs → Stands byte to xs
  stands_at e s = rw e at s

  -- the first of two parts
  pub stands_left : {at : ℕ} (xs ys : Bytes) → Stands byte at (xs ++ ys) → Stands byte at xs
  stands_left {at} [] ys s = stands_nil at
  stands_left {at = at} (x ∷ xs) ys s = stands_cons (stands_head s) (stands_left {at = at + 1} xs ys (stands_tail s))

  -- the second of two parts, behind the first
  pub stands_right : {at : ℕ} (xs ys : Bytes) → Stands byte at (xs ++ ys) → Stands byte (at + length xs) ys
  stands_right [] ys s = stands_at (omega arith) s
  stands_right {at = at} (x ∷ xs) ys s = stands_at (omega arith) (stands_right {at = at + 1} xs ys (stands_tail s))

  -- two parts
  pub stands_append : {at : ℕ} {xs ys : Bytes} → Stands byte at xs → Stands byte (at + length xs) ys → Stands byte at (xs ++ ys)
  stands_append {xs = []} s t = stands_at (omega arith) t
  stands_append {at = at} {xs = x ∷ xs} s t = stands_cons (stands_head s) (stands_append {at = at + 1} {xs = xs} (stands_tail s) (stands_at (omega arith) t))

  -- a number of two bytes that stands, the second of them at `next`
  pub stands_number : {at : ℕ} (next n : ℕ) {xs : Bytes} → at + 1 ≡ next → n < 65536 → Stands byte at (n / 256 % 256 ∷ n % 256 ∷ xs) → byte at * 256 + byte next ≡ n
  stands_number next n e h s = (λ i. stands_head s i * 256 + (ap byte (sym e) ∙ stands_head (stands_tail s)) i) ∙ two_bytes n h

  -- two bytes are those of their number
  pub number_stands : ((i : ℕ) → byte i < 256) → {at n : ℕ} (next : ℕ) {xs : Bytes} → at + 1 ≡ next → byte at * 256 + byte next ≡ n → Stands byte (next + 1) xs
      → Stands byte at (n / 256 % 256 ∷ n % 256 ∷ xs)
  number_stands small {at} next e l s =
      let high = sym (high_byte (byte at) (byte next) (small at) (small next)) ∙ ap (λ m. m / 256 % 256) l in
      let low = sym (low_byte (byte at) (byte next) (small next)) ∙ ap (λ m. m % 256) l in
      stands_cons high (stands_at (sym e) (stands_cons low s))

-- a list's bytes stand in it
pub stands_front : (xs rest : Bytes) → Stands (byte_at (xs ++ rest)) 0 xs
stands_front xs rest = record { same = bytes_slice (xs ++ rest) 0 (length xs) (omega (arith, length-append xs rest)) ∙ take-append_seam xs rest }

-- a list stands in itself
pub stands_self : (b : Bytes) → Stands (byte_at b) 0 b
stands_self b = record { same = bytes_slice b 0 (length b) (omega arith) ∙ take-length b }

-- what stands at the front of a list is its front
pub stands_take : (b : Bytes) {xs : Bytes} → Stands (byte_at b) 0 xs → length xs ≤ length b → xs ≡ take (length xs) b
stands_take b {xs} s h = sym s.same ∙ bytes_slice b 0 (length xs) (omega arith)

-- and the whole list, if it is as long
pub stands_whole : (b : Bytes) {xs : Bytes} → Stands (byte_at b) 0 xs → length xs ≡ length b → xs ≡ b
stands_whole b {xs} s e = stands_take b s (omega arith) ∙ ap (λ n. take n b) e ∙ take-length b
