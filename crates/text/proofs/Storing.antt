-- Bytes of a tree stored in an output: heads in front, parts behind, and parts moved further back.
use Prim.Native.Nat.{ℕ, ◌+◌, ◌-◌, ◌≤◌}
use native.Mathlib.Omega.{arith}
use mathlib.Core.List.{◌++◌, append_assoc}
use mathlib.Core.Path.{◌≡◌, refl, sym, ap, ◌∙◌}
use lib.ListN.{length, take, drop, length-append, length-drop, take-append-drop}
use lib.Seq.{sets, sets-eq, length-sets, length-take-le, take_at, drop_at}
use Rattle.std.specs.List.{copy_within}
use Rattle.definition.specs.Basic.{Bytes, byte_at}
use Rattle.definition.specs.Field.{bytes}
use Rattle.definition.proofs.Bytes.{bytes_slice}
use borrow.Author.Tests.{le-ltb}
use Rattle.text.specs.Parts.{moved_by}
use Rattle.session.proofs.Stores.{sets_append, sets_before, sets_again}

-- at least as many bytes again
pub sets_longer : (l : Bytes) (i : ℕ) (xs ys : Bytes) → length xs ≤ length ys → sets (sets l i xs) i ys ≡ sets l i ys
sets_longer l i xs ys h =
    let n = length xs in
    let e : length (take n ys) ≡ n = length-take-le n ys h in
    let f = sym (take-append-drop n ys) in
    ap (sets (sets l i xs) i) f
    ∙ sym (sets_append (sets l i xs) i (take n ys) (drop n ys) refl)
    ∙ ap (λ m. sets m (i + length (take n ys)) (drop n ys)) (sets_again l i xs (take n ys) (sym e))
    ∙ sets_append l i (take n ys) (drop n ys) refl
    ∙ ap (sets l i) (take-append-drop n ys)

-- what was stored stands there
pub stored_bytes : (l : Bytes) (i : ℕ) (xs : Bytes) → i + length xs ≤ length l → bytes (byte_at (sets l i xs)) i (length xs) ≡ xs
stored_bytes l i xs h =
    let k : length (take i l) ≡ i = length-take-le i l (omega arith) in
    bytes_slice (sets l i xs) i (length xs) (omega (arith, length-sets l i xs))
    ∙ ap (λ m. take (length xs) (drop i m)) (sets-eq xs l i h ∙ append_assoc (take i l) xs (drop (i + length xs) l))
    ∙ ap (take (length xs)) (drop_at (take i l) (xs ++ drop (i + length xs) l) i k)
    ∙ take_at xs (drop (i + length xs) l) (length xs) refl

-- a part moved back by a head, the rest behind it, the head in front
pub head_inserted : (l : Bytes) (i : ℕ) (h xs ys : Bytes) {j k : ℕ} → j ≡ i + length h → k ≡ j + length xs → sets (sets (sets (sets l i xs) j xs) k ys) i h ≡ sets l i (h ++ (xs ++ ys))
head_inserted l i h xs ys {j} {k} e f =
    ap (λ m. sets m i h) (sets_append (sets l i xs) j {j = k} xs ys (sym f))
    ∙ sets_before (sets l i xs) i {j = j} h (xs ++ ys) (sym e)
    ∙ sets_longer l i xs (h ++ (xs ++ ys)) (omega (arith, length-append h (xs ++ ys), length-append xs ys))

-- a part moved back behind a longer front, stored in two pieces
pub front_replaced : (l : Bytes) (i : ℕ) (front h n xs : Bytes) {j k : ℕ} → length front ≤ length h + length n → j ≡ i + length h → k ≡ j + length n → sets (sets (sets (sets l i (front ++ xs)) k xs) j n) i h ≡ sets l i (h ++ (n ++ xs))
front_replaced l i front h n xs {j} {k} a e f =
    ap (λ m. sets m i h) (sets_before (sets l i (front ++ xs)) j {j = k} n xs (sym f))
    ∙ sets_before (sets l i (front ++ xs)) i {j = j} h (n ++ xs) (sym e)
    ∙ sets_longer l i (front ++ xs) (h ++ (n ++ xs)) (omega (arith, length-append front xs, length-append h (n ++ xs), length-append n xs))

-- the same where the part begins behind the front
pub behind_front : (l : Bytes) (i : ℕ) (front xs : Bytes) {j : ℕ} → j ≡ i + length front → j + length xs ≤ length l → bytes (byte_at (sets l i (front ++ xs))) j (length xs) ≡ xs
behind_front l i front xs {j} e h =
    ap (λ m. bytes (byte_at m) j (length xs)) (sym (sets_append l i {j = j} front xs (sym e)))
    ∙ stored_bytes (sets l i front) j xs (omega (arith, length-sets l i front))

-- bytes moved back by the library's copy
pub moved_within : (l : Bytes) (from end by : ℕ) → from ≤ end → end + by ≤ length l → copy_within l from end (from + by) ≡ moved_by l from end by
moved_within l from end by h k =
    let n : length (take (end - from) (drop from l)) ≡ end - from = length-take-le (end - from) (drop from l) (omega (arith, length-drop from l)) in
    rw (le-ltb (length l) (end + by) k)
    (ap (λ m. take (from + by) l ++ take (end - from) (drop from l) ++ drop (from + by + m) l) (sym n)
    ∙ sym (sets-eq (take (end - from) (drop from l)) l (from + by) (omega (arith, n)))
    ∙ ap (sets l (from + by)) (sym (bytes_slice l from (end - from) (omega arith))))
