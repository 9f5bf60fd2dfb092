-- Laws of bytes stored from an offset on.
use Prim.Native.Nat.{ℕ, zero, suc, ◌+◌, ◌≤◌, ◌<◌}
use native.Mathlib.Omega.{arith}
use native.Mathlib.Nat.{zero-add}
use native.Mathlib.Numerals.{add-one}
use mathlib.Core.List.{[], ◌∷◌, ◌++◌}
use mathlib.Core.Path.{◌≡◌, refl, sym, ap, ◌∙◌}
use lib.ListN.{length, get_or, set, take, drop, replicate, length-replicate}
use lib.Seq.{sets, sets-eq, set-set, set_comm, length-take-le, take-suc, take-set-le, drop-set-lt, get_or-take, take-nil, drop-nil}
use Rattle.definition.specs.Basic.{Bytes}
use Rattle.definition.specs.Output.{over}

-- more bytes behind
pub sets_append : (l : Bytes) (i : ℕ) {j : ℕ} (xs ys : Bytes) → i + length xs ≡ j → sets (sets l i xs) j ys ≡ sets l i (xs ++ ys)
sets_append l i {j} [] ys e = let k : j ≡ i = omega arith in ap (λ n. sets l n ys) k
sets_append l i {j} (x ∷ xs) ys e = sets_append (set l i x) (suc i) {j = j} xs ys (omega arith)

-- one byte in front
set_before : (l : Bytes) {i j : ℕ} (a : ℕ) (xs : Bytes) → i < j → set (sets l j xs) i a ≡ sets (set l i a) j xs
set_before l a [] h = refl
set_before l {i} {j} a (x ∷ xs) h = set_before (set l j x) a xs (omega arith) ∙ ap (λ m. sets m (suc j) xs) (set_comm l j i x a (λ e. omega arith))

-- bytes in front
pub sets_before : (l : Bytes) (i : ℕ) {j : ℕ} (xs ys : Bytes) → i + length xs ≡ j → sets (sets l j ys) i xs ≡ sets l i (xs ++ ys)
sets_before l i {j} [] ys e = let k : j ≡ i = omega arith in ap (λ n. sets l n ys) k
sets_before l i {j} (x ∷ xs) ys e = ap (λ m. sets m (suc i) xs) (set_before l x ys (omega arith)) ∙ sets_before (set l i x) (suc i) {j = j} xs ys (omega arith)

-- as many bytes again
pub sets_again : (l : Bytes) (i : ℕ) (xs ys : Bytes) → length xs ≡ length ys → sets (sets l i xs) i ys ≡ sets l i ys
sets_again l i [] ys h = refl
sets_again l i (x ∷ xs) [] h = absurd (omega arith)
sets_again l i (x ∷ xs) (y ∷ ys) h =
    ap (λ m. sets m (suc i) ys) (set_before (set l i x) y xs (omega arith) ∙ ap (λ m. sets m (suc i) xs) (set-set l i x y))
    ∙ sets_again (set l i y) (suc i) xs ys (omega arith)

-- as many bytes again at the front of what was stored
pub sets_front : (l : Bytes) (i : ℕ) (xs ys zs : Bytes) → length xs ≡ length ys → sets (sets l i (xs ++ zs)) i ys ≡ sets l i (ys ++ zs)
sets_front l i xs ys zs h =
    ap (λ m. sets m i ys) (sym (sets_append l i xs zs (ap (λ n. i + n) h)))
    ∙ sets_before (sets l i xs) i ys zs refl
    ∙ sym (sets_append (sets l i xs) i ys zs refl)
    ∙ ap (λ m. sets m (i + length ys) zs) (sets_again l i xs ys h)
    ∙ sets_append l i ys zs refl

-- behind a first byte
sets_cons : (x : ℕ) (l : Bytes) (i : ℕ) (xs : Bytes) → sets (x ∷ l) (suc i) xs ≡ x ∷ sets l i xs
sets_cons x l i [] = refl
sets_cons x l i (y ∷ ys) = sets_cons x (set l i y) (suc i) ys

-- the bytes that are there
pub sets_same : (l : Bytes) (i n : ℕ) → sets l i (take n (drop i l)) ≡ l
sets_same [] i n = rw (drop-nil, take-nil) refl
sets_same (x ∷ l) zero zero = refl
sets_same (x ∷ l) zero (suc n) = sets_cons x l 0 (take n l) ∙ ap (λ m. x ∷ m) (sets_same l 0 n)
sets_same (x ∷ l) (suc i) n = sets_cons x l i (take n (drop i l)) ∙ ap (λ m. x ∷ m) (sets_same l i n)

-- at the front
pub sets_over : (l xs : Bytes) → length xs ≤ length l → sets l 0 xs ≡ over xs l
sets_over l xs h = sets-eq xs l 0 (omega arith) ∙ ap (λ k. xs ++ drop k l) (zero-add (length xs))

-- what is in front stays
pub take_sets : (l : Bytes) (i n : ℕ) (xs : Bytes) → n ≤ i → take n (sets l i xs) ≡ take n l
take_sets l i n [] h = refl
take_sets l i n (x ∷ xs) h = take_sets (set l i x) (suc i) n xs (omega arith) ∙ take-set-le n l i x h

-- and so does what is behind
pub drop_sets : (l : Bytes) (i n : ℕ) (xs : Bytes) → i + length xs ≤ n → drop n (sets l i xs) ≡ drop n l
drop_sets l i n [] h = refl
drop_sets l i n (x ∷ xs) h = drop_sets (set l i x) (suc i) n xs (omega arith) ∙ drop-set-lt n l i x (omega arith)

-- byte by byte, too
pub get_d_sets : (l : Bytes) (i j : ℕ) (xs : Bytes) → j < i → get_or (sets l i xs) j 0 ≡ get_or l j 0
get_d_sets l i j xs h = sym (get_or-take i (sets l i xs) j 0 h) ∙ ap (λ m. get_or m j 0) (take_sets l i i xs (omega arith)) ∙ get_or-take i l j 0 h

-- zeros stored where zeros were restore them
pub restored : (l : Bytes) (i : ℕ) (xs : Bytes) → take (length xs) (drop i l) ≡ replicate (length xs) 0 → sets (sets l i xs) i (replicate (length xs) 0) ≡ l
restored l i xs z = sets_again l i xs (replicate (length xs) 0) (sym (length-replicate (length xs) 0)) ∙ ap (sets l i) (sym z) ∙ sets_same l i (length xs)

-- one byte more
stored_one : (o : Bytes) (i : ℕ) (xs : Bytes) {m n : Bytes} {j : ℕ} (b : ℕ) → m ≡ sets o i xs → n ≡ set m j b → j ≡ i + length xs → n ≡ sets o i (xs ++ (b ∷ []))
stored_one o i xs {j = j} b e f g = f ∙ ap (λ l. set l j b) e ∙ sets_append o i {j = j} xs (b ∷ []) (sym g)

-- one more of the bytes put
pub taken_one : (o : Bytes) (i : ℕ) (bs : Bytes) (k : ℕ) {m n : Bytes} → k < length bs → m ≡ sets o i (take k bs) → n ≡ set m (i + k) (get_or bs k 0) → n ≡ sets o i (take (k + 1) bs)
taken_one o i bs k h e f =
    let n : length (take k bs) ≡ k = length-take-le k bs (omega arith) in
    stored_one o i (take k bs) (get_or bs k 0) e f (omega arith) ∙ ap (sets o i) (sym (take-suc bs k 0 h)) ∙ ap (λ j. sets o i (take j bs)) (sym (add-one k))
